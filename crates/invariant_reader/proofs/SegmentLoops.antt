-- The expressions of a bound and the segments of a reference, as they are read one after another.
use Rattle.std.proofs.Common.{◌≡◌, ℕ, ◌+◌, ◌≤◌, ◌==◌, Bool, true, false, List, [], ◌∷◌, ◌++◌, length, drop, get_or}
use Rattle.std.proofs.Common.{Option, Some, refl, sym, ap, ap₂, ◌∙◌, arith, append_assoc}
use Rattle.std.specs.List.{AllByRecursion, flat_map, zip}
use Rattle.std.proofs.lemmas.List.{append-nil}
use Rattle.array_contents.specs.Contents.{Segments}
use Rattle.domain_api.specs.declared.expr.Expr.{Expr}
use Rattle.interval_domain.specs.Interval.{Interval}
use Rattle.number_spans.specs.Stored.{IsNarrow}
use Rattle.invariant_text.specs.Lines.{numbered}
use Rattle.invariant_text.specs.NumberTexts.{expr_text}
use Rattle.invariant_text.specs.ReferenceLines.{bound_text, exprs_text, next_expr, segments_text}
use Rattle.invariant_text.proofs.ExprReading.{EndsExpr}
use Rattle.invariant_text.proofs.ListReading.{AllFrom, all_from, all_zip, flat_numbered}
use Rattle.invariant_text.proofs.SegmentReading.{any_marks, each_of, first_and_others, others_count, segment_parts}
use Rattle.invariant_text.proofs.SegmentReading.{segments_parts, text_of}
use Rattle.invariant_reader.specs.CodeLines.{IsCodeBound, IsCodeSegment, IsCodeSegments, Segment}
use Rattle.invariant_reader.specs.CodeNumbers.{IsCodeExpr}
use Rattle.invariant_reader.specs.Expressions.{read_expr}
use Rattle.invariant_reader.specs.Prefixes.{and_then}
use Rattle.invariant_reader.specs.ReadsBack.{AnyEnd, ReadsBack}
use Rattle.invariant_reader.specs.SegmentReaders.{EndsBound, EndsSegments, begun, read_next_expr, with_segment}
use Rattle.invariant_reader.proofs.ExprReads.{expr_reads}
use Rattle.invariant_reader.proofs.Repeats.{AreHeaded, AreReadable, IsHeaded, ReadsNext, Repeat, add_all, all_added, with_one}

-- ---- expressions

abbrev pub exprs_loop : Repeat (List Expr) Expr
exprs_loop = record {
  text_of = λ n e. next_expr e;
  Is = λ n e. IsCodeExpr e;
  Ends = EndsExpr;
  begins = λ text. get_or text 0 0 == 44;
  add = with_one;
}

pub exprs_readable : AreReadable exprs_loop
exprs_readable = record {
  begun = λ n e r is. refl;
  ends = λ n e r is. record { no_digit = refl; not_added = refl };
  none = refl;
}

pub next_read : (text : List ℕ) → ReadsNext exprs_loop text (read_next_expr text)
next_read text = record {
  reads = λ n e rest small ends same. ap read_next_expr same ∙ expr_reads e rest small ends;
}

abbrev pub one_expr : Expr → List Expr
one_expr e = e ∷ []

next_end : (es : List Expr) (r : List ℕ) → EndsBound r → EndsExpr (flat_map next_expr es ++ r)
next_end [] r ends = ends.expr
next_end (e ∷ es) r ends = record { no_digit = refl; not_added = refl }

exprs_head : (text : List ℕ) (bound : List Expr) (behind : List ℕ) → IsCodeBound bound → EndsBound behind
    → text ≡ exprs_text bound ++ behind → IsHeaded exprs_loop one_expr 0 (read_expr text) bound behind
exprs_head text [] behind is ends same = absurd (omega (arith, is.some))
exprs_head text (e ∷ es) behind is ends same =
    let rest : flat_map next_expr es ++ behind ≡ numbered exprs_loop.text_of 0 es ++ behind =
    ap (λ (prefix : List ℕ). prefix ++ behind) (flat_numbered next_expr 0 es) in
    record {
      item = e;
      items = es;
      head_is = ap read_expr (same ∙ append_assoc (expr_text e) (flat_map next_expr es) behind)
          ∙ expr_reads e (flat_map next_expr es ++ behind) is.each.0 (next_end es behind ends)
          ∙ ap (λ (r : List ℕ). Some (e, r)) rest;
      each = all_from IsCodeExpr 0 es is.each.1;
      is_behind = record { ends = ends.expr; other = ends.last };
      whole_is = all_added (e ∷ []) es;
    }

pub exprs_headed : (text : List ℕ)
    → AreHeaded exprs_loop one_expr 0 (read_expr text) exprs_text IsCodeBound EndsBound text
exprs_headed text = record { headed = exprs_head text }

-- ---- segments

abbrev pub segments_loop : Repeat Segments Segment
segments_loop = record {
  text_of = λ n s. text_of s;
  Is = λ n s. IsCodeSegment s;
  Ends = AnyEnd;
  begins = λ text. get_or text 0 0 == 32;
  add = with_segment;
}

pub segments_readable : AreReadable segments_loop
segments_readable = record {
  begun = λ n s r is. ap (λ (text : List ℕ). get_or text 0 0 == 32) (segment_parts s r);
  ends = λ n s r is. tt;
  none = refl;
}

abbrev segments : List (List Expr) → List Interval → List Bool → Segments
segments bounds contents marks = record { bounds = bounds; contents = contents; marks = marks }

-- All segments behind these.
all_joined : (bounds : List (List Expr)) (contents : List Interval) (marks : List Bool) (cs : List Interval)
    (ms : List Bool) (es : List (List Expr)) → length ms ≡ length cs → length es ≡ length cs
    → add_all with_segment (segments bounds contents marks) (zip cs (zip ms es))
    ≡ segments (bounds ++ es) (contents ++ cs) (marks ++ ms)
all_joined bounds contents marks [] [] [] marked ended =
    (λ i. segments (sym (append-nil bounds) i) (sym (append-nil contents) i) (sym (append-nil marks) i))
all_joined bounds contents marks [] [] (e ∷ es) marked ended = absurd (omega (arith, ended))
all_joined bounds contents marks [] (m ∷ ms) es marked ended = absurd (omega (arith, marked))
all_joined bounds contents marks (c ∷ cs) [] es marked ended = absurd (omega (arith, marked))
all_joined bounds contents marks (c ∷ cs) (m ∷ ms) [] marked ended = absurd (omega (arith, ended))
all_joined bounds contents marks (c ∷ cs) (m ∷ ms) (e ∷ es) marked ended =
    all_joined (bounds ++ e ∷ []) (contents ++ c ∷ []) (marks ++ m ∷ []) cs ms es (omega (arith, marked))
    (omega (arith, ended))
    ∙ (λ i. segments (append_assoc bounds (e ∷ []) es i) (append_assoc contents (c ∷ []) cs i)
    (append_assoc marks (m ∷ []) ms i))

first_code : (bounds : List (List Expr)) (n : ℕ) → length bounds ≡ n + 1 → AllByRecursion IsCodeBound bounds
    → IsCodeBound (get_or bounds 0 [])
first_code [] n counted all = absurd (omega (arith, counted))
first_code (b ∷ bounds) n counted all = all.0

others_code : (bounds : List (List Expr)) → AllByRecursion IsCodeBound bounds
    → AllByRecursion IsCodeBound (drop 1 bounds)
others_code [] all = tt
others_code (b ∷ bounds) all = all.1

each_code : (s : Segments) → IsCodeSegments s → AllByRecursion IsCodeSegment (each_of s)
each_code s is =
    all_zip IsNarrow (λ (p : Bool × List Expr). Unit {0} × IsCodeBound p.1) s.contents (zip s.marks (drop 1 s.bounds))
    is.narrow
    (all_zip (λ (m : Bool). Unit {0}) IsCodeBound s.marks (drop 1 s.bounds) (any_marks s.marks)
    (others_code s.bounds is.bounds))

segments_whole : (s : Segments) → IsCodeSegments s
    → add_all with_segment (begun (get_or s.bounds 0 [])) (each_of s) ≡ s
segments_whole s is =
    let n = length s.contents in
    let both = first_and_others s.bounds n is.form.bounded in
    all_joined (get_or s.bounds 0 [] ∷ []) [] [] s.contents s.marks (drop 1 s.bounds) is.form.marked
    (others_count s.bounds n is.form.bounded)
    ∙ (λ i. segments (sym both i) s.contents s.marks)

segments_head : (text : List ℕ) (head : Option (List Expr × List ℕ)) → ReadsBack bound_text IsCodeBound AnyEnd text head
    → (s : Segments) (behind : List ℕ) → IsCodeSegments s → EndsSegments behind → text ≡ segments_text s ++ behind
    → IsHeaded segments_loop begun 0 head s behind
segments_head text head reads s behind is ends same =
    let first = get_or s.bounds 0 [] in
    let rest : flat_map text_of (each_of s) ++ behind ≡ numbered segments_loop.text_of 0 (each_of s) ++ behind =
    ap (λ (prefix : List ℕ). prefix ++ behind) (flat_numbered text_of 0 (each_of s)) in
    record {
      item = first;
      items = each_of s;
      head_is = reads first (numbered segments_loop.text_of 0 (each_of s) ++ behind)
          (first_code s.bounds (length s.contents) is.form.bounded is.bounds) tt
          (same ∙ segments_parts s behind ∙ ap (λ (r : List ℕ). bound_text first ++ r) rest);
      each = all_from IsCodeSegment 0 (each_of s) (each_code s is);
      is_behind = record { ends = tt; other = ends };
      whole_is = segments_whole s is;
    }

pub segments_headed : (text : List ℕ) (head : Option (List Expr × List ℕ))
    → ReadsBack bound_text IsCodeBound AnyEnd text head
    → AreHeaded segments_loop begun 0 head segments_text IsCodeSegments EndsSegments text
segments_headed text head reads = record { headed = segments_head text head reads }

pub segment_next : (text : List ℕ) (read : Option (Segment × List ℕ)) → ReadsBack text_of IsCodeSegment AnyEnd text read
    → ReadsNext segments_loop text read
segment_next text read reads = record { reads = λ n s rest is ends same. reads s rest is ends same }
