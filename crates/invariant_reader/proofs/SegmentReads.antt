-- A bound and a segment are read back.
use Rattle.std.proofs.Common.{◌≡◌, ℕ, ◌==◌, Bool, true, false, List, [], ◌∷◌, ◌++◌, Option, Some, None, refl, sym, ap, ◌∙◌}
use Rattle.std.proofs.Common.{codes, get_or}
use Rattle.domain_api.specs.declared.expr.Expr.{Expr}
use Rattle.interval_domain.specs.Interval.{Interval}
use Rattle.invariant_text.specs.NumberTexts.{range_text}
use Rattle.invariant_text.specs.ReferenceLines.{bound_text, exprs_text, mark_text}
use Rattle.invariant_text.proofs.SegmentReading.{bound_parts, range_ends, segment_parts, text_of}
use Rattle.invariant_reader.specs.CodeLines.{IsCodeBound, IsCodeSegment, Segment}
use Rattle.invariant_reader.specs.Prefixes.{behind}
use Rattle.invariant_reader.specs.Ranges.{read_range}
use Rattle.invariant_reader.specs.ReadsBack.{AnyEnd, ReadsBack}
use Rattle.invariant_reader.specs.SegmentReaders.{EndsBound, read_mark}
use Rattle.invariant_reader.proofs.RangeReads.{range_reads}
use Rattle.invariant_reader.proofs.Repeats.{none_some, pair, read_of}

-- ---- a bound

bound_prefix : (text : List ℕ) (bound : List Expr) (r : List ℕ) → text ≡ bound_text bound ++ r
    → behind (codes " {") text ≡ Some (exprs_text bound ++ 125 ∷ r)
bound_prefix text bound r same = ap (behind (codes " {")) (same ∙ bound_parts bound r)

brace_ends : (r : List ℕ) → EndsBound (125 ∷ r)
brace_ends r = record { expr = record { no_digit = refl; not_added = refl }; last = refl }

pub bound_unbegun : (text : List ℕ) → None ≡ behind (codes " {") text → ReadsBack bound_text IsCodeBound AnyEnd text None
bound_unbegun text none bound r is ends same = absurd (none_some (none ∙ bound_prefix text bound r same))

exprs_of : (text left : List ℕ) (read : Option (List Expr × List ℕ)) → Some left ≡ behind (codes " {") text
    → ReadsBack exprs_text IsCodeBound EndsBound left read → (bound : List Expr) (r : List ℕ) → IsCodeBound bound
    → text ≡ bound_text bound ++ r → read ≡ Some (bound, 125 ∷ r)
exprs_of text left read begun reads bound r is same =
    reads bound (125 ∷ r) is (brace_ends r) (read_of (begun ∙ bound_prefix text bound r same))

pub exprs_missed : (text left : List ℕ) (read : Option (List Expr × List ℕ)) → Some left ≡ behind (codes " {") text
    → ReadsBack exprs_text IsCodeBound EndsBound left read → None ≡ read
    → ReadsBack bound_text IsCodeBound AnyEnd text None
exprs_missed text left read begun reads none bound r is ends same =
    absurd (none_some (none ∙ exprs_of text left read begun reads bound r is same))

pub bound_unended : (text left : List ℕ) (read : Option (List Expr × List ℕ)) (exprs : List Expr) (next : List ℕ)
    → Some left ≡ behind (codes " {") text → ReadsBack exprs_text IsCodeBound EndsBound left read
    → Some (pair exprs next) ≡ read → None ≡ behind (codes "}") next → ReadsBack bound_text IsCodeBound AnyEnd text None
bound_unended text left read exprs next begun reads some none bound r is ends same =
    let both = read_of (some ∙ exprs_of text left read begun reads bound r is same) in
    absurd (none_some (none ∙ ap (λ (p : List Expr × List ℕ). behind (codes "}") p.1) both))

pub bound_read : (text left : List ℕ) (read : Option (List Expr × List ℕ)) (exprs : List Expr) (next last : List ℕ)
    → Some left ≡ behind (codes " {") text → ReadsBack exprs_text IsCodeBound EndsBound left read
    → Some (pair exprs next) ≡ read → Some last ≡ behind (codes "}") next
    → ReadsBack bound_text IsCodeBound AnyEnd text (Some (pair exprs last))
bound_read text left read exprs next last begun reads some ended bound r is ends same =
    let both = read_of (some ∙ exprs_of text left read begun reads bound r is same) in
    let rest : last ≡ r = read_of (ended ∙ ap (λ (p : List Expr × List ℕ). behind (codes "}") p.1) both) in
    (λ i. Some (pair (both i).0 (rest i)))

-- ---- a segment

-- Behind a segment's range.
abbrev behind_range : Segment → List ℕ → List ℕ
behind_range s r = mark_text s.1.0 ++ (bound_text s.1.1 ++ r)

segment_prefix : (text : List ℕ) (s : Segment) (r : List ℕ) → text ≡ text_of s ++ r
    → behind (codes " ") text ≡ Some (range_text s.0 ++ behind_range s r)
segment_prefix text s r same = ap (behind (codes " ")) (same ∙ segment_parts s r)

range_of : (text left : List ℕ) → Some left ≡ behind (codes " ") text → (s : Segment) (r : List ℕ) → IsCodeSegment s
    → text ≡ text_of s ++ r → read_range left ≡ Some (s.0, behind_range s r)
range_of text left begun s r is same =
    ap read_range (read_of (begun ∙ segment_prefix text s r same))
    ∙ range_reads s.0 (behind_range s r) is.0 (range_ends s.1.0 s.1.1 r)

mark_back : (mark : Bool) (bound : List Expr) (r : List ℕ)
    → read_mark (mark_text mark ++ (bound_text bound ++ r)) ≡ (mark, bound_text bound ++ r)
mark_back true bound r = refl
mark_back false bound r = rw (bound_parts bound r) refl

pub segment_unbegun : (text : List ℕ) → None ≡ behind (codes " ") text → ReadsBack text_of IsCodeSegment AnyEnd text None
segment_unbegun text none s r is ends same = absurd (none_some (none ∙ segment_prefix text s r same))

pub range_missed : (text left : List ℕ) → Some left ≡ behind (codes " ") text → None ≡ read_range left
    → ReadsBack text_of IsCodeSegment AnyEnd text None
range_missed text left begun none s r is ends same = absurd (none_some (none ∙ range_of text left begun s r is same))

-- What was read of a segment before its bound.
pub record IsBeforeEnd (text : List ℕ) (content : Interval) (mark : Bool) (marked : List ℕ) : Type 0 where
  pub left : List ℕ
  pub next : List ℕ
  pub begun : Some left ≡ behind (codes " ") text
  pub range : Some (pair content next) ≡ read_range left
  pub mark_is : pair mark marked ≡ read_mark next

record IsAtEnd (content : Interval) (mark : Bool) (marked : List ℕ) (s : Segment) (r : List ℕ) : Type 0 where
  content_is : content ≡ s.0
  mark_is : mark ≡ s.1.0
  text_is : marked ≡ bound_text s.1.1 ++ r

at_end : (text : List ℕ) (content : Interval) (mark : Bool) (marked : List ℕ) → IsBeforeEnd text content mark marked
    → (s : Segment) (r : List ℕ) → IsCodeSegment s → text ≡ text_of s ++ r → IsAtEnd content mark marked s r
at_end text content mark marked before s r is same =
    let range = read_of (before.range ∙ range_of text before.left before.begun s r is same) in
    let both = before.mark_is ∙ ap (λ (p : Interval × List ℕ). read_mark p.1) range ∙ mark_back s.1.0 s.1.1 r in
    record {
      content_is = ap (λ (p : Interval × List ℕ). p.0) range;
      mark_is = ap (λ (p : Bool × List ℕ). p.0) both;
      text_is = ap (λ (p : Bool × List ℕ). p.1) both;
    }

pub end_missed : (text : List ℕ) (content : Interval) (mark : Bool) (marked : List ℕ)
    (read : Option (List Expr × List ℕ)) → IsBeforeEnd text content mark marked
    → ReadsBack bound_text IsCodeBound AnyEnd marked read → None ≡ read
    → ReadsBack text_of IsCodeSegment AnyEnd text None
end_missed text content mark marked read before reads none s r is ends same =
    let at = at_end text content mark marked before s r is same in
    absurd (none_some (none ∙ reads s.1.1 r is.1.1 tt (IsAtEnd.text_is at)))

abbrev pub segment : Interval → Bool → List Expr → Segment
segment content mark end = (content, (mark, end))

pub segment_read : (text : List ℕ) (content : Interval) (mark : Bool) (marked : List ℕ)
    (read : Option (List Expr × List ℕ)) (end : List Expr) (last : List ℕ) → IsBeforeEnd text content mark marked
    → ReadsBack bound_text IsCodeBound AnyEnd marked read → Some (pair end last) ≡ read
    → ReadsBack text_of IsCodeSegment AnyEnd text (Some (pair (segment content mark end) last))
segment_read text content mark marked read end last before reads some s r is ends same =
    let at = at_end text content mark marked before s r is same in
    let both = read_of (some ∙ reads s.1.1 r is.1.1 tt (IsAtEnd.text_is at)) in
    (λ i. Some (pair (segment (IsAtEnd.content_is at i) (IsAtEnd.mark_is at i) (both i).0) (both i).1))
