-- Of two texts of segments, each with the end of its line, the segments are the same where the texts are.
use Rattle.std.proofs.Common.{◌≡◌, ℕ, ◌+◌, ◌≤◌, ◌==◌, Bool, true, false, List, [], ◌∷◌, ◌++◌, length, drop, get_or}
use Rattle.std.proofs.Common.{refl, sym, ap, ap₂, ◌∙◌, arith, append_assoc, codes}
use Rattle.std.specs.List.{AllByRecursion, flat_map, zip}
use Rattle.std.proofs.lemmas.Slice.Zip.{length-zip}
use Rattle.array_contents.specs.Contents.{Segments}
use Rattle.array_segments.specs.SegmentLists.{HasForm}
use Rattle.domain_api.specs.declared.expr.Expr.{Expr}
use Rattle.interval_domain.specs.Interval.{Interval}
use Rattle.number_spans.specs.Stored.{IsNarrow}
use Rattle.invariant_text.specs.NumberTexts.{expr_text, range_text}
use Rattle.invariant_text.specs.ReferenceLines.{bound_text, each_segment, exprs_text, mark_text, next_expr}
use Rattle.invariant_text.specs.ReferenceLines.{segment_text, segments_text}
use Rattle.invariant_text.proofs.ExprReading.{EndsExpr, IsSmall, expr_read}
use Rattle.invariant_text.proofs.ListReading.{AreRead, all_from, all_zip, flat_numbered, items_read, zip_same}
use Rattle.invariant_text.proofs.RangeReading.{EndsRange, range_read}

-- ---- expressions with commas between

abbrev pub begins_with : ℕ → List ℕ → Bool
begins_with c text = get_or text 0 0 == c

next_exprs_read : AreRead (λ (n : ℕ) (e : Expr). next_expr e) (λ n e. IsSmall e) EndsExpr (begins_with 44)
next_exprs_read = record {
  begun = λ n e r small. refl;
  ends = λ n e r small. record { no_digit = refl; not_added = refl };
  read = λ n a b r q a_small b_small r_ends q_ends same. expr_read a b r q a_small b_small r_ends q_ends
      (ap (drop 2) same);
}

pub next_end : (es : List Expr) (r : List ℕ) → EndsExpr (flat_map next_expr es ++ 125 ∷ r)
next_end [] r = record { no_digit = refl; not_added = refl }
next_end (e ∷ es) r = record { no_digit = refl; not_added = refl }

exprs_read : (xs ys : List Expr) (r q : List ℕ) → 1 ≤ length xs → 1 ≤ length ys → AllByRecursion IsSmall xs
    → AllByRecursion IsSmall ys
    → exprs_text xs ++ 125 ∷ r ≡ exprs_text ys ++ 125 ∷ q → (xs ≡ ys) × (r ≡ q)
exprs_read [] ys r q x_some y_some x_all y_all same = absurd (omega (arith, x_some))
exprs_read (x ∷ xs) [] r q x_some y_some x_all y_all same = absurd (omega (arith, y_some))
exprs_read (x ∷ xs) (y ∷ ys) r q x_some y_some x_all y_all same =
    let first = expr_read x y (flat_map next_expr xs ++ 125 ∷ r) (flat_map next_expr ys ++ 125 ∷ q) x_all.0 y_all.0
    (next_end xs r) (next_end ys q)
    (sym (append_assoc (expr_text x) (flat_map next_expr xs) (125 ∷ r)) ∙ same ∙ append_assoc (expr_text y)
    (flat_map next_expr ys) (125 ∷ q)) in
    let numbers = λ (zs : List Expr) (text : List ℕ). ap (λ (prefix : List ℕ). prefix ++ 125 ∷ text)
    (flat_numbered next_expr 0 zs) in
    let others = items_read (λ (n : ℕ) (e : Expr). next_expr e) (λ n e. IsSmall e) EndsExpr (begins_with 44)
    next_exprs_read 0 xs ys (125 ∷ r) (125 ∷ q)
    (all_from IsSmall 0 xs x_all.1) (all_from IsSmall 0 ys y_all.1) (record { no_digit = refl; not_added = refl })
    (record { no_digit = refl; not_added = refl }) refl refl (sym (numbers xs r) ∙ first.1 ∙ numbers ys q) in
    (ap₂ (λ z zs. z ∷ zs) first.0 others.0, ap (drop 1) others.1)

-- ---- bounds

-- There is an expression at the bound, and their numbers have 64 bits.
pub record IsSmallBound (bound : List Expr) : Type 0 where
  pub some : 1 ≤ length bound
  pub small : AllByRecursion IsSmall bound

pub bound_parts : (bound : List Expr) (r : List ℕ) → bound_text bound ++ r ≡ 32 ∷ 123 ∷ (exprs_text bound ++ 125 ∷ r)
unfolding bound_text
bound_parts bound r =
    append_assoc (codes " {" ++ exprs_text bound) (codes "}") r ∙ append_assoc (codes " {") (exprs_text bound) (125 ∷ r)

bound_read : (x y : List Expr) (r q : List ℕ) → IsSmallBound x → IsSmallBound y → bound_text x ++ r ≡ bound_text y ++ q
    → (x ≡ y) × (r ≡ q)
bound_read x y r q x_small y_small same =
    exprs_read x y r q x_small.some y_small.some x_small.small y_small.small
    (ap (drop 2) (sym (bound_parts x r) ∙ same ∙ bound_parts y q))

-- ---- segments

-- What the items are in, the mark, and the bound where it ends.
abbrev pub Segment : Type 0
Segment = Interval × (Bool × List Expr)

abbrev pub text_of : Segment → List ℕ
text_of s = segment_text s.0 s.1.0 s.1.1

-- The range is one of int32, and the bound's numbers have 64 bits.
abbrev pub IsSmallSegment : Segment → Type 0
IsSmallSegment s = IsNarrow s.0 × (Unit {0} × IsSmallBound s.1.1)

pub segment_parts : (s : Segment) (r : List ℕ)
    → text_of s ++ r ≡ 32 ∷ (range_text s.0 ++ (mark_text s.1.0 ++ (bound_text s.1.1 ++ r)))
unfolding segment_text
segment_parts s r =
    append_assoc (codes " " ++ range_text s.0 ++ mark_text s.1.0) (bound_text s.1.1) r
    ∙ append_assoc (codes " " ++ range_text s.0) (mark_text s.1.0) (bound_text s.1.1 ++ r)
    ∙ append_assoc (codes " ") (range_text s.0) (mark_text s.1.0 ++ (bound_text s.1.1 ++ r))

pub range_ends : (mark : Bool) (bound : List Expr) (r : List ℕ) → EndsRange (mark_text mark ++ (bound_text bound ++ r))
range_ends true bound r = record { no_digit = refl; no_hole = refl }
range_ends false bound r = rw (bound_parts bound r) (record { no_digit = refl; no_hole = refl })

mark_read : (a b : Bool) (x y : List Expr) (r q : List ℕ)
    → mark_text a ++ (bound_text x ++ r) ≡ mark_text b ++ (bound_text y ++ q)
    → (a ≡ b) × (bound_text x ++ r ≡ bound_text y ++ q)
mark_read true true x y r q same = (refl, ap (drop 2) same)
mark_read true false x y r q same =
    absurd (omega (arith, ap (λ (text : List ℕ). get_or text 1 0) (same ∙ bound_parts y q)))
mark_read false true x y r q same =
    absurd (omega (arith, ap (λ (text : List ℕ). get_or text 1 0) (sym (bound_parts x r) ∙ same)))
mark_read false false x y r q same = (refl, same)

segment_read : (s t : Segment) (r q : List ℕ) → IsSmallSegment s → IsSmallSegment t → text_of s ++ r ≡ text_of t ++ q
    → (s ≡ t) × (r ≡ q)
segment_read s t r q s_small t_small same =
    let range = range_read s.0 t.0 (mark_text s.1.0 ++ (bound_text s.1.1 ++ r))
    (mark_text t.1.0 ++ (bound_text t.1.1 ++ q)) s_small.0 t_small.0
    (range_ends s.1.0 s.1.1 r) (range_ends t.1.0 t.1.1 q)
    (ap (drop 1) (sym (segment_parts s r) ∙ same ∙ segment_parts t q)) in
    let mark = mark_read s.1.0 t.1.0 s.1.1 t.1.1 r q range.1 in
    let bound = bound_read s.1.1 t.1.1 r q s_small.1.1 t_small.1.1 mark.1 in
    ((λ i. (range.0 i, (mark.0 i, bound.0 i))), bound.1)

segments_read : AreRead (λ (n : ℕ) (s : Segment). text_of s) (λ n s. IsSmallSegment s) (λ text. Unit {0})
    (begins_with 32)
segments_read = record {
  begun = λ n s r small. ap (begins_with 32) (segment_parts s r);
  ends = λ n s r small. tt;
  read = λ n s t r q s_small t_small r_ends q_ends same. segment_read s t r q s_small t_small same;
}

-- ---- all segments of a reference

-- The segments have their form, and the numbers in them have 64 bits.
pub record IsSmallSegments (s : Segments) : Type 0 where
  pub form : HasForm s
  pub narrow : AllByRecursion IsNarrow s.contents
  pub bounds : AllByRecursion IsSmallBound s.bounds

each_zipped : (contents : List Interval) (marks : List Bool) (ends : List (List Expr))
    → each_segment contents marks ends ≡ flat_map text_of (zip contents (zip marks ends))
each_zipped [] marks ends = refl
each_zipped (c ∷ contents) [] ends = refl
each_zipped (c ∷ contents) (m ∷ marks) [] = refl
each_zipped (c ∷ contents) (m ∷ marks) (e ∷ ends) =
    ap (λ (text : List ℕ). segment_text c m e ++ text) (each_zipped contents marks ends)

pub zip_length : {X Y : Type 0} (xs : List X) (ys : List Y) (n : ℕ) → length xs ≡ n → length ys ≡ n → length (zip xs ys) ≡ n
zip_length xs ys n x_count y_count = omega (arith, length-zip xs ys, x_count, y_count)

pub any_marks : (marks : List Bool) → AllByRecursion (λ m. Unit {0}) marks
any_marks [] = tt
any_marks (m ∷ marks) = (tt, any_marks marks)

pub first_and_others : (bounds : List (List Expr)) (n : ℕ) → length bounds ≡ n + 1
    → bounds ≡ get_or bounds 0 [] ∷ drop 1 bounds
first_and_others [] n counted = absurd (omega (arith, counted))
first_and_others (b ∷ bounds) n counted = refl

pub others_count : (bounds : List (List Expr)) (n : ℕ) → length bounds ≡ n + 1 → length (drop 1 bounds) ≡ n
others_count [] n counted = absurd (omega (arith, counted))
others_count (b ∷ bounds) n counted = omega (arith, counted)

pub first_small : (bounds : List (List Expr)) (n : ℕ) → length bounds ≡ n + 1 → AllByRecursion IsSmallBound bounds
    → IsSmallBound (get_or bounds 0 [])
first_small [] n counted all = absurd (omega (arith, counted))
first_small (b ∷ bounds) n counted all = all.0

pub others_small : (bounds : List (List Expr)) → AllByRecursion IsSmallBound bounds
    → AllByRecursion IsSmallBound (drop 1 bounds)
others_small [] all = tt
others_small (b ∷ bounds) all = all.1

abbrev pub each_of : Segments → List Segment
each_of s = zip s.contents (zip s.marks (drop 1 s.bounds))

pub each_small : (s : Segments) → IsSmallSegments s → AllByRecursion IsSmallSegment (each_of s)
each_small s small =
    all_zip IsNarrow (λ (p : Bool × List Expr). Unit {0} × IsSmallBound p.1) s.contents (zip s.marks (drop 1 s.bounds))
    small.narrow
    (all_zip (λ (m : Bool). Unit {0}) IsSmallBound s.marks (drop 1 s.bounds) (any_marks s.marks)
    (others_small s.bounds small.bounds))

pub segments_parts : (s : Segments) (r : List ℕ)
    → segments_text s ++ r ≡ bound_text (get_or s.bounds 0 []) ++ (flat_map text_of (each_of s) ++ r)
segments_parts s r =
    let each = each_segment s.contents s.marks (drop 1 s.bounds) in
    append_assoc (bound_text (get_or s.bounds 0 [])) each r
    ∙ ap (λ (text : List ℕ). bound_text (get_or s.bounds 0 []) ++ (text ++ r))
    (each_zipped s.contents s.marks (drop 1 s.bounds))

pub all_segments_read : (s t : Segments) (r q : List ℕ) → IsSmallSegments s → IsSmallSegments t
    → segments_text s ++ 10 ∷ r ≡ segments_text t ++ 10 ∷ q → (s ≡ t) × (r ≡ q)
all_segments_read s t r q s_small t_small same =
    let first = bound_read (get_or s.bounds 0 []) (get_or t.bounds 0 []) (flat_map text_of (each_of s) ++ 10 ∷ r)
    (flat_map text_of (each_of t) ++ 10 ∷ q)
    (first_small s.bounds (length s.contents) s_small.form.bounded s_small.bounds)
    (first_small t.bounds (length t.contents) t_small.form.bounded t_small.bounds)
    (sym (segments_parts s (10 ∷ r)) ∙ same ∙ segments_parts t (10 ∷ q)) in
    let numbers = λ (u : Segments) (text : List ℕ). ap (λ (prefix : List ℕ). prefix ++ 10 ∷ text)
    (flat_numbered text_of 0 (each_of u)) in
    let each = items_read (λ (n : ℕ) (s : Segment). text_of s) (λ n s. IsSmallSegment s) (λ text. Unit {0})
    (begins_with 32) segments_read 0
    (each_of s) (each_of t) (10 ∷ r) (10 ∷ q) (all_from IsSmallSegment 0 (each_of s) (each_small s s_small))
    (all_from IsSmallSegment 0 (each_of t) (each_small t t_small)) tt tt refl refl
    (sym (numbers s r) ∙ first.1 ∙ numbers t q) in
    let s_ends = others_count s.bounds (length s.contents) s_small.form.bounded in
    let t_ends = others_count t.bounds (length t.contents) t_small.form.bounded in
    let outer = zip_same s.contents t.contents (zip s.marks (drop 1 s.bounds)) (zip t.marks (drop 1 t.bounds))
    (zip_length s.marks (drop 1 s.bounds) (length s.contents) s_small.form.marked s_ends)
    (zip_length t.marks (drop 1 t.bounds) (length t.contents) t_small.form.marked t_ends) each.0 in
    let inner = zip_same s.marks t.marks (drop 1 s.bounds) (drop 1 t.bounds) (s_ends ∙ sym s_small.form.marked)
    (t_ends ∙ sym t_small.form.marked) outer.1 in
    let bounds : s.bounds ≡ t.bounds =
    first_and_others s.bounds (length s.contents) s_small.form.bounded ∙ ap₂ (λ z zs. z ∷ zs) first.0 inner.1
    ∙ sym (first_and_others t.bounds (length t.contents) t_small.form.bounded) in
    ((λ i. record { bounds = bounds i; contents = outer.0 i; marks = inner.0 i }), ap (drop 1) each.1)
