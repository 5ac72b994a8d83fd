-- When what is stored tells all that is known.
use Rattle.std.proofs.Common.{◌≡◌, ◌≢◌, ◌⊎◌, ℕ, zero, suc, ◌+◌, ◌<◌, ◌≤◌, ◌==◌, ℤ, ◌-ℤ◌, ◌≤ℤ◌, Bool, true, false, ◌&&◌, int_le, List, [], ◌∷◌, length, get_or, slice_get, Option, Some, None, drop, drop-cons, add-one, refl, sym, subst, arith, inl, inr}
use Rattle.std.proofs.lemmas.Bool.{and_parts, cases_lt, eqb-true}
use Rattle.std.proofs.lemmas.Int.{ints}
use Rattle.std.proofs.lemmas.List.{drop_all}
use Rattle.number_spans.specs.declared.span.Span.{Span}
use Rattle.pentagon_domain.specs.declared.bound_row.BoundRow.{BoundRow}
use Rattle.pentagon_domain.specs.declared.ends.Ends.{Ends}
use Rattle.pentagon_domain.specs.Gaps.{direct_gap}
use Rattle.pentagon_domain.specs.Tight.{AreTightOver, no_ends}
use Rattle.pentagon_domain.proofs.TightGaps.{tight_gap_outside, tight_gap_with}
use Rattle.merged_numbers.specs.Known as side_rule
use Rattle.merged_numbers.specs.Known.{Known, distance, gap_or}
use Rattle.merged_numbers.specs.Rows.{IsTight, are_between, beside, is_between}

-- ---- spans between ends, one after another

between_split : (ends : List Ends) (rs : List Span) (i : ℕ) (d : Ends) (e : Span) → i < length ends → i < length rs
    → are_between (drop i ends) (drop i rs) ≡ (is_between (get_or ends i d) (get_or rs i e) && are_between (drop (i + 1) ends) (drop (i + 1) rs))
between_split ends rs i d e inside also =
    let first : drop i ends ≡ get_or ends i d ∷ drop (suc i) ends = drop-cons ends i d inside in
    let second : drop i rs ≡ get_or rs i e ∷ drop (suc i) rs = drop-cons rs i e also in
    rw (add-one, first, second) refl

pub between_more : (ends : List Ends) (rs : List Span) (i : ℕ) (d : Ends) (e : Span) (whole : Bool) → length ends ≤ length rs → i < length ends
    → is_between (get_or ends i d) (get_or rs i e) ≡ true → are_between (drop i ends) (drop i rs) ≡ whole → are_between (drop (i + 1) ends) (drop (i + 1) rs) ≡ whole
between_more ends rs i d e whole enough inside here so_far =
    let split = between_split ends rs i d e inside (omega (arith, enough, inside)) in
    rw here at (rw split at so_far)

pub between_fails : (ends : List Ends) (rs : List Span) (i : ℕ) (d : Ends) (e : Span) (whole : Bool) → length ends ≤ length rs → i < length ends
    → is_between (get_or ends i d) (get_or rs i e) ≡ false → are_between (drop i ends) (drop i rs) ≡ whole → false ≡ whole
between_fails ends rs i d e whole enough inside here so_far =
    let split = between_split ends rs i d e inside (omega (arith, enough, inside)) in
    rw here at (rw split at so_far)

pub between_end : (ends : List Ends) (rs : List Span) (i : ℕ) (whole : Bool) → length ends ≤ i → are_between (drop i ends) (drop i rs) ≡ whole → true ≡ whole
between_end ends rs i whole past so_far = let none : drop i ends ≡ [] = drop_all i ends past in rw none at so_far

pub too_few : (ends : List Ends) (rs : List Span) → length rs < length ends → false ≡ are_between ends rs
too_few [] rs less = absurd (omega (arith, less))
too_few (e ∷ more) [] less = refl
too_few (e ∷ more) (r ∷ rs) less =
    let rest = too_few more rs (omega (arith, less)) in
    rw (sym rest) (sym (and_false (is_between e r)))
  where
    and_false : (b : Bool) → (b && false) ≡ false
    and_false true = refl
    and_false false = refl

pub ruleset betweens = (between_more, between_fails, between_end, too_few)

-- ---- the span of one symbol

le_of : (m n : ℤ) → int_le m n ≡ true → m ≤ℤ n
le_of m n e = omega (arith, ints, e)

abbrev IsOver : Ends → Option Span → Type 0
IsOver ends None = ⊥
IsOver ends (Some r) = (ends.lo ≤ℤ r.lo) × (r.hi ≤ℤ ends.hi)

over_at : (ends : List Ends) (rs : List Span) (s : ℕ) → are_between ends rs ≡ true → s < length ends → IsOver (get_or ends s no_ends) (slice_get rs s)
over_at [] rs s are inside = absurd (omega (arith, inside))
over_at (e ∷ more) [] s are inside = absurd cc
over_at (e ∷ more) (r ∷ rs) zero are inside =
    let first = and_parts (int_le e.lo r.lo) (int_le r.hi e.hi) (and_parts (is_between e r) (are_between more rs) are).0 in
    (le_of e.lo r.lo first.0, le_of r.hi e.hi first.1)
over_at (e ∷ more) (r ∷ rs) (suc s) are inside = over_at more rs s (and_parts (is_between e r) (are_between more rs) are).1 (omega (arith, inside))

-- ---- what is stored tells all

past_either : (ends : List Ends) (r q : Option Span) (s t : ℕ) → (s < length ends → IsOver (get_or ends s no_ends) r)
    → (t < length ends → IsOver (get_or ends t no_ends) q) → distance r q ≡ None → (length ends ≤ s) ⊎ (length ends ≤ t)
past_either ends None q s t first second is = elim (cases_lt s (length ends)) [ inl inside ↦ elim (first inside) [ ] | inr past ↦ inl past ]
past_either ends (Some r) None s t first second is = elim (cases_lt t (length ends)) [ inl inside ↦ elim (second inside) [ ] | inr past ↦ inr past ]
past_either ends (Some r) (Some q) s t first second is = absurd cc

no_wider : (e f : Ends) (r q : Option Span) (d : ℤ) → IsOver e r → IsOver f q → distance r q ≡ Some d → (f.lo -ℤ e.hi) ≤ℤ d
no_wider e f None q d first second is = elim first [ ]
no_wider e f (Some r) None d first second is = elim second [ ]
no_wider e f (Some r) (Some q) d first second is =
    let high = first.1 in
    let low = second.0 in
    let same : (q.lo -ℤ r.hi) ≡ d = some_same (q.lo -ℤ r.hi) d is in
    omega (arith, ints, high, low, same)
  where
    some_same : (k l : ℤ) → Some k ≡ Some l → k ≡ l
    some_same k l is = cc

spans_tell : (ends : List Ends) (bounds : List BoundRow) (r q : Option Span) (apart : Option ℤ) (s t : ℕ) → AreTightOver ends bounds → s ≢ t
    → (s < length ends → IsOver (get_or ends s no_ends) r) → (t < length ends → IsOver (get_or ends t no_ends) q) → distance r q ≡ apart
    → beside (direct_gap bounds s t) apart ≡ gap_or bounds apart s t
spans_tell ends bounds r q None s t tight other first second is =
    tight_gap_outside ends bounds s t tight (past_either ends r q s t first second is)
spans_tell ends bounds r q (Some d) s t tight other first second is =
    tight_gap_with ends bounds s t d tight other
    (λ from to. no_wider (get_or ends s no_ends) (get_or ends t no_ends) r q d (first from) (second to) is)

-- Bounds are tight over spans that lie between the ends over which they are.
pub over_tight : (ends : List Ends) (side : Known) → AreTightOver ends side.bounds → are_between ends side.spans ≡ true → IsTight side
unfolding side_rule.gap side_rule.between
over_tight ends side tight are = record {
  stored = λ s t other.
      spans_tell ends side.bounds (slice_get side.spans s) (slice_get side.spans t) (distance (slice_get side.spans s) (slice_get side.spans t)) s t tight other
      (λ inside. over_at ends side.spans s are inside) (λ inside. over_at ends side.spans t are inside) refl;
}

-- So it is where nothing is stored.
nothing_over : (bounds : List BoundRow) → (length bounds == 0) ≡ true → AreTightOver [] bounds
nothing_over [] none = record { below = tt; sums = λ s. tt }
nothing_over (row ∷ rows) none = absurd (omega (arith, eqb-true (length (row ∷ rows)) 0 none))

pub nothing_tight : (side : Known) (rows : List BoundRow) → rows ≡ side.bounds → (length rows == 0) ≡ true → IsTight side
nothing_tight side rows are none = over_tight [] side (subst (AreTightOver []) are (nothing_over rows none)) refl
