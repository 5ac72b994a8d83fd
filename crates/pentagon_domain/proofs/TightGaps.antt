-- Of rows that are tight over ends, what is stored tells as much as gaps do where ends that are no wider tell the rest.
use Rattle.std.proofs.Common.{◌≡◌, ◌≢◌, ◌⊎◌, ℕ, ℤ, pos, ◌+ℤ◌, ◌≤ℤ◌, ◌<◌, ◌≤◌, ◌==◌, true, false, List, [], ◌∷◌, length, Option, Some, None, refl, sym, ap, ◌∙◌, arith, inl, inr}
use Rattle.std.specs.Prelude.{option_map, option_and_then}
use Rattle.std.specs.List.{AllByRecursion}
use Rattle.std.proofs.lemmas.Bool.{cases_Bool, cases_lt, eqb-true, eq-eqb, ne_eqb}
use Rattle.std.proofs.lemmas.Int.{ints}
use Rattle.domain_api.specs.Order.{greater_gap}
use Rattle.pentagon_domain.specs.declared.bound_row.BoundRow.{BoundRow}
use Rattle.pentagon_domain.specs.declared.ends.Ends.{Ends}
use Rattle.pentagon_domain.specs.Rows.{constant_to, rows_from, stored}
use Rattle.pentagon_domain.specs.Gaps.{AreBelow, cut, direct_gap, exact_gap, gap, gap_with, greatest_sum}
use Rattle.pentagon_domain.specs.Tight.{AddNothing, AreTightFrom, AreTightOver, apart, is_told}
use Rattle.pentagon_domain.proofs.Cuts.{cut-greater_gap, greater_gap-none, greater_gap_assoc}

-- ---- the greater of gaps

greater_gap_swapped : (a b : Option ℤ) → greater_gap a b ≡ greater_gap b a
greater_gap_swapped None b = sym (greater_gap-none b)
greater_gap_swapped (Some k) None = refl
greater_gap_swapped (Some k) (Some l) = grind (arith, ints)

-- A number that is told raises no gap that tells as much as the ends.
told_idle : (sum far between : ℤ) (known : Option ℤ) → is_told sum known far ≡ true → far ≤ℤ between
    → greater_gap (Some sum) (greater_gap known (Some between)) ≡ greater_gap known (Some between)
told_idle sum far between None told less = grind (arith, ints)
told_idle sum far between (Some k) told less = grind (arith, ints)

-- ---- rows beyond a count

pub none_from : (rows : List BoundRow) (count s : ℕ) → AllByRecursion (AreBelow count) rows → count ≤ s → rows_from rows s ≡ []
none_from [] count s below past = refl
none_from (row ∷ rows) count s below past =
    let here = below.0.from in
    rw (ne_eqb row.s s (λ e. omega (arith, e, here, past))) (none_from rows count s below.1 past)

none_to : (rows : List BoundRow) (count u t : ℕ) → AllByRecursion (AreBelow count) rows → count ≤ t → stored rows u t ≡ None
none_to [] count u t below past = refl
none_to (row ∷ rows) count u t below past =
    let here = below.0.to in
    let rest = none_to rows count u t below.1 past in
    elim (cases_Bool (row.s == u)) [
      | inl same ↦ rw (same, ne_eqb row.t t (λ e. omega (arith, e, here, past))) rest
      | inr other ↦ rw other rest
    ]

no_sum : (rows firsts : List BoundRow) (t : ℕ) → ((u : ℕ) → stored rows u t ≡ None) → greatest_sum rows firsts t ≡ None
unfolding greatest_sum
no_sum rows [] t none = refl
no_sum rows (first ∷ firsts) t none = rw (none first.t, no_sum rows firsts t none) refl

-- ---- sums of two

-- Of rows that add nothing, the one that goes to t has a sum that is told.
pub told_at : (ends : List Ends) (known : ℕ → Option ℤ) (nexts : List BoundRow) (s t : ℕ) (first k : ℤ) → s ≢ t → AddNothing ends known s first nexts
    → constant_to nexts t ≡ Some k → is_told (first +ℤ k) (known t) (apart ends s t) ≡ true
told_at ends known [] s t first k distinct tight is = absurd cc
told_at ends known (next ∷ nexts) s t first k distinct tight is =
    elim (cases_Bool (next.t == t)) [
      | inl here ↦
          let same : next.t ≡ t = eqb-true next.t t here in
          let constant : next.k ≡ k = some_same next.k k (rw here at is) in
          let back : (t == s) ≡ false = ne_eqb t s (λ e. distinct (sym e)) in
          rw back at (rw (same, constant) at tight.0)
      | inr other ↦ told_at ends known nexts s t first k distinct tight.1 (rw other at is)
    ]
  where
    some_same : (k l : ℤ) → Some k ≡ Some l → k ≡ l
    some_same k l is = cc

one_idle : (ends : List Ends) (rows : List BoundRow) (s t : ℕ) (first : BoundRow) (between : ℤ) (known : Option ℤ) → s ≢ t
    → AddNothing ends (stored rows s) s first.k (rows_from rows first.t) → apart ends s t ≤ℤ between → stored rows first.t t ≡ known
    → greater_gap (option_map (λ k. first.k +ℤ k) known) (greater_gap (stored rows s t) (Some between)) ≡ greater_gap (stored rows s t) (Some between)
one_idle ends rows s t first between None distinct tight less is = refl
one_idle ends rows s t first between (Some k) distinct tight less is =
    told_idle (first.k +ℤ k) (apart ends s t) between (stored rows s t) (told_at ends (stored rows s) (rows_from rows first.t) s t first.k k distinct tight is) less

sums_idle : (ends : List Ends) (rows firsts : List BoundRow) (s t : ℕ) (between : ℤ) → s ≢ t → AreTightFrom ends rows s firsts
    → apart ends s t ≤ℤ between
    → greater_gap (greatest_sum rows firsts t) (greater_gap (stored rows s t) (Some between)) ≡ greater_gap (stored rows s t) (Some between)
unfolding greatest_sum
sums_idle ends rows [] s t between distinct tight less = refl
sums_idle ends rows (first ∷ firsts) s t between distinct tight less =
    let whole = greater_gap (stored rows s t) (Some between) in
    let one = option_map (λ k. first.k +ℤ k) (stored rows first.t t) in
    greater_gap_assoc one (greatest_sum rows firsts t) whole
    ∙ (ap (greater_gap one) (sums_idle ends rows firsts s t between distinct tight.1 less)
    ∙ one_idle ends rows s t first between (stored rows first.t t) distinct tight.0 less refl)

-- ---- gaps

exact_without : (rows : List BoundRow) (s t : ℕ) → greatest_sum rows (rows_from rows s) t ≡ None → exact_gap rows s t ≡ stored rows s t
unfolding exact_gap
exact_without rows s t none = rw none (greater_gap-none (stored rows s t))

-- Of a symbol beyond the ends, what is stored is all that bounds tell.
pub tight_outside : (ends : List Ends) (rows : List BoundRow) (s t : ℕ) → AreTightOver ends rows → (length ends ≤ s) ⊎ (length ends ≤ t)
    → exact_gap rows s t ≡ stored rows s t
unfolding greatest_sum
tight_outside ends rows s t tight (inl past) =
    let none : rows_from rows s ≡ [] = none_from rows (length ends) s tight.below past in
    exact_without rows s t (ap (λ firsts. greatest_sum rows firsts t) none)
tight_outside ends rows s t tight (inr past) =
    exact_without rows s t (no_sum rows (rows_from rows s) t (λ u. none_to rows (length ends) u t tight.below past))

inside_tells : (ends : List Ends) (rows : List BoundRow) (s t : ℕ) (between : ℤ) → AreTightOver ends rows → s ≢ t → apart ends s t ≤ℤ between
    → greater_gap (exact_gap rows s t) (Some between) ≡ greater_gap (stored rows s t) (Some between)
unfolding exact_gap
inside_tells ends rows s t between tight distinct less =
    let sums = greatest_sum rows (rows_from rows s) t in
    ap (λ known. greater_gap known (Some between)) (greater_gap_swapped (stored rows s t) sums)
    ∙ (greater_gap_assoc sums (stored rows s t) (Some between)
    ∙ sums_idle ends rows (rows_from rows s) s t between distinct (tight.sums s) less)

-- Where ends that are no wider than those over which rows are tight lie so far apart, what is stored tells the rest.
pub tight_tells : (ends : List Ends) (rows : List BoundRow) (s t : ℕ) (between : ℤ) → AreTightOver ends rows → s ≢ t
    → (s < length ends → t < length ends → apart ends s t ≤ℤ between)
    → greater_gap (exact_gap rows s t) (Some between) ≡ greater_gap (stored rows s t) (Some between)
tight_tells ends rows s t between tight distinct wide =
    elim (cases_lt s (length ends)) [
      | inl first ↦
          elim (cases_lt t (length ends)) [
            | inl second ↦ inside_tells ends rows s t between tight distinct (wide first second)
            | inr past ↦ ap (λ known. greater_gap known (Some between)) (tight_outside ends rows s t tight (inr past))
          ]
      | inr past ↦ ap (λ known. greater_gap known (Some between)) (tight_outside ends rows s t tight (inl past))
    ]

-- ---- the same, cut to 64 bits

pub direct_same : (rows : List BoundRow) (s t : ℕ) → s ≡ t → direct_gap rows s t ≡ Some (pos 0)
unfolding direct_gap
direct_same rows s t same = rw (eq-eqb s t same) refl

pub direct_apart : (rows : List BoundRow) (s t : ℕ) → s ≢ t → direct_gap rows s t ≡ option_and_then cut (stored rows s t)
unfolding direct_gap
direct_apart rows s t distinct = rw (ne_eqb s t distinct) refl

pub tight_gap_outside : (ends : List Ends) (rows : List BoundRow) (s t : ℕ) → AreTightOver ends rows → (length ends ≤ s) ⊎ (length ends ≤ t)
    → direct_gap rows s t ≡ gap rows s t
unfolding direct_gap gap
tight_gap_outside ends rows s t tight past = rw (tight_outside ends rows s t tight past) refl

pub tight_gap_with : (ends : List Ends) (rows : List BoundRow) (s t : ℕ) (between : ℤ) → AreTightOver ends rows → s ≢ t
    → (s < length ends → t < length ends → apart ends s t ≤ℤ between)
    → greater_gap (direct_gap rows s t) (cut between) ≡ gap_with rows between s t
unfolding gap_with
tight_gap_with ends rows s t between tight distinct wide =
    rw (ne_eqb s t distinct, tight_tells ends rows s t between tight distinct wide)
    (ap (λ known. greater_gap known (cut between)) (direct_apart rows s t distinct)
    ∙ sym (cut-greater_gap (stored rows s t) (Some between)))
