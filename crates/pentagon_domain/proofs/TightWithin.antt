-- Rows that are tight over ends are tight over ends that are no wider.
use Rattle.std.proofs.Common.{◌≡◌, ℕ, ◌+◌, ◌<◌, ◌≤◌, ◌==◌, ℤ, ◌+ℤ◌, ◌≤ℤ◌, true, List, [], ◌∷◌, length, get_or, Option, Some, None, refl, arith, inl, inr}
use Rattle.std.specs.List.{AllByRecursion}
use Rattle.std.proofs.lemmas.Bool.{cases_Bool, cases_lt, eqb-false, eqb-true}
use Rattle.std.proofs.lemmas.Int.{ints}
use Rattle.std.proofs.lemmas.List.{get_or_default}
use Rattle.pentagon_domain.specs.declared.bound_row.BoundRow.{BoundRow}
use Rattle.pentagon_domain.specs.declared.ends.Ends.{Ends}
use Rattle.pentagon_domain.specs.Gaps.{AreBelow}
use Rattle.pentagon_domain.specs.Rows.{rows_from, stored}
use Rattle.pentagon_domain.specs.Settled.{AreWithin, IsWithin}
use Rattle.pentagon_domain.specs.Tight.{AddNothing, AreTightFrom, AreTightOver, apart, is_told, no_ends}
use Rattle.pentagon_domain.proofs.TightGaps.{none_from}

told_more : (sum far more : ℤ) (known : Option ℤ) → far ≤ℤ more → is_told sum known far ≡ true → is_told sum known more ≡ true
told_more sum far more None less told = grind (arith, ints)
told_more sum far more (Some k) less told = grind (arith, ints)

further : (wide ends : List Ends) (s t : ℕ) → AreWithin wide ends → s < length wide → t < length wide → apart wide s t ≤ℤ apart ends s t
further wide ends s t within from to =
    let high = (within.each s from).high in
    let low = (within.each t to).low in
    omega (arith, ints, high, low)

nothing_within : (wide ends : List Ends) (known : ℕ → Option ℤ) (s : ℕ) (k : ℤ) (nexts : List BoundRow) → AreWithin wide ends → s < length wide
    → AllByRecursion (AreBelow (length wide)) nexts → AddNothing wide known s k nexts → AddNothing ends known s k nexts
nothing_within wide ends known s k [] within from below nothing = tt
nothing_within wide ends known s k (next ∷ nexts) within from below nothing =
    let rest = nothing_within wide ends known s k nexts within from below.1 nothing.1 in
    elim (cases_Bool (next.t == s)) [
      | inl back ↦ (rw back refl, rest)
      | inr on ↦ (
        rw on
            (told_more (k +ℤ next.k) (apart wide s next.t) (apart ends s next.t) (known next.t) (further wide ends s next.t within from below.0.to)
            (rw on at nothing.0)),
        rest,
      )
    ]

rows_below : (rows : List BoundRow) (count s : ℕ) → AllByRecursion (AreBelow count) rows → AllByRecursion (AreBelow count) (rows_from rows s)
rows_below [] count s below = tt
rows_below (row ∷ rows) count s below =
    let rest = rows_below rows count s below.1 in
    elim (cases_Bool (row.s == s)) [ inl here ↦ rw here (below.0, rest) | inr other ↦ rw other rest ]

from_within : (wide ends : List Ends) (rows firsts : List BoundRow) (s : ℕ) → AreWithin wide ends → s < length wide
    → AllByRecursion (AreBelow (length wide)) rows → AreTightFrom wide rows s firsts → AreTightFrom ends rows s firsts
from_within wide ends rows [] s within from below tight = tt
from_within wide ends rows (first ∷ firsts) s within from below tight = (
  nothing_within wide ends (stored rows s) s first.k (rows_from rows first.t) within from (rows_below rows (length wide) first.t below) tight.0,
  from_within wide ends rows firsts s within from below tight.1,
)

below_more : (rows : List BoundRow) (count more : ℕ) → count ≤ more → AllByRecursion (AreBelow count) rows → AllByRecursion (AreBelow more) rows
below_more [] count more less below = tt
below_more (row ∷ rows) count more less below =
    let from = below.0.from in
    let to = below.0.to in
    (record { from = omega (arith, less, from); to = omega (arith, less, to) }, below_more rows count more less below.1)

pub tight_within : (wide ends : List Ends) (rows : List BoundRow) → AreWithin wide ends → AreTightOver wide rows → AreTightOver ends rows
tight_within wide ends rows within tight =
    record { below = below_more rows (length wide) (length ends) within.count tight.below; sums = λ s. at s }
  where
    at : (s : ℕ) → AreTightFrom ends rows s (rows_from rows s)
    at s = elim (cases_lt s (length wide)) [
      | inl inside ↦ from_within wide ends rows (rows_from rows s) s within inside tight.below (tight.sums s)
      | inr past ↦ rw (none_from rows (length wide) s tight.below past) tt
    ]

-- Ends so far are within those that are wide.
pub within_more : (wide ends : List Ends) (n s : ℕ) (d e : Ends) → n < length wide → n < length ends → (get_or wide n d).lo ≤ℤ (get_or ends n e).lo
    → (get_or ends n e).hi ≤ℤ (get_or wide n d).hi → ((u : ℕ) → u < n → IsWithin wide ends u) → s < n + 1 → IsWithin wide ends s
within_more wide ends n s d e first second low high each below =
    elim (cases_Bool (s == n)) [
      | inl same ↦
          rw (eqb-true s n same)
          (record {
            low = rw (get_or_default wide n d no_ends first, get_or_default ends n e no_ends second) at low;
            high = rw (get_or_default wide n d no_ends first, get_or_default ends n e no_ends second) at high;
          })
      | inr apart ↦ each s (omega (arith, eqb-false s n apart, below))
    ]
