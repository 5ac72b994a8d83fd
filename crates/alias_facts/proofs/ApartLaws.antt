-- Pairs that are apart are not the same array, and stay so.
use Rattle.std.proofs.Common.{◌≡◌, ℕ, zero, suc, ◌-◌, ◌≤◌, nat_lt, Bool, true, false, ◌||◌, List, [], ◌∷◌, Option, Some, None, if◌then◌else◌, refl, sym, ap, ◌∙◌, subst, true≢false, arith}
use Rattle.alias_facts.specs.declared.nullness.Nullness.{Nullness}
use Rattle.alias_facts.specs.declared.nullness.Nullness.TheVariants.{May, NotNull, Null}
use Rattle.alias_facts.specs.NullnessOf.{Agrees, must_differ}
use Rattle.alias_facts.specs.PairsOf.{Pair, ordered, same_pair, comes_before, is_proper, contains, inserted, all_inserted, with_pair, pairs_up_to, with_all_before}
use Rattle.alias_facts.specs.Arrays.{Differ, AllDiffer, DiffersFromEarlier, is_no_array}
use Rattle.alias_facts.proofs.Orders.{same_is}

-- ---- either order

abbrev PairDiffers : (ℕ → Option ℕ) → Pair → Type 0
PairDiffers array p = Differ array p.0 p.1

swapped : (array : ℕ → Option ℕ) (r q : ℕ) → Differ array r q → Differ array q r
swapped array r q differ = λ n first second. differ n second first

from_ordered : (array : ℕ → Option ℕ) (r q : ℕ) → Differ array (ordered r q).0 (ordered r q).1 → Differ array r q
from_ordered array r q differ = by (nat_lt q r) differ
  where
    by : (less : Bool) → PairDiffers array (if less then (q, r) else (r, q)) → Differ array r q
    by true it = swapped array q r it
    by false it = it

to_ordered : (array : ℕ → Option ℕ) (r q : ℕ) → Differ array r q → Differ array (ordered r q).0 (ordered r q).1
to_ordered array r q differ = by (nat_lt q r)
  where
    by : (less : Bool) → PairDiffers array (if less then (q, r) else (r, q))
    by true = swapped array r q differ
    by false = differ

-- ---- asking

differ_there : (array : ℕ → Option ℕ) (pairs : List Pair) (p : Pair) → AllDiffer array pairs → contains pairs p ≡ true → Differ array p.0 p.1
differ_there array [] p all there = absurd (true≢false (sym there))
differ_there array (x ∷ xs) p all there =
    elim (same_pair p x) as (λ b. same_pair p x ≡ b → (b || contains xs p) ≡ true → Differ array p.0 p.1) [
      | true ↦ λ same _. subst (PairDiffers array) (sym (same_is p x same)) all.0
      | false ↦ λ _ rest. differ_there array xs p all.1 rest
    ] refl there

-- References that are kept apart are not the same array, in whatever order they are given.
pub contained_differ : (pairs : List Pair) (array : ℕ → Option ℕ) (r q : ℕ) → contains pairs (ordered r q) ≡ true → AllDiffer array pairs → Differ array r q
contained_differ pairs array r q there all = from_ordered array r q (differ_there array pairs (ordered r q) all there)

-- ---- one pair more

inserted_differ : (array : ℕ → Option ℕ) (p : Pair) (xs : List Pair) → Differ array p.0 p.1 → AllDiffer array xs → AllDiffer array (inserted p xs)
inserted_differ array p [] is all = (is, tt)
inserted_differ array p (x ∷ xs) is all = step (comes_before x p) (same_pair p x) (inserted_differ array p xs is all.1)
  where
    step : (before same : Bool) → AllDiffer array (inserted p xs)
        → AllDiffer array (if before then x ∷ inserted p xs else (if same then x ∷ xs else p ∷ x ∷ xs))
    step true same rest = (all.0, rest)
    step false true rest = all
    step false false rest = (is, all)

-- A pair that differs is kept with pairs that differ.
pub with_pair_differ : (pairs : List Pair) (array : ℕ → Option ℕ) (r q : ℕ) → AllDiffer array pairs → Differ array r q → AllDiffer array (with_pair (ordered r q) pairs)
with_pair_differ pairs array r q all differ = by (is_proper (ordered r q))
  where
    by : (proper : Bool) → AllDiffer array (if proper then inserted (ordered r q) pairs else pairs)
    by true = inserted_differ array (ordered r q) pairs (to_ordered array r q differ) all
    by false = all

-- ---- one reference and all before it

row_differs : (array : ℕ → Option ℕ) (k r : ℕ) (pairs : List Pair) → k ≤ r - 1 → DiffersFromEarlier array r → AllDiffer array pairs → AllDiffer array (all_inserted (pairs_up_to k r) pairs)
row_differs array zero r pairs within earlier all = all
row_differs array (suc k) r pairs within earlier all =
    inserted_differ array (suc k, r) (all_inserted (pairs_up_to k r) pairs) (earlier (suc k) (omega arith) (omega (arith, within)))
    (row_differs array k r pairs (omega (arith, within)) earlier all)

-- A reference that differs from all before it is kept apart from them, with pairs that differ.
pub with_all_before_differ : (pairs : List Pair) (array : ℕ → Option ℕ) (r : ℕ) → AllDiffer array pairs → DiffersFromEarlier array r → AllDiffer array (with_all_before r pairs)
with_all_before_differ pairs array r all earlier = row_differs array (r - 1) r pairs (omega arith) earlier all

-- ---- what cannot be the same

first_null : (array : ℕ → Option ℕ) (r q : ℕ) → is_no_array (array r) ≡ true → Differ array r q
first_null array r q none = λ n first second. true≢false (sym none ∙ ap is_no_array first)

second_null : (array : ℕ → Option ℕ) (r q : ℕ) → is_no_array (array q) ≡ true → Differ array r q
second_null array r q none = swapped array q r (first_null array q r none)

-- References that must differ are not the same array: they are kept apart, are of different places, or one is null.
pub must_differ_sound : (array : ℕ → Option ℕ) (r q : ℕ) (kept same_place : Bool) (a b : Nullness) → (kept ≡ true → Differ array r q)
    → (same_place ≡ false → Differ array r q) → Agrees a (is_no_array (array r)) → Agrees b (is_no_array (array q))
    → must_differ kept same_place a b ≡ true → Differ array r q
must_differ_sound array r q true same_place a b apart places first second is = apart refl
must_differ_sound array r q false false a b apart places first second is = places refl
must_differ_sound array r q false true Null b apart places first second is = first_null array r q first
must_differ_sound array r q false true May Null apart places first second is = second_null array r q second
must_differ_sound array r q false true NotNull Null apart places first second is = second_null array r q second
must_differ_sound array r q false true May May apart places first second is = absurd (true≢false (sym is))
must_differ_sound array r q false true May NotNull apart places first second is = absurd (true≢false (sym is))
must_differ_sound array r q false true NotNull May apart places first second is = absurd (true≢false (sym is))
must_differ_sound array r q false true NotNull NotNull apart places first second is = absurd (true≢false (sym is))

-- ---- as the code asks

pub told_first : (kept told : Bool) → told ≡ true → true ≡ (kept || told)
told_first true told is = refl
told_first false told is = sym is

pub kept_last : (kept told : Bool) → told ≡ false → kept ≡ (kept || told)
kept_last true told is = refl
kept_last false told is = sym is
