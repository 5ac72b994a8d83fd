-- Bounds tell nothing false of the numbers that they allow.
use Rattle.std.proofs.Common.{◌≡◌, ℕ, ℤ, pos, ◌+ℤ◌, ◌≤ℤ◌, List, [], ◌∷◌, Option, Some, None, ◌==◌, refl, ap, inl, inr, arith}
use Rattle.std.specs.Prelude.{option_map, option_and_then, if◌then◌else◌}
use Rattle.std.specs.List.{AllByRecursion}
use Rattle.std.proofs.lemmas.Int.{ints}
use Rattle.std.proofs.lemmas.Bool.{cases_Bool, eqb-true}
use Rattle.domain_api.specs.Laws.Gaps.{greater_gap-either}
use Rattle.domain_api.specs.Order.{greater_gap}
use Rattle.pentagon_domain.specs.declared.bound_row.BoundRow.{BoundRow}
use Rattle.pentagon_domain.specs.Rows.{rows_from, constant_to, stored}
use Rattle.pentagon_domain.specs.Gaps.{cut, greatest_sum, exact_gap, gap, gap_with, Allows, LiesAbove}

-- A gap is no greater than the exact number that it was cut from.
cut_below : (n k : ℤ) → cut n ≡ Some k → k ≤ℤ n
unfolding cut
cut_below n k is = grind (arith, ints)

-- A number that is known says so.
abbrev pub SaysAbove : (ℕ → ℤ) → ℕ → ℕ → Option ℤ → Type 0
SaysAbove number s t known = (k : ℤ) → known ≡ Some k → LiesAbove number s t k

-- The row goes from s, and allows the numbers.
record AllowsFrom (number : ℕ → ℤ) (s : ℕ) (row : BoundRow) : Type 0 where
  starts : row.s ≡ s
  allowed : LiesAbove number row.s row.t row.k

abbrev AllowAllFrom : (ℕ → ℤ) → ℕ → List BoundRow → Type 0
AllowAllFrom number s rows = AllByRecursion (AllowsFrom number s) rows

from_allowed : (number : ℕ → ℤ) (s : ℕ) (rows : List BoundRow) → Allows rows number → AllowAllFrom number s (rows_from rows s)
from_allowed number s [] allowed = tt
from_allowed number s (row ∷ rows) allowed =
    let rest = from_allowed number s rows allowed.1 in
    elim (cases_Bool (row.s == s)) [
      | inl is ↦ rw is (record { starts = eqb-true row.s s is; allowed = allowed.0 }, rest)
      | inr other ↦ rw other rest
    ]

-- Of two equal numbers of symbols one stands for the other.
moved : (number : ℕ → ℤ) (s t u v : ℕ) (k l : ℤ) → u ≡ s → v ≡ t → k ≡ l → LiesAbove number u v k → LiesAbove number s t l
moved number s t u v k l from to is above =
    let first : number u ≡ number s = ap number from in
    let second : number v ≡ number t = ap number to in
    grind (arith, ints)

some_same : (k l : ℤ) → Some k ≡ Some l → k ≡ l
some_same k l is = cc

constant_above : (number : ℕ → ℤ) (s t : ℕ) (rows : List BoundRow) → AllowAllFrom number s rows → SaysAbove number s t (constant_to rows t)
constant_above number s t [] allowed k is = absurd cc
constant_above number s t (row ∷ rows) allowed k is =
    elim (cases_Bool (row.t == t)) [
      | inl here ↦
          let told : Some row.k ≡ Some k = rw here at is in
          moved number s t row.s row.t row.k k allowed.0.starts (eqb-true row.t t here) (some_same row.k k told) allowed.0.allowed
      | inr other ↦ constant_above number s t rows allowed.1 k (rw other at is)
    ]

stored_above : (number : ℕ → ℤ) (rows : List BoundRow) (s t : ℕ) → Allows rows number → SaysAbove number s t (stored rows s t)
stored_above number rows s t allowed = constant_above number s t (rows_from rows s) (from_allowed number s rows allowed)

-- One difference behind another.
added : (number : ℕ → ℤ) (s u t : ℕ) (k l m : ℤ) → LiesAbove number s u k → LiesAbove number u t l → (k +ℤ l) ≡ m → LiesAbove number s t m
added number s u t k l m first second is = grind (arith, ints)

step_above : (number : ℕ → ℤ) (s u t : ℕ) (k : ℤ) (known : Option ℤ) → LiesAbove number s u k → SaysAbove number u t known
    → SaysAbove number s t (option_map (λ l. k +ℤ l) known)
step_above number s u t k None first second m is = absurd cc
step_above number s u t k (Some l) first second m is = added number s u t k l m first (second l refl) (some_same (k +ℤ l) m is)

greater_above : (number : ℕ → ℤ) (s t : ℕ) (a b : Option ℤ) → SaysAbove number s t a → SaysAbove number s t b → SaysAbove number s t (greater_gap a b)
greater_above number s t a b first second k is =
    elim (greater_gap-either a b k is) [ inl here ↦ first k here | inr there ↦ second k there ]

nothing : (k : ℤ) → None ≡ Some k → ⊥
nothing k is = cc

behind_above : (number : ℕ → ℤ) (rows : List BoundRow) (s t : ℕ) (firsts : List BoundRow) → Allows rows number → AllowAllFrom number s firsts
    → SaysAbove number s t (greatest_sum rows firsts t)
unfolding greatest_sum
behind_above number rows s t [] allowed from = λ k is. absurd (nothing k is)
behind_above number rows s t (first ∷ firsts) allowed from =
    let here = moved number s first.t first.s first.t first.k first.k from.0.starts refl refl from.0.allowed in
    greater_above number s t (option_map (λ l. first.k +ℤ l) (stored rows first.t t)) (greatest_sum rows firsts t)
    (step_above number s first.t t first.k (stored rows first.t t) here (stored_above number rows first.t t allowed))
    (behind_above number rows s t firsts allowed from.1)

exact_above : (number : ℕ → ℤ) (rows : List BoundRow) (s t : ℕ) → Allows rows number → SaysAbove number s t (exact_gap rows s t)
unfolding exact_gap
exact_above number rows s t allowed =
    greater_above number s t (stored rows s t) (greatest_sum rows (rows_from rows s) t) (stored_above number rows s t allowed)
    (behind_above number rows s t (rows_from rows s) allowed (from_allowed number s rows allowed))

lowered : (number : ℕ → ℤ) (s t : ℕ) (k l : ℤ) → LiesAbove number s t l → k ≤ℤ l → LiesAbove number s t k
lowered number s t k l above less = grind (arith, ints)

cut_above : (number : ℕ → ℤ) (s t : ℕ) (known : Option ℤ) → SaysAbove number s t known → SaysAbove number s t (option_and_then cut known)
cut_above number s t None above k is = absurd cc
cut_above number s t (Some n) above k is = lowered number s t k n (above n refl) (cut_below n k is)

itself : (number : ℕ → ℤ) (s t : ℕ) (k : ℤ) → s ≡ t → Some (pos 0) ≡ Some k → LiesAbove number s t k
itself number s t k same is =
    let zero_is : pos 0 ≡ k = some_same (pos 0) k is in
    let numbers : number s ≡ number t = ap number same in
    grind (arith, ints)

apart_or_same : (number : ℕ → ℤ) (s t : ℕ) (known : Option ℤ) → SaysAbove number s t known → SaysAbove number s t (if s == t then Some (pos 0) else known)
apart_or_same number s t known above k is =
    elim (cases_Bool (s == t)) [
      | inl same ↦ itself number s t k (eqb-true s t same) (rw same at is)
      | inr apart ↦ above k (rw apart at is)
    ]

-- What a gap by bounds says is true of all numbers that they allow.
pub gap_above : (rows : List BoundRow) (number : ℕ → ℤ) (s t : ℕ) → Allows rows number → SaysAbove number s t (gap rows s t)
unfolding gap
gap_above rows number s t allowed =
    apart_or_same number s t (option_and_then cut (exact_gap rows s t)) (cut_above number s t (exact_gap rows s t) (exact_above number rows s t allowed))

-- So is what a gap says where ranges tell more.
pub gap_with_above : (rows : List BoundRow) (number : ℕ → ℤ) (between : ℤ) (s t : ℕ) → Allows rows number → LiesAbove number s t between
    → SaysAbove number s t (gap_with rows between s t)
unfolding gap_with
gap_with_above rows number between s t allowed apart =
    let ranges : SaysAbove number s t (Some between) = λ k is. moved number s t s t between k refl refl (some_same between k is) apart in
    let both = greater_above number s t (exact_gap rows s t) (Some between) (exact_above number rows s t allowed) ranges in
    apart_or_same number s t (option_and_then cut (greater_gap (exact_gap rows s t) (Some between)))
    (cut_above number s t (greater_gap (exact_gap rows s t) (Some between)) both)
