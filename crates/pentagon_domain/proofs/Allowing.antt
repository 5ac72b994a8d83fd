-- Which numbers bounds allow, when bounds are added, picked, and read under other numbers.
use Rattle.std.proofs.Common.{◌≡◌, ℕ, ℤ, ◌+ℤ◌, ◌≤ℤ◌, ◌<◌, ◌==◌, List, [], ◌∷◌, sym, arith, inl, inr}
use Rattle.std.specs.Int.{int_max}
use Rattle.std.specs.List.{AllByRecursion}
use Rattle.std.proofs.lemmas.Bool.{cases_Bool, and_parts, eqb-true}
use Rattle.std.proofs.lemmas.Int.{ints}
use Rattle.pentagon_domain.specs.declared.bound_row.BoundRow.{BoundRow}
use Rattle.pentagon_domain.specs.Rows.{is_pair, is_before, is_of, rows_from, put, with_bound}
use Rattle.pentagon_domain.specs.Gaps.{Allows, AllowsRow, AreBelow, LiesAbove}

-- The greater of two constants that are true is true.
greater_true : (a b k l : ℤ) → (a +ℤ k) ≤ℤ b → (a +ℤ l) ≤ℤ b → (a +ℤ int_max k l) ≤ℤ b
greater_true a b k l first second = grind (arith, ints)

lifted_true : (number : ℕ → ℤ) (row : BoundRow) (s t : ℕ) (k : ℤ) → row.s ≡ s → row.t ≡ t → AllowsRow number row → LiesAbove number s t k
    → (number row.s +ℤ int_max row.k k) ≤ℤ number row.t
lifted_true number row s t k from to allowed true_of =
    let same : (number row.s +ℤ k) ≤ℤ number row.t = rw (from, to) true_of in
    greater_true (number row.s) (number row.t) row.k k allowed same

put_allows : (rows : List BoundRow) (number : ℕ → ℤ) (s t : ℕ) (k : ℤ) → Allows rows number → LiesAbove number s t k → Allows (put rows s t k) number
put_allows [] number s t k allowed true_of = (true_of, tt)
put_allows (row ∷ rows) number s t k allowed true_of =
    elim (cases_Bool (is_before row s t)) [
      | inl before ↦ rw before (allowed.0, put_allows rows number s t k allowed.1 true_of)
      | inr behind ↦
          elim (cases_Bool (is_of row s t)) [
            | inl here ↦
                let parts = and_parts (row.s == s) (row.t == t) here in
                rw (behind, here) (lifted_true number row s t k (eqb-true row.s s parts.0) (eqb-true row.t t parts.1) allowed.0 true_of, allowed.1)
            | inr other ↦ rw (behind, other) (true_of, (allowed.0, allowed.1))
          ]
    ]

-- A bound that is true of numbers is added to bounds that allow them.
pub with_bound_allows : (rows : List BoundRow) (number : ℕ → ℤ) (s t : ℕ) (k : ℤ) → Allows rows number → LiesAbove number s t k → Allows (with_bound rows s t k) number
with_bound_allows rows number s t k allowed true_of =
    elim (cases_Bool (is_pair s t)) [ inl pair ↦ rw pair (put_allows rows number s t k allowed true_of) | inr none ↦ rw none allowed ]

-- The rows from a symbol allow what all rows allow.
pub rows_from_allows : (rows : List BoundRow) (number : ℕ → ℤ) (s : ℕ) → Allows rows number → Allows (rows_from rows s) number
rows_from_allows [] number s allowed = tt
rows_from_allows (row ∷ rows) number s allowed =
    let rest = rows_from_allows rows number s allowed.1 in
    elim (cases_Bool (row.s == s)) [ inl here ↦ rw here (allowed.0, rest) | inr other ↦ rw other rest ]

-- Numbers that agree on all symbols below a count are allowed alike by bounds of these symbols.
pub allows_agreeing : (rows : List BoundRow) (number other : ℕ → ℤ) (count : ℕ) → AllByRecursion (AreBelow count) rows
    → ((s : ℕ) → s < count → number s ≡ other s) → Allows rows number → Allows rows other
allows_agreeing [] number other count below agree allowed = tt
allows_agreeing (row ∷ rows) number other count below agree allowed =
    let here : AllowsRow other row = rw (sym (agree row.s below.0.from), sym (agree row.t below.0.to)) allowed.0 in
    (here, allows_agreeing rows number other count below.1 agree allowed.1)
