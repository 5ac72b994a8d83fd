-- Rows that gain a bound.
use Rattle.std.proofs.Common.{◌≡◌, ℕ, zero, suc, ◌≤◌, ℤ, true, false, List, [], ◌∷◌, ◌++◌, length, get_or, set, take, drop, refl, ap, arith, inl, inr}
use Rattle.std.specs.Int.{int_max}
use Rattle.std.specs.List.{AllByRecursion}
use Rattle.std.proofs.lemmas.Bool.{cases_Bool}
use Rattle.std.proofs.lemmas.Bool.Decides.{nat_tests}
use Rattle.pentagon_domain.specs.declared.bound_row.BoundRow.{BoundRow}
use Rattle.pentagon_domain.specs.Rows.{is_pair, is_before, is_of, is_found, StandsBefore, AreBounds, place_of, put}
use Rattle.pentagon_domain.specs.Targets.{put_at}
use Rattle.pentagon_domain.proofs.Searches.{before_trans}

-- The bound of two symbols.
abbrev pub bound : ℕ → ℕ → ℤ → BoundRow
bound s t k = record { s = s; t = t; k = k }

-- The row with the greater of its constant and another one.
abbrev pub lifted : BoundRow → ℤ → BoundRow
lifted row k = record row { k = int_max row.k k }

-- A row that is there gets the greater constant.
pub put_over : (rows : List BoundRow) (place : ℕ) (new d : BoundRow) → is_found rows place new.s new.t ≡ true
    → put_at rows place new ≡ set rows place (lifted (get_or rows place d) new.k)
put_over [] place new d found = absurd cc
put_over (row ∷ rows) zero new d found = let here : is_of row new.s new.t ≡ true = found in rw here refl
put_over (row ∷ rows) (suc place) new d found = ap (λ ys. row ∷ ys) (put_over rows place new d found)

-- A new one is inserted.
pub put_new : (rows : List BoundRow) (place : ℕ) (new : BoundRow) → place ≤ length rows → is_found rows place new.s new.t ≡ false
    → put_at rows place new ≡ take place rows ++ new ∷ drop place rows
put_new [] zero new inside missing = refl
put_new [] (suc place) new inside missing = absurd (omega (arith, inside))
put_new (row ∷ rows) zero new inside missing = let here : is_of row new.s new.t ≡ false = missing in rw here refl
put_new (row ∷ rows) (suc place) new inside missing = ap (λ ys. row ∷ ys) (put_new rows place new (omega (arith, inside)) missing)

-- At the place of its symbols it is put in order.
pub put_in_order : (rows : List BoundRow) (new : BoundRow) → put_at rows (place_of rows new.s new.t) new ≡ put rows new.s new.t new.k
put_in_order [] new = refl
put_in_order (row ∷ rows) new =
    elim (cases_Bool (is_before row new.s new.t)) [
      | inl before ↦ rw before (ap (λ ys. row ∷ ys) (put_in_order rows new))
      | inr behind ↦ rw behind refl
    ]

-- ---- they are rows of bounds again

before_put : (row : BoundRow) (rows : List BoundRow) (s t : ℕ) (k : ℤ) → is_before row s t ≡ true → AllByRecursion (StandsBefore row) rows
    → AllByRecursion (StandsBefore row) (put rows s t k)
before_put row [] s t k first later = (first, tt)
before_put row (next ∷ rows) s t k first later =
    elim (cases_Bool (is_before next s t)) [
      | inl before ↦ rw before (later.0, before_put row rows s t k first later.1)
      | inr behind ↦
          elim (cases_Bool (is_of next s t)) [
            | inl here ↦ rw (behind, here) (later.0, later.1)
            | inr other ↦ rw (behind, other) (first, (later.0, later.1))
          ]
    ]

before_all : (new row : BoundRow) (rows : List BoundRow) → StandsBefore new row → AllByRecursion (StandsBefore row) rows → AllByRecursion (StandsBefore new) rows
before_all new row [] first later = tt
before_all new row (next ∷ rows) first later = (before_trans new row next.s next.t first later.0, before_all new row rows first later.1)

before_next : (s t : ℕ) (k : ℤ) (row : BoundRow) → is_before row s t ≡ false → is_of row s t ≡ false → is_before (bound s t k) row.s row.t ≡ true
before_next s t k row behind other = grind (arith, nat_tests)

pub put_bounds : (rows : List BoundRow) (s t : ℕ) (k : ℤ) → is_pair s t ≡ true → AreBounds rows → AreBounds (put rows s t k)
put_bounds [] s t k pair form = (pair, tt, tt)
put_bounds (row ∷ rows) s t k pair form =
    elim (cases_Bool (is_before row s t)) [
      | inl before ↦ rw before (form.0, before_put row rows s t k before form.1, put_bounds rows s t k pair form.2)
      | inr behind ↦
          elim (cases_Bool (is_of row s t)) [
            | inl here ↦ rw (behind, here) (form.0, form.1, form.2)
            | inr other ↦
                let first = before_next s t k row behind other in
                rw (behind, other) (pair, (first, before_all (bound s t k) row rows first form.1), (form.0, form.1, form.2))
          ]
    ]

-- What a row at a place rests on.
pub ruleset puts = (put_over, put_new)

-- What a row in order rests on.
pub ruleset in_order = (put_in_order, put_bounds)
