-- Rows of which no two behind each other tell more than what is stored, and than the ends of their symbols.
use Rattle.std.specs.Prelude.{ℕ, ◌==◌, ℤ, pos, ◌+ℤ◌, ◌-ℤ◌, int_le, Bool, ◌||◌, IsTrue, List, length, get_or, Option, Some, None, ◌≡◌, EachIndex}
use Rattle.std.specs.Int.{int_max}
use Rattle.std.specs.List.{AllByRecursion}
use Rattle.pentagon_domain.specs.declared.bound_row.BoundRow.{BoundRow}
use Rattle.pentagon_domain.specs.declared.ends.Ends.{Ends}
use Rattle.pentagon_domain.specs.Gaps.{AreBelow}
use Rattle.pentagon_domain.specs.Rows.{rows_from, stored}

-- What stands for the ends of a symbol that is not in their list.
abbrev pub no_ends : Ends
no_ends = record { lo = pos 0; hi = pos 0 }

-- How far ends lie apart: from the greatest number of the first symbol to the least of the second.
abbrev pub apart : List Ends → ℕ → ℕ → ℤ
apart ends s t = (get_or ends t no_ends).lo -ℤ (get_or ends s no_ends).hi

-- A number is no greater than a constant, if it is known, or than how far ends lie apart.
abbrev pub is_told : ℤ → Option ℤ → ℤ → Bool
is_told sum None far = int_le sum far
is_told sum (Some k) far = int_le sum k || int_le sum far

-- The greatest number that is told.
abbrev pub told_by : Option ℤ → ℤ → ℤ
told_by None far = far
told_by (Some k) far = int_max k far

-- In a list stands for each symbol the greatest number that is told of s and of it, by what is known from s and by ends.
abbrev pub AreTold : List Ends → List (Option ℤ) → ℕ → List ℤ → Type 0
AreTold ends known s told = EachIndex told (λ t. get_or told t (pos 0) ≡ told_by (get_or known t None) (apart ends s t))

-- Behind a bound from s with the constant k, the next one goes back to s, or their sum is told, where what is known
-- from s to each symbol is given.
abbrev pub adds_nothing : List Ends → (ℕ → Option ℤ) → ℕ → ℤ → BoundRow → Bool
adds_nothing ends known s k next = next.t == s || is_told (k +ℤ next.k) (known next.t) (apart ends s next.t)

abbrev pub AddNothing : List Ends → (ℕ → Option ℤ) → ℕ → ℤ → List BoundRow → Type 0
AddNothing ends known s k nexts = AllByRecursion (λ next. IsTrue (adds_nothing ends known s k next)) nexts

-- No bound behind one of these from s adds anything to what is stored and what the ends tell.
abbrev pub AreTightFrom : List Ends → List BoundRow → ℕ → List BoundRow → Type 0
AreTightFrom ends rows s firsts =
    AllByRecursion (λ first. AddNothing ends (stored rows s) s first.k (rows_from rows first.t)) firsts

-- Rows are tight over ends, that of symbol s at place s: each sum of two bounds behind each other is told by what is
-- stored, or by the ends, of the symbol where the first begins and of that where the second ends.
pub record AreTightOver (ends : List Ends) (rows : List BoundRow) : Type 0 where
  pub below : AllByRecursion (AreBelow (length ends)) rows
  pub sums : (s : ℕ) → AreTightFrom ends rows s (rows_from rows s)
