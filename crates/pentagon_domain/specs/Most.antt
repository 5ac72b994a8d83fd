-- How great constants are at most, and which sums can be no greater than a gap.
use Rattle.std.specs.Prelude.{◌≡◌, ℤ, ◌+ℤ◌, ◌≤ℤ◌, int_le, ℕ, ◌==◌, Bool, true, false, not, length, List, Option, Some, None}
use Rattle.std.specs.List.{AllByRecursion}
use Rattle.domain_api.specs.Order.{greater_gap}
use Rattle.pentagon_domain.specs.declared.bound_row.BoundRow.{BoundRow}
use Rattle.pentagon_domain.specs.Rows.{is_pair, rows_to}

-- No constant of a row of two symbols of which a bound is stored is greater.
abbrev pub IsUpTo : ℤ → BoundRow → Type 0
IsUpTo most row = is_pair row.s row.t ≡ true → row.k ≤ℤ most

abbrev pub AreUpTo : ℤ → List BoundRow → Type 0
AreUpTo most rows = AllByRecursion (IsUpTo most) rows

-- The lowest gap, if it is known, is not above this one.
abbrev pub IsLow : Option ℤ → Option ℤ → Type 0
IsLow low gap = (l : ℤ) → low ≡ Some l → greater_gap gap (Some l) ≡ gap

-- A constant and any that is at most so great make no more than the lowest gap.
abbrev pub is_idle : ℤ → ℤ → Option ℤ → Bool
is_idle k most None = false
is_idle k most (Some low) = int_le (k +ℤ most) low

-- A bound goes to the symbol.
abbrev pub is_reached : List BoundRow → ℕ → Bool
is_reached rows t = not (length (rows_to rows t) == 0)
