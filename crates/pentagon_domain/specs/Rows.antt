-- Rows of bounds: at most one for two symbols, in the order of their symbols.
use Rattle.std.specs.Prelude.{ℕ, zero, suc, ◌==◌, nat_lt, Bool, false, not, ◌&&◌, ◌||◌, IsTrue, ℤ, List, [], ◌∷◌, filter, Option, Some, None, if◌then◌else◌}
use Rattle.std.specs.Int.{int_max}
use Rattle.std.specs.List.{AllByRecursion}
use Rattle.pentagon_domain.specs.declared.bound_row.BoundRow.{BoundRow}

-- A bound of two symbols is stored where they are distinct and none is 0.
abbrev pub is_pair : ℕ → ℕ → Bool
is_pair s t = not (s == 0) && not (t == 0) && not (s == t)

-- The row stands before any of two symbols: its first symbol is lower, or is the same and its second is lower.
abbrev pub is_before : BoundRow → ℕ → ℕ → Bool
is_before row s t = nat_lt row.s s || (row.s == s && nat_lt row.t t)

-- The row is that of two symbols.
abbrev pub is_of : BoundRow → ℕ → ℕ → Bool
is_of row s t = row.s == s && row.t == t

-- The row stands before another one.
abbrev pub StandsBefore : BoundRow → BoundRow → Type 0
StandsBefore row later = IsTrue (is_before row later.s later.t)

-- Rows of bounds: each of two symbols of which a bound is stored, and each before all later ones.
abbrev pub AreBounds : List BoundRow → Type 0
AreBounds [] = Unit {0}
AreBounds (row ∷ rows) = IsTrue (is_pair row.s row.t) × AllByRecursion (StandsBefore row) rows × AreBounds rows

-- The rows that are there, or none.
abbrev pub rows_in : Option (List BoundRow) → List BoundRow
rows_in None = []
rows_in (Some rows) = rows

-- The rows that go from a symbol.
abbrev pub rows_from : List BoundRow → ℕ → List BoundRow
rows_from rows s = filter (λ row. row.s == s) rows

-- The rows that go to a symbol.
abbrev pub rows_to : List BoundRow → ℕ → List BoundRow
rows_to rows t = filter (λ row. row.t == t) rows

-- The constant of the row that goes to a symbol.
abbrev pub constant_to : List BoundRow → ℕ → Option ℤ
constant_to [] t = None
constant_to (row ∷ rows) t = if row.t == t then Some row.k else constant_to rows t

-- The constant that is stored for two symbols.
abbrev pub stored : List BoundRow → ℕ → ℕ → Option ℤ
stored rows s t = constant_to (rows_from rows s) t

-- How many rows stand before those of two symbols.
abbrev pub place_of : List BoundRow → ℕ → ℕ → ℕ
place_of [] s t = 0
place_of (row ∷ rows) s t = if is_before row s t then suc (place_of rows s t) else 0

-- The row at a place is there, and is that of two symbols.
abbrev pub is_found : List BoundRow → ℕ → ℕ → ℕ → Bool
is_found [] place s t = false
is_found (row ∷ rows) zero s t = is_of row s t
is_found (row ∷ rows) (suc place) s t = is_found rows place s t

-- The rows with the bound s + k <= t, where those of later symbols begin.
abbrev pub put_first : List BoundRow → ℕ → ℕ → ℤ → List BoundRow
put_first [] s t k = record { s = s; t = t; k = k } ∷ []
put_first (row ∷ rows) s t k =
    if is_of row s t then record row { k = int_max row.k k } ∷ rows else (record { s = s; t = t; k = k } ∷ row ∷ rows)

-- The rows with the bound s + k <= t: of two bounds of the same symbols the greater constant is kept.
abbrev pub put : List BoundRow → ℕ → ℕ → ℤ → List BoundRow
put [] s t k = put_first [] s t k
put (row ∷ rows) s t k = if is_before row s t then row ∷ put rows s t k else put_first (row ∷ rows) s t k

-- The rows behind the addition of a bound: nothing is stored of equal symbols, and of symbol 0.
abbrev pub with_bound : List BoundRow → ℕ → ℕ → ℤ → List BoundRow
with_bound rows s t k = if is_pair s t then put rows s t k else rows

-- The rows behind the additions of bounds, one after another.
abbrev pub with_bounds : List BoundRow → List BoundRow → List BoundRow
with_bounds rows [] = rows
with_bounds rows (bound ∷ bounds) = with_bounds (with_bound rows bound.s bound.t bound.k) bounds
