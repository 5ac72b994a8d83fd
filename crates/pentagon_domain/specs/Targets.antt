-- Rows of bounds in two orders: by the symbol from which they go, and by that to which they go.
use Rattle.std.specs.Prelude.{◌≡◌, ℕ, zero, suc, List, [], ◌∷◌, map, if◌then◌else◌}
use Rattle.std.specs.Int.{int_max}
use Rattle.pentagon_domain.specs.declared.bound_row.BoundRow.{BoundRow}
use Rattle.pentagon_domain.specs.Rows.{is_of, AreBounds, rows_to}

-- A row with its symbols exchanged.
abbrev pub turned : BoundRow → BoundRow
turned row = record { s = row.t; t = row.s; k = row.k }

-- The rows that go to each symbol are those of rows of bounds, and lie together: exchanged they are in the same order.
pub record AreTargets (targets rows : List BoundRow) : Type 0 where
  pub form : AreBounds (map turned targets)
  pub same : (t : ℕ) → rows_to targets t ≡ rows_to rows t

-- A row at a place: where one of the same symbols stands there, that keeps the greater constant.
abbrev pub put_at : List BoundRow → ℕ → BoundRow → List BoundRow
put_at [] place new = new ∷ []
put_at (row ∷ rows) zero new =
    if is_of row new.s new.t then record row { k = int_max row.k new.k } ∷ rows else (new ∷ row ∷ rows)
put_at (row ∷ rows) (suc place) new = row ∷ put_at rows place new
