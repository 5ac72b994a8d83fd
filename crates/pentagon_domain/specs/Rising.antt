-- Rows, told by each two neighbours.
use Rattle.std.specs.Prelude.{Bool, true, ◌&&◌, Option, Some, None}
use Rattle.pentagon_domain.specs.declared.bound_row.BoundRow.{BoundRow}
use Rattle.pentagon_domain.specs.Rows.{is_pair, is_before}

-- A row stands behind the one before it, if there is one.
abbrev pub follows : Option BoundRow → BoundRow → Bool
follows None row = true
follows (Some previous) row = is_before previous row.s row.t

-- A row is of two symbols of which a bound is stored, and stands behind the one before it.
abbrev pub stands_behind : Option BoundRow → BoundRow → Bool
stands_behind previous row = is_pair row.s row.t && follows previous row
