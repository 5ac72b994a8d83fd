-- Rows that cut no end, and of which each tells more than the ends do.
use Rattle.std.specs.Prelude.{◌≡◌, ℕ, ◌<◌, ◌≤◌, length, negsuc, pos, ◌+ℤ◌, ◌≤ℤ◌, int_lt, true, List, get_or}
use Rattle.std.specs.List.{AllByRecursion}
use Rattle.pentagon_domain.specs.declared.bound_row.BoundRow.{BoundRow}
use Rattle.pentagon_domain.specs.declared.ends.Ends.{Ends}
use Rattle.pentagon_domain.specs.declared.note.Note.{Note}
use Rattle.pentagon_domain.specs.Tight.{AreTightOver, apart, no_ends}

-- The ends of a symbol that has a number, and none but int32.
pub record IsNarrow (ends : Ends) : Type 0 where
  pub least : negsuc 2147483647 ≤ℤ ends.lo
  pub some : ends.lo ≤ℤ ends.hi
  pub greatest : ends.hi ≤ℤ pos 2147483647

-- The bound s + k <= t cuts neither the least number of t nor the greatest of s, and it tells more than the ends of both.
pub record IsSettled (ends : List Ends) (row : BoundRow) : Type 0 where
  pub low : ((get_or ends row.s no_ends).lo +ℤ row.k) ≤ℤ (get_or ends row.t no_ends).lo
  pub high : ((get_or ends row.s no_ends).hi +ℤ row.k) ≤ℤ (get_or ends row.t no_ends).hi
  pub more : int_lt (apart ends row.s row.t) row.k ≡ true

-- Rows are settled over ends, that of symbol s at place s, which are those of int32 symbols.
pub record AreSettledOver (ends : List Ends) (rows : List BoundRow) : Type 0 where
  pub narrow : AllByRecursion IsNarrow ends
  pub each : AllByRecursion (IsSettled ends) rows

-- The ends of a symbol are no wider than these.
pub record IsWithin (wide ends : List Ends) (s : ℕ) : Type 0 where
  pub low : (get_or wide s no_ends).lo ≤ℤ (get_or ends s no_ends).lo
  pub high : (get_or ends s no_ends).hi ≤ℤ (get_or wide s no_ends).hi

-- So it is of each symbol that has ends there.
pub record AreWithin (wide ends : List Ends) : Type 0 where
  pub count : length wide ≤ length ends
  pub each : (s : ℕ) → s < length wide → IsWithin wide ends s

-- What is noted of rows is so.
pub record AreNoted (note : Note) (rows : List BoundRow) : Type 0 where
  pub tight : AreTightOver note.ends.items rows
  pub settled : note.is_settled ≡ true → AreSettledOver note.ends.items rows
