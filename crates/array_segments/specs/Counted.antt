-- The form of segments but for the limit on their number.
use Rattle.std.specs.Prelude.{◌≡◌, ◌+◌, ◌≤◌, [], length, get_or}
use Rattle.std.specs.List.{AllByRecursion}
use Rattle.array_segments.specs.SegmentLists.{Has, HasFew, Lists, zero_expr}

pub record IsCounted {C : Type 0} (lists : Lists C) : Type 0 where
  pub some : 1 ≤ length lists.contents
  pub bounded : length lists.bounds ≡ length lists.contents + 1
  pub marked : length lists.marks ≡ length lists.contents
  pub few : AllByRecursion HasFew lists.bounds
  pub from_zero : Has zero_expr (get_or lists.bounds 0 [])
