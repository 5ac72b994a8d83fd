use Rattle.std.proofs.Common.{◌≡◌, drop}
use Rattle.std.specs.List.{list_all}
use Rattle.merged_numbers.specs.Known.{known}
use Rattle.merged_numbers.specs.Included.{follows}
use Rattle.merged_numbers.proofs.side.Side.all_follow.Given as goal

abbrev pub invariant-loop-row : goal.invariant-loop-row
invariant-loop-row l =
    list_all (follows (known l.self) l.binding) (drop l.row-index l.rows) ≡ list_all (follows (known l.self) l.binding) l.rows
