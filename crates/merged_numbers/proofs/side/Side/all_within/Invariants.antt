use Rattle.std.proofs.Common.{◌≡◌, drop}
use Rattle.merged_numbers.specs.Known.{known}
use Rattle.merged_numbers.specs.Included.{all_within}
use Rattle.merged_numbers.proofs.side.Side.all_within.Given as goal

abbrev pub invariant-loop-place : goal.invariant-loop-place
invariant-loop-place l = all_within (known l.self) (drop l.place l.binding) (drop l.place l.ranges) ≡ all_within (known l.self) l.binding l.ranges
