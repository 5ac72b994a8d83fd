use Rattle.std.proofs.Common.{drop}
use Rattle.std.specs.List.{AllByRecursion}
use Rattle.merged_numbers.specs.Known.{known}
use Rattle.merged_numbers.specs.Settled.{IsNamed}
use Rattle.merged_numbers.proofs.side.Side.are_named.Given as goal

-- Where those of the rest are named, all are.
abbrev pub invariant-loop-key : goal.invariant-loop-key
invariant-loop-key l = AllByRecursion (IsNamed (known l.self)) (drop l.key-index l.keys) → AllByRecursion (IsNamed (known l.self)) l.keys
