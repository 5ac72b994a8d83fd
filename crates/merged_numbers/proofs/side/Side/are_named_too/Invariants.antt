use Rattle.std.proofs.Common.{drop}
use Rattle.std.specs.List.{AllByRecursion}
use Rattle.merged_numbers.specs.Known.{known}
use Rattle.merged_numbers.specs.Settled.{IsNamedToo}
use Rattle.merged_numbers.proofs.side.Side.are_named_too.Given as goal

-- Where those of the rest are named, all are.
abbrev pub invariant-loop-key : goal.invariant-loop-key
invariant-loop-key l = AllByRecursion (IsNamedToo (known l.self)) (drop l.key-index l.keys) → AllByRecursion (IsNamedToo (known l.self)) l.keys
