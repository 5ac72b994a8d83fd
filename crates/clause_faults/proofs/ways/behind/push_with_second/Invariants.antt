use Rattle.std.proofs.Common.{◌≡◌, ◌++◌, take}
use Rattle.std.specs.List.{flat_map}
use Rattle.clause_faults.specs.SharedStacks.{with_second}
use Rattle.clause_faults.proofs.ways.behind.push_with_second.Given as goal

abbrev pub invariant-loop-second : goal.invariant-loop-second
invariant-loop-second l = l.out ≡ l.initial.out ++ flat_map (with_second l.args l.instr l.top) (take l.second-index l.seconds)
