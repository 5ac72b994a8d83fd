use Rattle.std.proofs.Common.{◌≡◌, ◌++◌, take}
use Rattle.std.specs.List.{flat_map}
use Rattle.clause_faults.specs.SharedStacks.{with_one}
use Rattle.clause_faults.proofs.ways.behind.push_with_one.Given as goal

abbrev pub invariant-loop-top : goal.invariant-loop-top
invariant-loop-top l = l.out ≡ l.initial.out ++ flat_map (with_one l.args l.instr) (take l.top-index l.tops)
