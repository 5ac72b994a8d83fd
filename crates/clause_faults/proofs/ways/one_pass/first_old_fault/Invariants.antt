use Rattle.std.proofs.Common.{◌≡◌, take}
use Rattle.clause_faults.specs.SharedStacks.{least, old_fault}
use Rattle.clause_faults.proofs.ways.one_pass.first_old_fault.Given as goal

abbrev pub invariant-loop-top : goal.invariant-loop-top
invariant-loop-top l = l.first ≡ least (old_fault l.at l.place) (take l.top-index l.tops)
