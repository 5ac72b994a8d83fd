use Rattle.std.proofs.Common.{◌≡◌, take}
use Rattle.cil_model.proofs.unit_copies.copy_callees.Given as goal

abbrev pub invariant-loop-callee : goal.invariant-loop-callee
invariant-loop-callee l = l.copies.items ≡ take l.callee-index l.callees
