use Rattle.std.proofs.Common.{◌≤◌, drop}
use Rattle.method_unit.specs.CalledInOrder.{AreCalled, calls_in}
use Rattle.method_unit.proofs.callee_order.called_in_order.Given as goal

abbrev pub invariant-loop-instr : goal.invariant-loop-instr
invariant-loop-instr l = AreCalled l.instrs l.next (calls_in (drop l.instr-index l.instrs)) × (l.next ≤ l.instr-index)
