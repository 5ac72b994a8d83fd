use Rattle.std.proofs.Common.{sym}
use Rattle.method_unit.proofs.CalleeOrder.{order_stops}
use Rattle.method_unit.proofs.callee_order.called_in_order.Goals as goal

pub returns-in-None : goal.returns-in-None
returns-in-None c =
    order_stops c.args.instrs.now c.loop-instr.next c.loop-instr.instr-index c.instr-item.result c.loop-instr-test.true c.instr-item.is (sym c.in-None.ensures.count) c.loop-instr.invariant.0
