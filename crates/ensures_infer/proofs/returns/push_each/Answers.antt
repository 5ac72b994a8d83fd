use Rattle.ensures_infer.proofs.Returning.{can_do_here, can_here, can_last, ended, goes_on}
use Rattle.ensures_infer.proofs.returns.push_each.Goals as goal

pub loop-instr-preserved : goal.loop-instr-preserved
loop-instr-preserved c =
    goes_on c.args.unit.now c.args.instrs.now c.args.found.now.items c.args.state c.loop-instr.found.items
    c.loop-instr.state c.loop-instr.instr-index c.instr-item.result c.loop-instr.invariant c.loop-instr-test.true
    c.instr-item.is c.push_returned.new.found.items c.in_ok-state.state c.in_ok-push_returned.ensures
    c.in_ok-state.ensures.value
