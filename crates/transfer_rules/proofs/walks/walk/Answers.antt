use Rattle.transfer_rules.proofs.Walking.{walk_done}
use Rattle.transfer_rules.proofs.walks.walk.Goals as goal

pub returns : goal.returns
returns c =
    walk_done c.args.unit.now c.args.instrs.now c.args.state c.loop-instr.state c.loop-instr.instr-index
    c.loop-instr.invariant c.loop-instr-test.false
