use Rattle.invariant_checker.proofs.JudgeSteps.{next}
use Rattle.invariant_checker.proofs.judging.judge_instrs.Goals as goal

pub loop-instr-preserved : goal.loop-instr-preserved
loop-instr-preserved c =
    next c.args.unit.now c.args.instrs.now c.args.found.now.items c.args.state c.loop-instr.found.items
    c.loop-instr.state c.loop-instr.instr-index c.instr-item.result c.loop-instr.invariant c.loop-instr-test.true
    c.instr-item.is c.push_verdicts.new.found.items c.in_ok-state.state c.in_ok-push_verdicts.ensures
    c.in_ok-state.ensures.value
