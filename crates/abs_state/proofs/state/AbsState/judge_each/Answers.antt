use Rattle.abs_state.proofs.Judging.{judged_on}
use Rattle.abs_state.proofs.state.AbsState.judge_each.Goals as goal

pub loop-condition-preserved : goal.loop-condition-preserved
loop-condition-preserved c =
    judged_on c.args.conditions.now c.args.self.now c.loop-condition.self c.judge_next.new.self c.loop-condition.condition-index _ c.loop-condition.all c.in_ok-all.all
    c.loop-condition.invariant c.loop-condition-test.true c.judge_next.ensures.form c.in_ok-all.ensures.value c.in_ok-all.ensures.state
