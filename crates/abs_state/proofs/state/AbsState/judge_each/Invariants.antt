use Rattle.abs_state.proofs.Judging.{AreLeft}
use Rattle.abs_state.proofs.state.AbsState.judge_each.Given as goal

abbrev pub invariant-loop-condition : goal.invariant-loop-condition
invariant-loop-condition l = AreLeft l.conditions l.initial.self l.condition-index l.all l.self
