use Rattle.std.proofs.Common.{◌∙◌}
use Rattle.abs_state.proofs.state.AbsState.reached.Goals as goal

pub returns-clause-form : goal.returns-clause-form
returns-clause-form c = λ x is. c.self.invariant x (c.self.view_is ∙ is)
