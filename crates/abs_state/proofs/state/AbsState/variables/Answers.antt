use Rattle.std.proofs.Common.{◌∙◌}
use Rattle.abs_state.proofs.state.AbsState.variables.Goals as goal

pub returns-in-Some-clause-form : goal.returns-in-Some-clause-form
returns-in-Some-clause-form c = λ x is. c.self.invariant x (c.self.view_is ∙ is)
