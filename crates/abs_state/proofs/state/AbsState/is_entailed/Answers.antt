use Rattle.std.proofs.Common.{◌∙◌}
use Rattle.abs_state.proofs.Boxed.{boxed}
use Rattle.abs_state.proofs.state.AbsState.is_entailed.Goals as goal

pub entails-requires-clause-form : goal.entails-requires-clause-form
entails-requires-clause-form c = c.self.invariant _ (boxed c.in-Some.is c.deref.ensures)

pub returns-in-Some-clause-form : goal.returns-in-Some-clause-form
returns-in-Some-clause-form c = λ x is. c.self.invariant x (c.self.view_is ∙ is)
