use Rattle.abs_state.proofs.Boxed.{boxed}
use Rattle.abs_state.proofs.state.AbsState.known.Goals as goal

pub returns-clause-form : goal.returns-clause-form
returns-clause-form c = c.self.invariant _ (boxed c.in-Some.is c.deref.ensures)
