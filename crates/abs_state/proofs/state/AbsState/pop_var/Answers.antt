use Rattle.std.proofs.Common.{◌∙◌}
use Rattle.state_facts.proofs.Growing.{same_form}
use Rattle.state_facts.proofs.MoveForms.{popped_form}
use Rattle.abs_state.proofs.Boxed.{boxed}
use Rattle.abs_state.proofs.state.AbsState.pop_var.Goals as goal

pub invariant_of-self-2 : goal.invariant_of-self-2
invariant_of-self-2 c =
    let held = boxed c.in-Some.is c.deref_mut.ensures.value in
    λ x is. same_form _ x is (rw c.pop.ensures (popped_form c.deref_mut.result.now (c.self.invariant _ held)))

pub returns-clause-form : goal.returns-clause-form
returns-clause-form c = λ x is. c.self.invariant x (c.self.view_is ∙ is)
