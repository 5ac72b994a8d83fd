use Rattle.state_facts.proofs.Growing.{same_form}
use Rattle.abs_state.proofs.state.AbsState.of_known.Goals as goal

pub invariant_of-result : goal.invariant_of-result
invariant_of-result c = λ x is. same_form _ x is (rw c.in_ok-new-in-Some.ensures.ok (c.requires _ c.in-Some.is))
