use Rattle.state_facts.proofs.Growing.{same_form}
use Rattle.abs_state.proofs.Boxed.{boxed}
use Rattle.abs_state.proofs.state.AbsState.copy.Goals as goal

pub of_known-requires : goal.of_known-requires
of_known-requires c =
    let held = boxed c.in-Some.is c.deref.ensures in
    λ x is. same_form _ x is (rw c.in_ok-again-in-Some.ensures (c.self.invariant _ held))
