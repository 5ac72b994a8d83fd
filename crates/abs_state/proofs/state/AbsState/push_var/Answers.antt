use Rattle.std.proofs.Common.{sym, ◌∙◌}
use Rattle.state_facts.proofs.Growing.{same_form}
use Rattle.state_facts.proofs.MoveForms.{pushed_form}
use Rattle.abs_state.proofs.Boxed.{boxed}
use Rattle.abs_state.proofs.state.AbsState.push_var.Goals as goal

pub invariant_of-self-2 : goal.invariant_of-self-2
invariant_of-self-2 c =
    let held = boxed c.in-Some.is c.deref_mut.ensures.value in
    λ x is. same_form _ x is (rw c.in_ok-push.ensures.ok
    (pushed_form c.deref_mut.result.now c.args.v (c.self.invariant _ held) (c.requires _ (sym c.self.view_is ∙ held))))

pub returns-clause-form : goal.returns-clause-form
returns-clause-form c = λ x is. c.self.invariant x (c.self.view_is ∙ is)

pub invariant_of-self-in_err-push : goal.invariant_of-self-in_err-push
invariant_of-self-in_err-push c =
    let held = boxed c.in-Some.is c.deref_mut.ensures.value in
    λ x is. same_form _ x is (rw c.in_err-push.ensures.err (c.self.invariant _ held))

pub returns-in_err-push-clause-form : goal.returns-in_err-push-clause-form
returns-in_err-push-clause-form c = λ x is. c.self.invariant x (c.self.view_is ∙ is)
