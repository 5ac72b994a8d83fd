use Rattle.std.proofs.Common.{rules, ◌∙◌}
use Rattle.state_facts.proofs.Growing.{same_form, formed_new}
use Rattle.state_facts.proofs.MoveForms.{call_form}
use Rattle.abs_state.proofs.Boxed.{boxed}
use Rattle.abs_state.proofs.state.AbsState.push_result.Goals as goal

pub invariant_of-self-else-not-branch : goal.invariant_of-self-else-not-branch
invariant_of-self-else-not-branch c =
    let held = boxed c.in-Some.is c.deref_mut.ensures.value in
    λ x is. same_form _ x is (formed_new _ _
    (call_form c.args.first c.args.args c.args.place c.deref_mut.result.now (c.self.invariant _ held))
    (c.in_ok-forget.ensures.ok (search rules)))

pub returns-then-not-branch-clause-form : goal.returns-then-not-branch-clause-form
returns-then-not-branch-clause-form c = λ x is. c.self.invariant x (c.self.view_is ∙ is)

pub returns-else-not-branch-clause-form : goal.returns-else-not-branch-clause-form
returns-else-not-branch-clause-form c = λ x is. c.self.invariant x (c.self.view_is ∙ is)

pub invariant_of-self-in_err-forget : goal.invariant_of-self-in_err-forget
invariant_of-self-in_err-forget c =
    let held = boxed c.in-Some.is c.deref_mut.ensures.value in
    λ x is. same_form _ x is (rw c.in_err-forget.ensures.err (c.self.invariant _ held))

pub returns-in_err-forget-clause-form : goal.returns-in_err-forget-clause-form
returns-in_err-forget-clause-form c = λ x is. c.self.invariant x (c.self.view_is ∙ is)
