use Rattle.std.proofs.Common.{rules, sym, ◌∙◌}
use Rattle.state_facts.proofs.Growing.{same_form, formed_new}
use Rattle.state_facts.proofs.MoveForms.{put_form}
use Rattle.abs_state.proofs.Boxed.{boxed}
use Rattle.abs_state.proofs.state.AbsState.put_var.Goals as goal

pub invariant_of-self-else-not-branch : goal.invariant_of-self-else-not-branch
invariant_of-self-else-not-branch c =
    let held = boxed c.in-Some.is c.deref_mut.ensures.value in
    λ x is. same_form _ x is (formed_new _ _
    (put_form c.args.i c.args.v c.args.place c.deref_mut.result.now (c.self.invariant _ held)
    (c.requires.value _ (sym c.self.view_is ∙ held)))
    (c.in_ok-put.ensures.ok (search rules)))

pub returns-then-not-branch-clause-form : goal.returns-then-not-branch-clause-form
returns-then-not-branch-clause-form c = λ x is. c.self.invariant x (c.self.view_is ∙ is)

pub returns-else-not-branch-clause-form : goal.returns-else-not-branch-clause-form
returns-else-not-branch-clause-form c = λ x is. c.self.invariant x (c.self.view_is ∙ is)

pub invariant_of-self-in_err-put : goal.invariant_of-self-in_err-put
invariant_of-self-in_err-put c =
    let held = boxed c.in-Some.is c.deref_mut.ensures.value in
    λ x is. same_form _ x is (rw c.in_err-put.ensures.err (c.self.invariant _ held))

pub returns-in_err-put-clause-form : goal.returns-in_err-put-clause-form
returns-in_err-put-clause-form c = λ x is. c.self.invariant x (c.self.view_is ∙ is)
