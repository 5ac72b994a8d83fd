use Rattle.std.proofs.Common.{rules, ◌∙◌}
use Rattle.state_facts.proofs.Growing.{same_form, formed_new}
use Rattle.state_facts.proofs.UnknownAddresses.{unknown_address_form}
use Rattle.abs_state.proofs.Boxed.{boxed}
use Rattle.abs_state.proofs.state.AbsState.push_item_address.Goals as goal

pub invariant_of-self-else-not-branch : goal.invariant_of-self-else-not-branch
invariant_of-self-else-not-branch c =
    let held = boxed c.in-Some.is c.deref_mut.ensures.value in
    λ x is. same_form _ x is (formed_new _ _
    (unknown_address_form c.args.place c.deref_mut.result.now (c.self.invariant _ held) c.requires)
    (c.in_ok-push_unknown_address.ensures.ok (search rules)))

pub returns-then-not-branch-clause-form : goal.returns-then-not-branch-clause-form
returns-then-not-branch-clause-form c = λ x is. c.self.invariant x (c.self.view_is ∙ is)

pub returns-else-not-branch-clause-form : goal.returns-else-not-branch-clause-form
returns-else-not-branch-clause-form c = λ x is. c.self.invariant x (c.self.view_is ∙ is)

pub invariant_of-self-in_err-push_unknown_address : goal.invariant_of-self-in_err-push_unknown_address
invariant_of-self-in_err-push_unknown_address c =
    let held = boxed c.in-Some.is c.deref_mut.ensures.value in
    λ x is. same_form _ x is (rw c.in_err-push_unknown_address.ensures.err (c.self.invariant _ held))

pub returns-in_err-push_unknown_address-clause-form : goal.returns-in_err-push_unknown_address-clause-form
returns-in_err-push_unknown_address-clause-form c =
    λ x is. c.self.invariant x (c.self.view_is ∙ is)
