use Rattle.std.proofs.Common.{rules, sym, ◌∙◌}
use Rattle.state_facts.proofs.Growing.{same_form, formed_new}
use Rattle.state_facts.proofs.MoveForms.{stored_form}
use Rattle.abs_state.proofs.Boxed.{boxed}
use Rattle.abs_state.proofs.state.AbsState.store_item.Goals as goal

pub invariant_of-self-else-not-branch : goal.invariant_of-self-else-not-branch
invariant_of-self-else-not-branch c =
    let held = boxed c.in-Some.is c.deref_mut.ensures.value in
    λ x is. same_form _ x is (formed_new _ _
    (stored_form c.args.r c.args.at c.args.value c.deref_mut.result.now (c.self.invariant _ held)
    (c.requires.index _ (sym c.self.view_is ∙ held)) (c.requires.value _ (sym c.self.view_is ∙ held)))
    (c.in_ok-store.ensures.ok (search rules)))

pub returns-then-not-branch-clause-form : goal.returns-then-not-branch-clause-form
returns-then-not-branch-clause-form c = λ x is. c.self.invariant x (c.self.view_is ∙ is)

pub returns-else-not-branch-clause-form : goal.returns-else-not-branch-clause-form
returns-else-not-branch-clause-form c = λ x is. c.self.invariant x (c.self.view_is ∙ is)

pub store-requires-clause-form : goal.store-requires-clause-form
store-requires-clause-form c = c.self.invariant _ (boxed c.in-Some.is c.deref_mut.ensures.value)

pub store-requires-clause-index : goal.store-requires-clause-index
store-requires-clause-index c = c.requires.index _ (sym c.self.view_is ∙ boxed c.in-Some.is c.deref_mut.ensures.value)

pub store-requires-clause-value : goal.store-requires-clause-value
store-requires-clause-value c = c.requires.value _ (sym c.self.view_is ∙ boxed c.in-Some.is c.deref_mut.ensures.value)

pub invariant_of-self-in_err-store : goal.invariant_of-self-in_err-store
invariant_of-self-in_err-store c =
    let held = boxed c.in-Some.is c.deref_mut.ensures.value in
    λ x is. same_form _ x is (rw c.in_err-store.ensures.err (c.self.invariant _ held))

pub returns-in_err-store-clause-form : goal.returns-in_err-store-clause-form
returns-in_err-store-clause-form c = λ x is. c.self.invariant x (c.self.view_is ∙ is)
