use Rattle.std.proofs.Common.{rules, sym, ◌∙◌}
use Rattle.state_facts.proofs.Growing.{same_form, formed_new}
use Rattle.state_facts.proofs.AssumptionForms.{assumed_form, named_var}
use Rattle.abs_state.proofs.Boxed.{boxed}
use Rattle.abs_state.proofs.state.AbsState.assume_comparison.Goals as goal

pub invariant_of-self-else-not-branch : goal.invariant_of-self-else-not-branch
invariant_of-self-else-not-branch c =
    let held = boxed c.in-Some.is c.deref_mut.ensures.value in
    λ x is. same_form _ x is (formed_new _ _
    (assumed_form c.args.op c.args.a c.args.b c.args.holds c.deref_mut.result.now (c.self.invariant _ held)
    (named_var c.deref_mut.result.now c.args.a (c.requires.first _ (sym c.self.view_is ∙ held)))
    (named_var c.deref_mut.result.now c.args.b (c.requires.second _ (sym c.self.view_is ∙ held))))
    (c.in_ok-assume.ensures.ok (search rules)))

pub returns-then-not-branch-clause-form : goal.returns-then-not-branch-clause-form
returns-then-not-branch-clause-form c = λ x is. c.self.invariant x (c.self.view_is ∙ is)

pub returns-else-not-branch-clause-form : goal.returns-else-not-branch-clause-form
returns-else-not-branch-clause-form c = λ x is. c.self.invariant x (c.self.view_is ∙ is)

pub assume-requires-clause-form : goal.assume-requires-clause-form
assume-requires-clause-form c = c.self.invariant _ (boxed c.in-Some.is c.deref_mut.ensures.value)

pub invariant_of-self-in_err-assume : goal.invariant_of-self-in_err-assume
invariant_of-self-in_err-assume c =
    let held = boxed c.in-Some.is c.deref_mut.ensures.value in
    λ x is. same_form _ x is (rw c.in_err-assume.ensures.err (c.self.invariant _ held))

pub returns-in_err-assume-clause-form : goal.returns-in_err-assume-clause-form
returns-in_err-assume-clause-form c = λ x is. c.self.invariant x (c.self.view_is ∙ is)
