use Rattle.std.proofs.Common.{rules, sym, ◌∙◌}
use Rattle.state_facts.proofs.Growing.{same_form, formed_new}
use Rattle.state_facts.proofs.ComparisonForms.{compared_formed}
use Rattle.abs_state.proofs.Boxed.{boxed}
use Rattle.abs_state.proofs.state.AbsState.push_comparison.Goals as goal

pub invariant_of-self-else-not-branch : goal.invariant_of-self-else-not-branch
invariant_of-self-else-not-branch c =
    let held = boxed c.in-Some.is c.deref_mut.ensures.value in
    λ x is. same_form _ x is (formed_new _ _
    (compared_formed c.args.op c.args.a c.args.b c.deref_mut.result.now c.requires.comparison (c.self.invariant _ held)
    (c.requires.first _ (sym c.self.view_is ∙ held)) (c.requires.second _ (sym c.self.view_is ∙ held)))
    (c.in_ok-compare.ensures.ok (search rules)))

pub returns-then-not-branch-clause-form : goal.returns-then-not-branch-clause-form
returns-then-not-branch-clause-form c = λ x is. c.self.invariant x (c.self.view_is ∙ is)

pub returns-else-not-branch-clause-form : goal.returns-else-not-branch-clause-form
returns-else-not-branch-clause-form c = λ x is. c.self.invariant x (c.self.view_is ∙ is)

pub invariant_of-self-in_err-compare : goal.invariant_of-self-in_err-compare
invariant_of-self-in_err-compare c =
    let held = boxed c.in-Some.is c.deref_mut.ensures.value in
    λ x is. same_form _ x is (rw c.in_err-compare.ensures.err (c.self.invariant _ held))

pub returns-in_err-compare-clause-form : goal.returns-in_err-compare-clause-form
returns-in_err-compare-clause-form c = λ x is. c.self.invariant x (c.self.view_is ∙ is)
