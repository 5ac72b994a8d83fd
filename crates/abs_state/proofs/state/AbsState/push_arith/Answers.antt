use Rattle.std.proofs.Common.{rules, sym, ◌∙◌}
use Rattle.state_facts.proofs.Growing.{same_form, formed_new}
use Rattle.state_facts.proofs.ResultForms.{is_there, with_result_form}
use Rattle.abs_state.proofs.Boxed.{boxed}
use Rattle.abs_state.proofs.state.AbsState.push_arith.Goals as goal

pub invariant_of-self-else-not-branch : goal.invariant_of-self-else-not-branch
invariant_of-self-else-not-branch c =
    let held = boxed c.in-Some.is c.deref_mut.ensures.value in
    λ x is. same_form _ x is (formed_new _ _
    (with_result_form c.args.op c.args.a c.args.b c.deref_mut.result.now (c.self.invariant _ held)
    (c.requires.first _ (sym c.self.view_is ∙ held)) (c.requires.second _ (sym c.self.view_is ∙ held)))
    (c.in_ok-arith.ensures.ok (search rules)))

pub returns-then-not-branch-clause-form : goal.returns-then-not-branch-clause-form
returns-then-not-branch-clause-form c = λ x is. c.self.invariant x (c.self.view_is ∙ is)

pub returns-else-not-branch-clause-form : goal.returns-else-not-branch-clause-form
returns-else-not-branch-clause-form c = λ x is. c.self.invariant x (c.self.view_is ∙ is)

pub arith-requires-clause-first : goal.arith-requires-clause-first
arith-requires-clause-first c =
    let held = boxed c.in-Some.is c.deref_mut.ensures.value in
    is_there c.deref_mut.result.now c.args.a (c.requires.first _ (sym c.self.view_is ∙ held))

pub arith-requires-clause-second : goal.arith-requires-clause-second
arith-requires-clause-second c =
    let held = boxed c.in-Some.is c.deref_mut.ensures.value in
    is_there c.deref_mut.result.now c.args.b (c.requires.second _ (sym c.self.view_is ∙ held))

pub invariant_of-self-in_err-arith : goal.invariant_of-self-in_err-arith
invariant_of-self-in_err-arith c =
    let held = boxed c.in-Some.is c.deref_mut.ensures.value in
    λ x is. same_form _ x is (rw c.in_err-arith.ensures.err (c.self.invariant _ held))

pub returns-in_err-arith-clause-form : goal.returns-in_err-arith-clause-form
returns-in_err-arith-clause-form c = λ x is. c.self.invariant x (c.self.view_is ∙ is)
