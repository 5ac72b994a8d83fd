use Rattle.std.proofs.Common.{sym, ap, is_some, ◌∙◌}
use Rattle.state_facts.proofs.Growing.{same_form}
use Rattle.abs_state.proofs.PartForms.{formed, made_exactly, refused}
use Rattle.abs_state.specs.StateParts.{StateParts}
use Rattle.abs_state.proofs.state.AbsState.of_parts.Goals as goal

pub returns-then-not-has_form-clause-exact : goal.returns-then-not-has_form-clause-exact
returns-then-not-has_form-clause-exact c = refused c.args.parts.now (ap (λ (p : StateParts). p.reached) (sym c.parts.view_is) ∙ c.if-not-parts.false) (sym c.in_ok-has_form.ensures ∙ c.if-not-has_form.true)

pub of_known-requires : goal.of_known-requires
of_known-requires c = λ x is. same_form _ x is
    (formed c.args.parts.now c.in-Some.known (rw c.in-Some.is at c.in_ok-known.ensures.value) (sym c.in_ok-has_form.ensures ∙ c.if-not-has_form.false))

pub returns-clause-exact : goal.returns-clause-exact
returns-clause-exact c =
    made_exactly c.args.parts.now (ap (λ (p : StateParts). p.reached) (sym c.parts.view_is) ∙ c.if-not-parts.false) (sym c.in_ok-has_form.ensures ∙ c.if-not-has_form.false)
    (c.in_ok-known.ensures.some.0 (ap is_some c.in-Some.is))
