use Rattle.std.proofs.Common.{sym, ◌∙◌, subst}
use Rattle.std.specs.Prelude.{Some}
use Rattle.std.proofs.lemmas.Result.{IfOk-weaker}
use Rattle.state_facts.specs.Holds.{HoldsAt}
use Rattle.merged_states.specs.Laws.StatesHold.{at_point}
use Rattle.abs_state.proofs.Boxed.{boxed}
use Rattle.abs_state.proofs.state.AbsState.norm.Goals as goal

pub named-requires : goal.named-requires
named-requires c = c.self.invariant _ (boxed c.in-Some.is c.deref.ensures)

pub returns-in_ok-normal-in-Some-clause-keeps : goal.returns-in_ok-normal-in-Some-clause-keeps
returns-in_ok-normal-in-Some-clause-keeps c =
    let held = boxed c.in-Some.is c.deref.ensures in
    IfOk-weaker c.of_known.result _ _
    (λ normal is p at. subst (λ s. HoldsAt s p) (sym is)
    (at_point (Some c.deref.result.now) c.in_ok-normal-in-Some.normal p c.in_ok-normal-in-Some.ensures.keeps
    (subst (λ s. HoldsAt s p) (sym c.self.view_is ∙ held) at)))
    c.of_known.ensures
