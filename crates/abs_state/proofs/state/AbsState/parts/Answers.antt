use Rattle.abs_state.proofs.Boxed.{boxed}
use Rattle.abs_state.proofs.PartForms.{listed_parts}
use Rattle.abs_state.proofs.state.AbsState.parts.Goals as goal

pub returns-in-Some-clause-form : goal.returns-in-Some-clause-form
returns-in-Some-clause-form c =
    let held = boxed c.in-Some.is c.deref.ensures in
    listed_parts c.listed.result c.deref.result.now (c.self.invariant _ held) c.listed.ensures.value
    c.listed.ensures.in_order
