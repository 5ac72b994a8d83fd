use Rattle.std.proofs.Common.{◌∙◌}
use Rattle.unit_verdicts.proofs.UnitShapes.{shaped_text, unshaped_text}
use Rattle.unit_verdicts.proofs.unit_verdicts.states_text.Goals as goal

pub returns-then-not-has_shape : goal.returns-then-not-has_shape
returns-then-not-has_shape c =
    let exact = rw c.deref.ensures.value at c.has_shape.ensures.exact in
    c.new.ensures.items
    ∙ unshaped_text c.args.code.now c.args.invariant.now.states.items c.has_shape.result exact c.if-not-has_shape.true

pub returns : goal.returns
returns c =
    let exact = rw c.deref.ensures.value at c.has_shape.ensures.exact in
    let text = shaped_text c.args.code.now c.args.invariant.now.states.items c.has_shape.result exact c.if-not-has_shape.false in
    let value = rw (c.as_slice-blocks.ensures, c.deref-2.ensures.value) at c.invariant_text.ensures.value in
    rw (← text) value
