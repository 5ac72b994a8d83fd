use Rattle.std.proofs.Common.{◌∙◌, arith}
use Rattle.asm_writer.proofs.BodyLemmas.{bodies_more, row_more}
use Rattle.asm_writer.proofs.bodies.bodies.Goals as goal

pub loop-method-preserved : goal.loop-method-preserved
loop-method-preserved c = record {
  whole = c.in_ok-push_body.ensures ∙ bodies_more _ _ _ _ _ c.loop-method-test.true c.method-item.is c.loop-method.invariant.row c.loop-method.invariant.whole;
  row = row_more _ _ _ _ _ c.loop-method-test.true c.method-item.is c.locals_rows-row.ensures.is c.loop-method.invariant.row;
  few = omega arith;
}
