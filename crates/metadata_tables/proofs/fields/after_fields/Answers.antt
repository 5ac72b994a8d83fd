use Rattle.std.proofs.Common.{arith}
use Rattle.std.proofs.lemmas.Grind.{common_steps}
use Rattle.metadata_tables.proofs.FieldLemmas.{fields-next, fields-stop, fields-done}
use Rattle.metadata_tables.proofs.fields.after_fields.Goals as goal

pub returns-then-end-at-clause-judged : goal.returns-then-end-at-clause-judged
returns-then-end-at-clause-judged c = fields-stop c.args.end _ c.loop-width.at c.args.widths.now c.loop-width.width-index c.from-width.result _ (omega arith) c.from-width.ensures (omega arith) c.loop-width.invariant.2

pub loop-width-preserved : goal.loop-width-preserved
loop-width-preserved c = (grind (arith, common_steps), omega arith, fields-next c.args.end _ c.loop-width.at c.args.widths.now c.loop-width.width-index c.from-width.result _ (omega arith) c.from-width.ensures (omega arith) c.loop-width.invariant.2)

pub returns-clause-judged : goal.returns-clause-judged
returns-clause-judged c = (fields-done c.args.end _ c.loop-width.at c.args.widths.now c.loop-width.width-index _ (omega arith) c.loop-width.invariant.2, tt)
