use Rattle.std.proofs.Common.{◌∙◌}
use Rattle.asm_writer.proofs.RowLemmas.{externs_none, externs_more}
use Rattle.asm_writer.proofs.tables.append_rows_of_externs.Goals as goal

pub loop-index-init : goal.loop-index-init
loop-index-init c = externs_none _ _ _

pub loop-index-preserved : goal.loop-index-preserved
loop-index-preserved c = c.in_ok-append_rows_of_extern.ensures ∙ externs_more _ _ _ _ _ c.loop-index.invariant
