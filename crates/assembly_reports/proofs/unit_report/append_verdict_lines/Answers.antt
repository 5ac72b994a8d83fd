use Rattle.std.proofs.Common.{arith}
use Rattle.std.proofs.lemmas.Grind.{common_steps}
use Rattle.answer_lines.proofs.SingleLines.{lines_more}
use Rattle.assembly_reports.proofs.CountedTexts.{verdict_is_line}
use Rattle.assembly_reports.proofs.unit_report.append_verdict_lines.Goals as goal

pub loop-verdict-preserved : goal.loop-verdict-preserved
loop-verdict-preserved c = record {
  text = grind (arith, common_steps);
  lines = lines_more c.loop-verdict.lines.items _ c.in_ok-verdict_line.field-0 c.loop-verdict.invariant.lines
      (rw c.in_ok-verdict_line.ensures (verdict_is_line c.args.labels.now _ c.requires.callees)) c.in_ok-push.ensures.items;
}
