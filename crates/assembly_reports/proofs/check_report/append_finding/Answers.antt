use Rattle.std.proofs.Common.{arith}
use Rattle.std.proofs.lemmas.Grind.{common_steps}
use Rattle.assembly_reports.specs.CheckText.{verdict_text}
use Rattle.assembly_reports.specs.Findings.{finding_in}
use Rattle.answer_lines.proofs.SingleLines.{lines_more}
use Rattle.assembly_reports.proofs.CountedTexts.{method_is_line}
use Rattle.assembly_reports.proofs.ReportTexts.{none_in_finding}
use Rattle.assembly_reports.proofs.check_report.append_finding.Goals as goal

pub append_verdicts-requires-clause-lines : goal.append_verdicts-requires-clause-lines
append_verdicts-requires-clause-lines c =
    lines_more c.args.lines.now.items _ c.in_ok-method_line.field-0 c.requires.lines
    (rw c.in_ok-method_line.ensures (method_is_line c.args.method.now.token.0 c.args.method.now.name (verdict_text (finding_in c.args.finding.now)) c.requires.name (none_in_finding c.args.finding.now)))
    c.in_ok-push.ensures.items

pub returns-clause-text : goal.returns-clause-text
returns-clause-text c = grind (arith, common_steps)
