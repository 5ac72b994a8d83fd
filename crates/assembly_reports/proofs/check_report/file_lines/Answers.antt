use Rattle.std.proofs.Common.{[], ◌∷◌, ◌++◌, ap, ◌∙◌}
use Rattle.assembly_reports.proofs.CountedTexts.{assembly_is_line}
use Rattle.answer_lines.proofs.SingleLines.{lines_more, no_lines, summary_is_line}
use Rattle.assembly_reports.proofs.ReportedLines.{report_of}
use Rattle.assembly_reports.proofs.check_report.file_lines.Goals as goal

pub returns-clause-text : goal.returns-clause-text
returns-clause-text c = λ of manner value shown.
    report_of c.args.name.now of manner c.args.found.now _ _ _ _ _ c.args.methods.now c.count.result (c.in_ok-push.ensures.items ∙ ap (λ lines. lines ++ c.in_ok-assembly_line.field-0 ∷ []) c.new-lines.ensures.items) c.in_ok-append_findings.ensures.text c.in_ok-push-2.ensures.items
    c.in_ok-assembly_line.ensures c.in_ok-summary_line.ensures c.count.ensures.value value shown

-- ---- each is one line

pub append_findings-requires-clause-lines : goal.append_findings-requires-clause-lines
append_findings-requires-clause-lines c =
    lines_more c.new-lines.result.items _ c.in_ok-assembly_line.field-0 (no_lines c.new-lines.result.items c.new-lines.ensures.items)
    (rw c.in_ok-assembly_line.ensures (assembly_is_line c.args.name.now)) c.in_ok-push.ensures.items

pub returns-clause-lines : goal.returns-clause-lines
returns-clause-lines c =
    lines_more c.append_findings.new.lines.items _ c.in_ok-summary_line.field-0 c.in_ok-append_findings.ensures.lines
    (rw c.in_ok-summary_line.ensures (summary_is_line _)) c.in_ok-push-2.ensures.items
