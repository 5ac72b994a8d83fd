use Rattle.std.proofs.Common.{◌≡◌, List, ◌++◌, ap, ap₂, ◌∙◌}
use Rattle.std.specs.List.{flat_map}
use Rattle.answer_lines.specs.Lines.{summary_line, unit_line}
use Rattle.answer_lines.specs.Writing.{joined}
use Rattle.answer_lines.proofs.SingleLines.{lines_more, no_lines, summary_is_line, unit_is_line}
use Rattle.assembly_reports.specs.Labels.{labels_of}
use Rattle.assembly_reports.specs.ReportText.{unit_counts, unit_report, unit_verdicts, verdict_line}
use Rattle.assembly_reports.specs.declared.labels.Labels.{Labels}
use Rattle.invariant_checker.specs.Counts.{all_proved}
use Rattle.invariant_checker.specs.declared.verdict.Verdict.{Verdict}
use Rattle.assembly_reports.proofs.ReportedLines.{three_parts}
use Rattle.assembly_reports.proofs.ReportTexts.{bare_callees}
use Rattle.assembly_reports.proofs.unit_report.unit_lines.Goals as goal

pub append_verdict_lines-requires-clause-callees : goal.append_verdict_lines-requires-clause-callees
unfolding labels_of
append_verdict_lines-requires-clause-callees c = rw c.in_ok-labels.ensures (bare_callees c.args.unit.callees c.requires.formed.callees)

pub append_verdict_lines-requires-clause-lines : goal.append_verdict_lines-requires-clause-lines
append_verdict_lines-requires-clause-lines c =
    lines_more c.new-lines.result.items _ c.in_ok-unit_line.field-0 (no_lines c.new-lines.result.items c.new-lines.ensures.items)
    (rw c.in_ok-unit_line.ensures (unit_is_line c.args.unit c.all_proved-proved.result c.requires.formed.name)) c.in_ok-push.ensures.items

pub returns-clause-lines : goal.returns-clause-lines
returns-clause-lines c =
    lines_more c.append_verdict_lines.new.lines.items _ c.in_ok-summary_line.field-0 c.in_ok-append_verdict_lines.ensures.lines
    (rw c.in_ok-summary_line.ensures (summary_is_line _)) c.in_ok-push-2.ensures.items

pub returns-clause-text : goal.returns-clause-text
unfolding unit_report
returns-clause-text c =
    let unit = c.args.unit in
    let found = c.args.found.now in
    let verdicts = c.requires.verdicts in
    let first : c.in_ok-unit_line.field-0.items ≡ unit_line unit (all_proved (unit_verdicts unit)) =
    c.in_ok-unit_line.ensures ∙ ap (unit_line unit) (c.all_proved-proved.ensures.value ∙ ap all_proved verdicts) in
    let middle : joined c.append_verdict_lines.new.lines.items ≡ joined c.push.new.self.items ++ flat_map (verdict_line (labels_of unit)) (unit_verdicts unit) =
    c.in_ok-append_verdict_lines.ensures.text
    ∙ ap₂ (λ (labels : Labels) (all : List Verdict). joined c.push.new.self.items ++ flat_map (verdict_line labels) all) c.in_ok-labels.ensures verdicts in
    three_parts c.new-lines.result.items c.push.new.self.items c.append_verdict_lines.new.lines.items c.push-2.new.self.items c.in_ok-unit_line.field-0 c.in_ok-summary_line.field-0
    _ _ _ c.new-lines.ensures.items c.in_ok-push.ensures.items first middle c.in_ok-push-2.ensures.items (c.in_ok-summary_line.ensures ∙ ap summary_line (c.unit_counts.ensures.counts ∙ ap unit_counts verdicts))
