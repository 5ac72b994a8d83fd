use Rattle.std.proofs.Common.{◌≡◌, ◌++◌, take}
use Rattle.std.specs.List.{flat_map}
use Rattle.answer_lines.specs.LineCounts.{AreLines}
use Rattle.answer_lines.specs.Writing.{joined}
use Rattle.assembly_reports.specs.ReportText.{verdict_line}
use Rattle.assembly_reports.proofs.unit_report.append_verdict_lines.Given as goal

abbrev pub invariant-loop-verdict : goal.invariant-loop-verdict
invariant-loop-verdict l = record {
  text : joined l.lines.items ≡ joined l.initial.lines.items ++ flat_map (verdict_line l.labels) (take l.verdict-index l.found);
  lines : AreLines l.lines.items;
}
