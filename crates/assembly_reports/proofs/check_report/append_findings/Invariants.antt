use Rattle.std.proofs.Common.{◌≡◌, ◌++◌}
use Rattle.std.specs.List.{flat_map}
use Rattle.answer_lines.specs.LineCounts.{AreLines}
use Rattle.answer_lines.specs.Writing.{joined}
use Rattle.assembly_reports.specs.Findings.{found_lines}
use Rattle.assembly_reports.proofs.check_report.append_findings.Given as goal

abbrev pub invariant-loop-method : goal.invariant-loop-method
invariant-loop-method l = record {
  text : joined l.lines.items ≡ joined l.initial.lines.items ++ flat_map (λ pair. found_lines (pair.0.now, pair.1.now)) l.yielded;
  lines : AreLines l.lines.items;
}
