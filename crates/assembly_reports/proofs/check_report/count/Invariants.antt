use Rattle.std.proofs.Common.{◌≡◌, ◌+◌, ◌*◌, map, take}
use Rattle.assembly_reports.specs.CheckText.{found_counts}
use Rattle.answer_lines.specs.Counting.{AreBelow}
use Rattle.assembly_reports.specs.Findings.{finding_in}
use Rattle.assembly_reports.proofs.check_report.count.Given as goal

abbrev pub invariant-loop-finding : goal.invariant-loop-finding
invariant-loop-finding l = record {
  so_far : l.counts ≡ found_counts (map finding_in (take l.finding-index l.found));
  below : AreBelow (65537 * l.finding-index + 1) l.counts;
}
