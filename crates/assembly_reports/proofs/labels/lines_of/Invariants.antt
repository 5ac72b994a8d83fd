use Rattle.std.proofs.Common.{◌≡◌, ◌+◌, ◌++◌, drop, length}
use Rattle.assembly_reports.specs.Labels.{inferred_lines}
use Rattle.assembly_reports.proofs.labels.lines_of.Given as goal

abbrev pub invariant-loop-i : goal.invariant-loop-i
invariant-loop-i l = record {
  end : l.i-end ≡ length l.clauses;
  lines : l.lines.items ++ inferred_lines (l.first + l.i) (drop l.i l.clauses) ≡ inferred_lines l.first l.clauses;
}
