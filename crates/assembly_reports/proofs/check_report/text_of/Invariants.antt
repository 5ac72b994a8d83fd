use Rattle.std.proofs.Common.{◌≡◌, take}
use Rattle.answer_lines.specs.Writing.{joined}
use Rattle.assembly_reports.proofs.check_report.text_of.Given as goal

abbrev pub invariant-loop-line : goal.invariant-loop-line
invariant-loop-line l = l.text.items ≡ joined (take l.line-index l.lines)
