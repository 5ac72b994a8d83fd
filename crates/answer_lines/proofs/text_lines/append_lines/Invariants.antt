use Rattle.std.proofs.Common.{◌≡◌, ◌++◌, length}
use Rattle.answer_lines.specs.LineCounts.{AreLines, EndsLine}
use Rattle.answer_lines.specs.Writing.{joined}
use Rattle.answer_lines.proofs.text_lines.append_lines.Given as goal

abbrev pub invariant-loop-rest : goal.invariant-loop-rest
invariant-loop-rest l = record {
  text : joined l.lines.items ++ l.rest ≡ joined l.initial.lines.items ++ l.text;
  whole : EndsLine l.rest;
  lines : AreLines l.lines.items;
}

abbrev pub decreases-loop-rest : goal.decreases-loop-rest
decreases-loop-rest l = length l.rest
