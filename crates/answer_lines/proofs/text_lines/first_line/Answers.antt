use Rattle.std.proofs.Common.{sym}
use Rattle.answer_lines.proofs.FirstLines.{found_is_line, whole_has_feed}
use Rattle.answer_lines.proofs.text_lines.first_line.Goals as goal

pub returns-in-Some-clause-line : goal.returns-in-Some-clause-line
returns-in-Some-clause-line c = λ whole more. found_is_line c.args.text.now c.in-Some.index (sym c.in-Some.ensures)

pub returns-in-None-clause-line : goal.returns-in-None-clause-line
returns-in-None-clause-line c = λ whole more. absurd (whole_has_feed c.args.text.now whole more (sym c.in-None.ensures))
