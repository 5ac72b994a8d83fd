use Rattle.proof_files.proofs.UnitLines.{line_none, line_there}
use Rattle.proof_files.proofs.unit_lines.cut_line.Goals as goal

pub returns-in-Some : goal.returns-in-Some
returns-in-Some c = line_there c.args.text.now c.in-Some.end c.in-Some.ensures

pub returns-in-None : goal.returns-in-None
returns-in-None c = line_none c.args.text.now c.in-None.ensures
