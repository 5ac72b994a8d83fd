use Rattle.tree_cases.proofs.Types.{null_of}
use Rattle.tree_cases.proofs.reading.is_array_of.Goals as goal

pub returns-then-r-eq0 : goal.returns-then-r-eq0
returns-then-r-eq0 c = null_of c.args.state.now c.args.r c.args.place
