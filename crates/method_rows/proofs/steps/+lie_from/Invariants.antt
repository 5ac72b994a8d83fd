use Rattle.std.proofs.Common.{length}
use Rattle.method_rows.proofs.steps.+lie_from.Given as goal

abbrev pub decreases-lie_from : goal.decreases-lie_from
decreases-lie_from l = length l.instrs.now
