use Rattle.std.proofs.Common.{length}
use Rattle.clause_eval.proofs.arrays.+find.Given as goal

abbrev pub decreases-find : goal.decreases-find
decreases-find l = length l.args.now
