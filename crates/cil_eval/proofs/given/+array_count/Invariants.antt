use Rattle.std.proofs.Common.{length}
use Rattle.cil_eval.proofs.given.+array_count.Given as goal

abbrev pub decreases-array_count : goal.decreases-array_count
decreases-array_count l = length l.args.now
