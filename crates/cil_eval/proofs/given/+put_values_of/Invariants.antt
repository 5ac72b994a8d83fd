use Rattle.std.proofs.Common.{length}
use Rattle.cil_eval.proofs.given.+put_values_of.Given as goal

abbrev pub decreases-put_values_of : goal.decreases-put_values_of
decreases-put_values_of l = length l.args.now
