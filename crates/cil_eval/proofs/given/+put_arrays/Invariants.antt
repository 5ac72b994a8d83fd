use Rattle.std.proofs.Common.{length}
use Rattle.cil_eval.proofs.given.+put_arrays.Given as goal

abbrev pub decreases-put_arrays : goal.decreases-put_arrays
decreases-put_arrays l = length l.args.now
