use Rattle.std.proofs.Common.{length}
use Rattle.cil_eval.proofs.int_args.+read_args.Given as goal

abbrev pub decreases-read_args : goal.decreases-read_args
decreases-read_args l = length l.args.now
