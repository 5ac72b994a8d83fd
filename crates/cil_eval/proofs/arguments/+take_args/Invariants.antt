use Rattle.std.proofs.Common.{length}
use Rattle.cil_eval.proofs.arguments.+take_args.Given as goal

abbrev pub decreases-take_args : goal.decreases-take_args
decreases-take_args l = length l.places.now
