use Rattle.std.proofs.Common.{length}
use Rattle.cil_eval.proofs.arguments.+put_locals.Given as goal

abbrev pub decreases-put_locals : goal.decreases-put_locals
decreases-put_locals l = length l.places.now
