use Rattle.std.proofs.Common.{length}
use Rattle.cil_eval.proofs.given.+has_place.Given as goal

abbrev pub decreases-has_place : goal.decreases-has_place
decreases-has_place l = length l.types.now
