use Rattle.std.proofs.Common.{length}
use Rattle.clause_faults.proofs.ways.made_values.+lowest_call.Given as goal

abbrev pub decreases-lowest_call : goal.decreases-lowest_call
decreases-lowest_call l = length l.values.now
