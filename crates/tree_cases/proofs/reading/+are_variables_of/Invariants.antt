use Rattle.std.proofs.Common.{length}
use Rattle.tree_cases.proofs.reading.+are_variables_of.Given as goal

abbrev pub decreases-are_variables_of : goal.decreases-are_variables_of
decreases-are_variables_of l = length l.places.now
