use Rattle.std.proofs.Common.{◌+◌, ◌*◌}
use Rattle.cil_model.specs.Terms.{term_size}
use Rattle.clause_trees.proofs.clauses.Clauses.+showing.Given as goal

abbrev pub decreases-is_shown : goal.decreases-is_shown
decreases-is_shown l = 2 * term_size l.tree.now

abbrev pub decreases-is_condition_shown : goal.decreases-is_condition_shown
decreases-is_condition_shown l = 2 * (term_size l.a.now + term_size l.b.now) + 1
