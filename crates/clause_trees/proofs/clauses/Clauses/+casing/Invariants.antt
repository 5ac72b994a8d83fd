use Rattle.std.proofs.Common.{◌+◌, ◌*◌}
use Rattle.cil_model.specs.Terms.{term_size}
use Rattle.clause_trees.proofs.clauses.Clauses.+casing.Given as goal

abbrev pub decreases-cases : goal.decreases-cases
decreases-cases l = 2 * term_size l.tree.now

abbrev pub decreases-cases_of_condition : goal.decreases-cases_of_condition
decreases-cases_of_condition l = 2 * (term_size l.test.now + term_size l.a.now + term_size l.b.now) + 1
