use Rattle.std.proofs.Common.{◌+◌, ◌*◌}
use Rattle.cil_model.specs.Terms.{term_size}
use Rattle.clause_trees.proofs.clauses.Clauses.+assuming.Given as goal

abbrev pub decreases-assumed : goal.decreases-assumed
decreases-assumed l = 2 * term_size l.tree.now

abbrev pub decreases-assumed_condition : goal.decreases-assumed_condition
decreases-assumed_condition l = 2 * (term_size l.a.now + term_size l.b.now) + 1
