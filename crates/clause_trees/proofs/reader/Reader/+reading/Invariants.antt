use Rattle.std.proofs.Common.{◌+◌, ◌*◌}
use Rattle.cil_model.specs.Terms.{term_size}
use Rattle.clause_trees.proofs.reader.Reader.+reading.Given as goal

abbrev pub decreases-value : goal.decreases-value
decreases-value l = 4 * term_size l.tree.now

abbrev pub decreases-values : goal.decreases-values
decreases-values l = 4 * (term_size l.a.now + term_size l.b.now) + 1

abbrev pub decreases-branch : goal.decreases-branch
decreases-branch l = 4 * term_size l.tree.now + 1

abbrev pub decreases-chosen : goal.decreases-chosen
decreases-chosen l = 4 * (term_size l.a.now + term_size l.b.now) + 2

abbrev pub decreases-condition : goal.decreases-condition
decreases-condition l = 4 * (term_size l.a.now + term_size l.b.now) + 3
