use Rattle.clause_trees.proofs.StackLemmas.{top_still_there}
use Rattle.clause_trees.proofs.stack.take.Goals as goal

pub returns-clause-there : goal.returns-clause-there
returns-clause-there c = top_still_there c.args.state.now c.pop.new.self c.from_top-top.result c.in_ok-pop.ensures.ok c.from_top-top.ensures.form
