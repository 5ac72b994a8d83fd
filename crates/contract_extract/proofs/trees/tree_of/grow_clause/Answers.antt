-- A clause begins with no items.
use Rattle.std.proofs.Common.{[]}
use Rattle.contract_extract.proofs.TreeLemmas.StackLemmas.{empty_stands}
use Rattle.contract_extract.specs.Dropping.{dropped_at}
use Rattle.contract_extract.specs.Growth.{forward}
use Rattle.contract_extract.proofs.trees.tree_of.grow_clause.Goals as goal

pub returns : goal.returns
unfolding forward
returns c = c.grow.ensures.tree [] (empty_stands (dropped_at c.args.instrs.now c.deref.result.now c.args.start) c.new-stack.result.items c.new-stack.ensures.items)
