-- The tree of the slot is the one that the call finds.
use Rattle.std.proofs.Common.{◌-◌, arith}
use Rattle.contract_extract.proofs.TreeLemmas.StackLemmas.{leaf_grown}
use Rattle.contract_extract.proofs.trees.tree_of.leaf.Goals as goal

pub returns-clause-tree : goal.returns-clause-tree
returns-clause-tree c = λ items stands. leaf_grown c.args.limits c.args.stack.items items c.in_ok-closed.closed
    (c.args.limits.nodes - c.in_ok-closed.closed.nodes) stands c.in_ok-closed.ensures (omega (arith, c.if-limits-nodes.false))
