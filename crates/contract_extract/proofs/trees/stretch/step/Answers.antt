use Rattle.std.proofs.Common.{sym, subst}
use Rattle.contract_extract.proofs.TreeLemmas.StackLemmas.{jumps_on, passes_on}
use Rattle.contract_extract.specs.Dropping.{behind}
use Rattle.contract_extract.specs.Growth.{forward, tree_here}
use Rattle.contract_extract.specs.TreeStacks.{IsFromNext}
use Rattle.contract_extract.proofs.trees.stretch.step.Goals as goal

pub returns-in-Some-clause-tree : goal.returns-in-Some-clause-tree
returns-in-Some-clause-tree c = λ is items dropped spares stands.
    let i = c.args.instr.now in
    subst (IsFromNext (tree_here (forward is) i items) (forward is) (behind i.op dropped) c.args.stack.now.items) (sym c.later_than.ensures)
    (jumps_on (forward is) i c.in-Some.target c.args.stack.now.items items dropped stands c.requires.straight (sym c.in-Some.ensures))

-- Another instruction than a branch goes on with the items that it leaves.
pub returns-clause-tree : goal.returns-clause-tree
returns-clause-tree c = λ is items dropped spares stands.
    passes_on (forward is) c.args.instr.now c.args.stack.now.items c.apply.new.stack.items items dropped c.in_ok-apply.field-0 c.later_than-2.result
    stands spares c.requires.straight (search) c.in_ok-apply.ensures c.if-not-branch.false c.later_than-2.ensures
