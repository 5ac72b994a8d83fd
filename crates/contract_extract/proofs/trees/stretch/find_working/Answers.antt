use Rattle.std.proofs.Common.{sym, subst}
use Rattle.contract_extract.specs.Growth.{forward}
use Rattle.contract_extract.specs.TreeStacks.{IsFromWorking}
use Rattle.contract_extract.proofs.TreeLemmas.Working.{it_works, no_working_tree, nowhere, working_later, working_tree}
use Rattle.contract_extract.proofs.trees.stretch.find_working.Goals as goal

pub returns-in_err-index-clause-tree : goal.returns-in_err-index-clause-tree
returns-in_err-index-clause-tree c = λ stack items stands.
    subst (IsFromWorking (forward c.args.instrs.now c.args.at items) (forward c.args.instrs.now) stack) (sym c.from_residual.ensures)
    (nowhere c.args.instrs.now c.args.at items c.requires.lie c.in_err-index.ensures.stands)

pub returns-in_err-index-2-clause-tree : goal.returns-in_err-index-2-clause-tree
returns-in_err-index-2-clause-tree c = λ stack items stands.
    subst (IsFromWorking (forward c.args.instrs.now c.args.at items) (forward c.args.instrs.now) stack) (sym c.from_residual-in_err-index-2.ensures)
    (no_working_tree c.args.instrs.now c.args.ahead.now c.args.at c.in_ok-index.index c.requires.lie c.requires.ahead c.in_ok-index.ensures.stands items
    c.in_err-index-2.ensures.stands)

pub returns-clause-tree : goal.returns-clause-tree
returns-clause-tree c =
    working_tree c.args.instrs.now c.args.ahead.now c.args.at c.in_ok-index.index c.requires.lie c.requires.ahead c.in_ok-index.ensures.stands
    c.in_ok-index-2.index c.index-instrs-index.result c.in_ok-index-2.ensures.stands c.index-instrs-index.is

pub returns-clause-works : goal.returns-clause-works
returns-clause-works c =
    it_works c.args.instrs.now c.args.ahead.now c.args.at c.in_ok-index.index c.requires.lie c.requires.ahead c.in_ok-index.ensures.stands
    c.in_ok-index-2.index c.index-instrs-index.result c.in_ok-index-2.ensures.stands c.index-instrs-index.is

pub returns-clause-later : goal.returns-clause-later
returns-clause-later c =
    working_later c.args.instrs.now c.args.ahead.now c.args.at c.in_ok-index.index c.requires.lie c.requires.ahead c.in_ok-index.ensures.stands
    c.in_ok-index-2.index c.index-instrs-index.result c.in_ok-index-2.ensures.stands c.index-instrs-index.is
