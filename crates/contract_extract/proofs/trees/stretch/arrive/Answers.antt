use Rattle.std.proofs.Common.{List, OnOk, sym, subst}
use Rattle.cil_model.specs.ClauseTrees.{Item}
use Rattle.contract_extract.specs.Dropping.{IsWithin, behind, without}
use Rattle.contract_extract.specs.TreeStacks.{StandsFor}
use Rattle.contract_extract.specs.declared.trees.dropped.Dropped.{Dropped}
use Rattle.contract_extract.proofs.TreeLemmas.StackLemmas.{drops_stand}
use Rattle.contract_extract.proofs.trees.stretch.arrive.Goals as goal

pub returns : goal.returns
returns c =
    let less = behind c.args.from.now.instr.now.op c.args.from.now.dropped in
    let before = c.args.stack.now.items in
    let after = c.drop_values.new.stack.items in
    let come = c.dropped_at-dropped.result in
    subst (λ (d : Dropped). (items : List Item) → StandsFor before (without less items) → OnOk c.drop_values.result (StandsFor after (without d items)))
    c.dropped_at-dropped.ensures
    (drops_stand c.drop_values.result less come before after (subst (IsWithin less) (sym c.dropped_at-dropped.ensures) c.requires.within) c.drop_values.ensures)
