use Rattle.std.proofs.Common.{◌≡◌, IfOk, subst}
use Rattle.witness_search.proofs.FoundLemmas.{searched_of}
use Rattle.witness_search.proofs.method_search.search_method.Goals as goal

pub returns : goal.returns
returns c =
    subst (λ whole. IfOk c.first_fault.result (λ found. found ≡ whole))
    (searched_of c.args.world.now c.in_ok-machine.machine.world c.args.unit c.args.runs c.as_slice.result.now c.index-as_slice-unit.result c.as_slice-2.result.now
    c.in_ok-lists.lists c.in_ok-machine.ensures.world c.as_slice.ensures c.requires.unit c.index-as_slice-unit.is c.as_slice-2.ensures c.in_ok-lists.ensures)
    c.first_fault.ensures
