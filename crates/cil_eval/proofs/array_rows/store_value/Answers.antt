use Rattle.std.proofs.Common.{rules, ◌≡◌, ◌∷◌, slice_get, unsigned_abs}
use Rattle.cil_model.specs.declared.machine.Value.TheVariants as values
use Rattle.cil_eval.specs.ArrayRows.{bounded, stored_heap}
use Rattle.cil_eval.proofs.ArrayLemmas.{stores_by}
use Rattle.cil_eval.proofs.array_rows.store_value.Goals as goal

pub returns-in-Array-clause-does : goal.returns-in-Array-clause-does
returns-in-Array-clause-does c =
    let is : c.args.stack.now.top ≡ values.Int c.in-Some-Int-Some.n ∷ values.Array c.in-Array.index ∷ c.pop-2.new.self.top = search rules in
    let action : c.store_item.result ≡ bounded c.args.place c.in-Some-Int-Some.n (slice_get c.args.memory.now.heap c.in-Array.index) = search rules in
    let heap : c.store_item.new.memory.heap ≡ stored_heap c.store_item.result c.args.place c.args.memory.now.heap c.in-Array.index (unsigned_abs c.in-Some-Int-Some.n) c.in-Int.item = search rules in
    λ cells. stores_by cells c.args.place c.in-Some-Int-Some.n c.in-Int.item c.in-Array.index c.store_item.result c.args.value c.args.stack.now.top c.pop-2.new.self.top
    c.args.memory.now.heap c.store_item.new.memory.heap c.in-Int.is is action heap
