use Rattle.std.proofs.Common.{◌≡◌, ℤ, List, Some, slice_get, take, drop, sym, ap, ◌∙◌}
use Rattle.clause_eval.specs.declared.memory.Array.{Array}
use Rattle.clause_eval.proofs.MemoryLemmas.{within_row, short_items, found_in}
use Rattle.clause_eval.proofs.memory.Memory.array.Goals as goal

pub part-requires : goal.part-requires
part-requires c =
    let found : slice_get c.self.inside.arrays.items c.args.index ≡ Some c.in_ok-array.array =
    ap (λ (xs : List Array). slice_get xs c.args.index) (sym c.deref.ensures.value) ∙ sym c.find.ensures ∙ c.in_ok-array.was in
    let within = within_row _ _ _ _ _ c.args.index c.in_ok-array.array c.self.invariant found in
    rw c.deref-2.ensures.value within

pub returns-clause-array : goal.returns-clause-array
returns-clause-array c =
    let found : slice_get c.self.inside.arrays.items c.args.index ≡ Some c.in_ok-array.array =
    ap (λ (xs : List Array). slice_get xs c.args.index) (sym c.deref.ensures.value) ∙ sym c.find.ensures ∙ c.in_ok-array.was in
    rw (← c.self.view_is)
    (found_in c.self.inside.cells.items c.self.inside.arrays.items c.args.index c.in_ok-array.array found
    ∙ ap (λ (items : List ℤ). Some (record { place = c.in_ok-array.array.place; items = items }))
    (sym (c.part.ensures ∙ ap (λ (cells : List ℤ). take c.in_ok-array.array.len (drop c.in_ok-array.array.start cells)) c.deref-2.ensures.value)))

pub returns-clause-length : goal.returns-clause-length
returns-clause-length c =
    let found : slice_get c.self.inside.arrays.items c.args.index ≡ Some c.in_ok-array.array =
    ap (λ (xs : List Array). slice_get xs c.args.index) (sym c.deref.ensures.value) ∙ sym c.find.ensures ∙ c.in_ok-array.was in
    rw c.part.ensures (short_items _ _ _ _ _ _ c.args.index c.in_ok-array.array c.self.invariant found)
