use Rattle.std.proofs.Common.{◌≡◌, List, Some, slice_get, sym, ap, ◌∙◌, arith, to_z-of_z}
use Rattle.clause_eval.specs.declared.memory.Array.{Array}
use Rattle.clause_eval.proofs.MemoryLemmas.{within_row, replaced_laid, replaced_past}
use Rattle.clause_eval.proofs.memory.Memory.replace.Goals as goal

pub index_mut-requires : goal.index_mut-requires
index_mut-requires c =
    let found : slice_get c.self.inside.arrays.items c.args.index ≡ Some c.in-Some.array =
    ap (λ (xs : List Array). slice_get xs c.args.index) (sym c.deref.ensures.value) ∙ sym c.find.ensures ∙ c.in-Some.is in
    let within = within_row _ _ _ _ _ c.args.index c.in-Some.array c.self.invariant found in
    omega (arith, within, c.self.inside.cells.ok.0, c.if-n-array.true)

pub returns-then-n-array-clause-heap : goal.returns-then-n-array-clause-heap
returns-then-n-array-clause-heap c =
    let found : slice_get c.self.inside.arrays.items c.args.index ≡ Some c.in-Some.array =
    ap (λ (xs : List Array). slice_get xs c.args.index) (sym c.deref.ensures.value) ∙ sym c.find.ensures ∙ c.in-Some.is in
    rw (to_z-of_z c.ranges.item, ← c.self.view_is)
    (replaced_laid c.self.inside.cells.items c.self.inside.arrays.items _ c.args.index c.in-Some.array c.args.n c.args.item c.self.invariant.lie found c.if-n-array.true)

pub returns-else-n-array-clause-heap : goal.returns-else-n-array-clause-heap
returns-else-n-array-clause-heap c =
    let found : slice_get c.self.inside.arrays.items c.args.index ≡ Some c.in-Some.array =
    ap (λ (xs : List Array). slice_get xs c.args.index) (sym c.deref.ensures.value) ∙ sym c.find.ensures ∙ c.in-Some.is in
    rw (← c.self.view_is)
    (replaced_past c.self.inside.cells.items c.self.inside.arrays.items c.args.index c.in-Some.array c.args.n c.args.item found c.if-n-array.false
    (within_row _ _ _ _ _ c.args.index c.in-Some.array c.self.invariant found))
