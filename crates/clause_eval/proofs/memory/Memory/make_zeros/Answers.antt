use Rattle.std.proofs.Common.{◌≡◌, ◌+◌, ◌-◌, ◌++◌, ◌∷◌, [], true, pos, replicate, length, sym, ap, ◌∙◌, arith}
use Rattle.std.proofs.lemmas.List.{length-replicate}
use Rattle.cil_model.specs.Effects.{zeros}
use Rattle.clause_eval.specs.Rows.{heap_in}
use Rattle.clause_eval.specs.Stores.{has_room}
use Rattle.clause_eval.proofs.MemoryLemmas.{Appended, no_room, some_room, stays, heap_with_one, laid_with_one}
use Rattle.clause_eval.proofs.memory.Memory.make_zeros.Goals as goal

pub returns-then-self-end-clause-room : goal.returns-then-self-end-clause-room
returns-then-self-end-clause-room c =
    let cells = c.self.inside.cells in
    let arrays = c.self.inside.arrays in
    rw (← c.self.view_is)
    (sym (no_room c.self.inside.limit cells.items arrays.items (zeros c.args.place c.args.len) c.self.invariant.lie
    (omega (arith, cells.ok.0, arrays.ok.0, length-replicate c.args.len (pos 0), c.len-start.ensures, c.len.ensures, c.if-self-end.true))))

pub returns-then-self-end-clause-new : goal.returns-then-self-end-clause-new
returns-then-self-end-clause-new c = stays c.args.self.now (zeros c.args.place c.args.len) (sym (returns-then-self-end-clause-room c))

appended : (c : goal.After-append) → Appended c.self.inside.cells.items (zeros c.args.place c.args.len).items c.self.inside.arrays.items c.args.place c.args.len
    c.fill.new.row.items c.append.new.row.items
appended c =
    let more : c.len-start.result + c.args.len - c.self.inside.cells.len ≡ c.args.len = omega (arith, c.len-start.ensures) in
    let start : c.len-start.result ≡ length c.self.inside.cells.items = omega (arith, c.len-start.ensures, c.self.inside.cells.ok.0) in
    record {
      cells_are = c.fill.ensures.items ∙ ap (λ n. c.self.inside.cells.items ++ replicate n (pos 0)) more;
      arrays_are = c.append.ensures.items ∙ ap (λ n. c.self.inside.arrays.items ++ record { place = c.args.place; start = n; len = c.args.len } ∷ []) start;
      long = sym (length-replicate c.args.len (pos 0));
    }

pub invariant_of-self : goal.invariant_of-self
invariant_of-self c =
    laid_with_one _ _ _ _ _ _ _ _ _ _ _ _ c.self.invariant (appended c) c.requires
    (omega (arith, c.self.inside.cells.ok.0, c.self.inside.arrays.ok.0, c.len-start.ensures, c.len.ensures, c.if-self-end.false))
    c.fill.ensures.capacity c.append.ensures.capacity

room : (c : goal.After-append) → has_room (record { heap = heap_in c.self.inside.cells.items c.self.inside.arrays.items; limit = c.self.inside.limit }) (zeros c.args.place c.args.len) ≡ true
room c =
    let cells = c.self.inside.cells in
    let arrays = c.self.inside.arrays in
    some_room c.self.inside.limit cells.items arrays.items (zeros c.args.place c.args.len) c.self.invariant.lie
    (omega (arith, cells.ok.0, arrays.ok.0, length-replicate c.args.len (pos 0), c.len-start.ensures, c.len.ensures, c.if-self-end.false))

pub returns-clause-room : goal.returns-clause-room
returns-clause-room c = rw (← c.self.view_is) (sym (room c))

pub returns-clause-new : goal.returns-clause-new
returns-clause-new c =
    rw (← c.self.view_is)
    (heap_with_one c.self.inside.limit c.self.inside.cells.items _ c.self.inside.arrays.items c.args.place c.args.len _ _ c.self.invariant.lie (appended c)
    (room c))
