use Rattle.std.proofs.Common.{◌≡◌, ◌+◌, ◌-◌, ◌++◌, ◌∷◌, [], true, length, ap, ◌∙◌, arith, length-append}
use Rattle.cil_model.specs.declared.machine.ArrayCell.{ArrayCell}
use Rattle.cil_model.specs.declared.place.Place.{Place}
use Rattle.clause_eval.specs.GivenArrays.{items_of, place_of}
use Rattle.clause_eval.specs.Rows.{heap_in}
use Rattle.clause_eval.specs.Stores.{has_room}
use Rattle.clause_eval.proofs.MemoryLemmas.{Appended, heap_with_one, laid_with_one, room_is}
use Rattle.clause_eval.proofs.GivenLemmas.{few_items}
use Rattle.clause_eval.proofs.memory.Memory.put.Goals as goal

pub append_items-requires : goal.append_items-requires
append_items-requires c =
    let cells = c.self.inside.cells in
    let arrays = c.self.inside.arrays in
    let items = items_of c.args.arg.now in
    let cell : ArrayCell = record { place = place_of c.args.arg.now; items = items } in
    let room : has_room (record { heap = heap_in cells.items arrays.items; limit = c.self.inside.limit }) cell ≡ true = rw (← c.self.view_is) at c.requires.room in
    let fits = room_is c.self.inside.limit cells.items arrays.items cell c.self.invariant.lie room in
    omega (arith, fits, cells.ok.0, c.self.invariant.cells_fit)

pub append-requires : goal.append-requires
append-requires c =
    let cells = c.self.inside.cells in
    let arrays = c.self.inside.arrays in
    let items = items_of c.args.arg.now in
    let cell : ArrayCell = record { place = place_of c.args.arg.now; items = items } in
    let room : has_room (record { heap = heap_in cells.items arrays.items; limit = c.self.inside.limit }) cell ≡ true = rw (← c.self.view_is) at c.requires.room in
    let fits = room_is c.self.inside.limit cells.items arrays.items cell c.self.invariant.lie room in
    omega (arith, fits, arrays.ok.0, c.self.invariant.arrays_fit)

pub invariant_of-self : goal.invariant_of-self
invariant_of-self c =
    let cells = c.self.inside.cells in
    let arrays = c.self.inside.arrays in
    let items = items_of c.args.arg.now in
    let cell : ArrayCell = record { place = place_of c.args.arg.now; items = items } in
    let room : has_room (record { heap = heap_in cells.items arrays.items; limit = c.self.inside.limit }) cell ≡ true = rw (← c.self.view_is) at c.requires.room in
    let fits = room_is c.self.inside.limit cells.items arrays.items cell c.self.invariant.lie room in
    let len = c.len.result - c.len-start.result in
    let more : length c.append_items.new.row.items ≡ length cells.items + length items = ap length c.append_items.ensures.items ∙ length-append cells.items items in
    let long : len ≡ length items = omega (arith, more, c.len.ensures, c.len-start.ensures, cells.ok.0, c.append_items.new.row.ok.0) in
    let start : c.len-start.result ≡ length cells.items = omega (arith, c.len-start.ensures, cells.ok.0) in
    let appended : Appended cells.items items arrays.items (place_of c.args.arg.now) len c.append_items.new.row.items c.append.new.row.items = record {
      cells_are = c.append_items.ensures.items;
      arrays_are = c.append.ensures.items
          ∙ ap (λ (p : Place). arrays.items ++ record { place = p; start = c.len-start.result; len = len } ∷ []) c.place_of-place.ensures
          ∙ ap (λ n. arrays.items ++ record { place = place_of c.args.arg.now; start = n; len = len } ∷ []) start;
      long = long;
    } in
    laid_with_one c.self.inside.limit cells.items items arrays.items (place_of c.args.arg.now) len c.append_items.new.row.items c.append.new.row.items _ _ _ _ c.self.invariant appended
    (omega (arith, long, few_items c.args.arg.now c.requires.array)) (omega (arith, fits, long)) c.append_items.ensures.capacity c.append.ensures.capacity

pub returns : goal.returns
returns c =
    let cells = c.self.inside.cells in
    let arrays = c.self.inside.arrays in
    let items = items_of c.args.arg.now in
    let cell : ArrayCell = record { place = place_of c.args.arg.now; items = items } in
    let room : has_room (record { heap = heap_in cells.items arrays.items; limit = c.self.inside.limit }) cell ≡ true = rw (← c.self.view_is) at c.requires.room in
    let fits = room_is c.self.inside.limit cells.items arrays.items cell c.self.invariant.lie room in
    let len = c.len.result - c.len-start.result in
    let more : length c.append_items.new.row.items ≡ length cells.items + length items = ap length c.append_items.ensures.items ∙ length-append cells.items items in
    let long : len ≡ length items = omega (arith, more, c.len.ensures, c.len-start.ensures, cells.ok.0, c.append_items.new.row.ok.0) in
    let start : c.len-start.result ≡ length cells.items = omega (arith, c.len-start.ensures, cells.ok.0) in
    let appended : Appended cells.items items arrays.items (place_of c.args.arg.now) len c.append_items.new.row.items c.append.new.row.items = record {
      cells_are = c.append_items.ensures.items;
      arrays_are = c.append.ensures.items
          ∙ ap (λ (p : Place). arrays.items ++ record { place = p; start = c.len-start.result; len = len } ∷ []) c.place_of-place.ensures
          ∙ ap (λ n. arrays.items ++ record { place = place_of c.args.arg.now; start = n; len = len } ∷ []) start;
      long = long;
    } in
    rw (← c.self.view_is)
    (heap_with_one c.self.inside.limit cells.items items arrays.items (place_of c.args.arg.now) len c.append_items.new.row.items c.append.new.row.items c.self.invariant.lie appended room)
