-- What is read of the arrays of a heap.
use Rattle.std.specs.Prelude.{ℕ, ℤ, List, pos, length, Option, None, option_map, slice_get, if◌then◌else◌}
use Rattle.std.specs.Option.{option_and_then}
use Rattle.cil_model.specs.Values.{Heap, same_place}
use Rattle.cil_model.specs.declared.machine.ArrayCell.{ArrayCell}
use Rattle.cil_model.specs.declared.place.Place.{Place}

-- The items of an array.
abbrev pub items_at : Heap → ℕ → Option (List ℤ)
items_at heap index = option_map (λ (cell : ArrayCell). cell.items) (slice_get heap index)

-- The length of an array.
abbrev pub length_at : Heap → ℕ → Option ℤ
length_at heap index = option_map (λ (cell : ArrayCell). pos (length cell.items)) (slice_get heap index)

-- The item at an index of an array, where it is of this type.
abbrev pub item_of_place : Place → ℕ → ArrayCell → Option ℤ
item_of_place place n cell = if same_place cell.place place then slice_get cell.items n else None

abbrev pub item_at : Heap → Place → ℕ → ℕ → Option ℤ
item_at heap place index n = option_and_then (item_of_place place n) (slice_get heap index)
