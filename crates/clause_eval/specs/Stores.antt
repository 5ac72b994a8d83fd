-- The arrays of the machine, and how many cells they may take.
use Rattle.std.specs.Prelude.{ℕ, ◌+◌, [], ◌∷◌, length, slice_get, if◌then◌else◌, ◌++◌, nat_le, ℤ, Bool, Option, Some, None}
use Rattle.std.specs.Option.{option_and_then}
use Rattle.cil_model.specs.Effects.{with_item}
use Rattle.cil_model.specs.Values.{Heap}
use Rattle.cil_model.specs.declared.machine.ArrayCell.{ArrayCell}

-- An array of n items takes n + 1 cells.
abbrev pub cells_of : Heap → ℕ
cells_of [] = 0
cells_of (cell ∷ heap) = length cell.items + 1 + cells_of heap

pub record Store : Type 0 where
  pub heap : Heap
  -- the most cells that the arrays may take
  pub limit : ℕ

-- There are cells for one more array.
abbrev pub has_room : Store → ArrayCell → Bool
has_room store cell = nat_le (cells_of (store.heap ++ cell ∷ [])) store.limit

-- The store with one more array, where there are cells for it.
abbrev pub with_array : Store → ArrayCell → Store
with_array store cell = if has_room store cell then record store { heap = store.heap ++ cell ∷ [] } else store

-- The heap with one item of an array replaced, where it has the array.
abbrev pub replaced_in : Heap → ℕ → ℕ → ℤ → Option ArrayCell → Heap
replaced_in heap a n item None = heap
replaced_in heap a n item (Some cell) = with_item heap a cell n item

abbrev pub replaced : Heap → ℕ → ℕ → ℤ → Heap
replaced heap a n item = replaced_in heap a n item (slice_get heap a)

-- The item at an index of an array.
abbrev pub item_in : Heap → ℕ → ℕ → Option ℤ
item_in heap a n = option_and_then (λ cell. slice_get cell.items n) (slice_get heap a)
