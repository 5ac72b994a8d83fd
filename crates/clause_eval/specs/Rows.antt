-- The arrays of a heap in one flat row of cells, the items of one after those of another.
use Rattle.std.specs.Prelude.{◌≡◌, ℕ, ◌+◌, ◌^◌, ◌<◌, ◌≤◌, ℤ, List, [], ◌∷◌, length, map, take, drop}
use Rattle.std.specs.List.{AllByRecursion}
use Rattle.cil_model.specs.Values.{Heap}
use Rattle.cil_model.specs.declared.machine.ArrayCell.{ArrayCell}
use Rattle.clause_eval.specs.declared.memory.Array.{Array}

-- The array that stands in the row.
abbrev pub cell_in : List ℤ → Array → ArrayCell
cell_in cells a = record { place = a.place; items = take a.len (drop a.start cells) }

abbrev pub heap_in : List ℤ → List Array → Heap
heap_in cells arrays = map (cell_in cells) arrays

-- The arrays lie one after another, from this cell to that one.
abbrev pub LieFrom : ℕ → List Array → ℕ → Type 0
LieFrom start [] end = start ≡ end
LieFrom start (a ∷ rest) end = (a.start ≡ start) × LieFrom (start + a.len) rest end

-- What holds of a row of so many cells at most, in memory for so many cells and arrays.
pub record IsLaid (limit : ℕ) (cells : List ℤ) (arrays : List Array) (cell_room array_room : ℕ) : Type 0 where
  pub lie : LieFrom 0 arrays (length cells)
  pub short : AllByRecursion (λ (a : Array). a.len < 2 ^ 31) arrays
  pub within : length cells + length arrays ≤ limit
  pub cells_fit : limit ≤ cell_room
  pub arrays_fit : limit ≤ array_room
