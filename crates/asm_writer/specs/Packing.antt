-- Items one after another.
use Rattle.std.specs.Prelude.{ℕ, List, [], ◌∷◌, ◌++◌, length, fold}
use Rattle.asm_writer.specs.Padding.{padded}

-- The bytes of all items, and the offset at which each begins.
pub record Packing : Type 0 where
  pub bytes : List ℕ
  pub offsets : List ℕ

-- The next item begins after the bytes that there are.
abbrev pub begun : Packing → Packing
begun packing = record { bytes = packing.bytes; offsets = packing.offsets ++ length packing.bytes ∷ [] }

abbrev pub pushed : Packing → List ℕ → Packing
pushed packing item = record { bytes = packing.bytes ++ item; offsets = packing.offsets ++ length packing.bytes ∷ [] }

unfoldable pub pushed_all : Packing → List (List ℕ) → Packing
pushed_all packing items = fold pushed packing items

unfoldable pub packed : List (List ℕ) → Packing
packed items = pushed_all (record { bytes = []; offsets = [] }) items

-- Filled up to a multiple of four.
abbrev pub filled : Packing → Packing
filled packing = record { bytes = padded 4 packing.bytes; offsets = packing.offsets }
