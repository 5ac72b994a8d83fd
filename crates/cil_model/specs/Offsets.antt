-- How the instructions of a method lie in its code (ECMA-335 III.1.2), and which of them begins at an IL offset.
use Rattle.std.specs.Prelude.{◌≡◌, ℕ, suc, ◌+◌, ◌<◌, ◌≤◌, ◌==◌, Bool, false, List, [], ◌∷◌, length, slice_get, slice_index_or}
use Rattle.std.specs.Option.{option_map_or}
use Rattle.cil_model.specs.Runs.{instr_at}
use Rattle.cil_model.specs.declared.instruction.Instr.{Instr}

-- From an IL offset on, each instruction begins where the one before it ends, and has bytes.
abbrev pub LieFrom : ℕ → List Instr → Type 0
LieFrom at [] = Unit {0}
LieFrom at (i ∷ is) = (i.at ≡ at) × (0 < i.size) × LieFrom (at + i.size) is

-- The instructions lie one after another, from the start of the code on.
pub record AreLaidOut (is : List Instr) : Type 0 where
  pub lie : LieFrom 0 is

-- The IL offsets rise, from this one on.
abbrev pub RiseFrom : ℕ → List Instr → Type 0
RiseFrom low [] = Unit {0}
RiseFrom low (i ∷ rest) = (low ≤ i.at) × RiseFrom (suc i.at) rest

-- The instruction of this index is the one at an IL offset.
pub record StandsAt (is : List Instr) (at index : ℕ) : Type 0 where
  pub within : index < length is
  pub found : instr_at is at ≡ slice_get is index

-- The instruction of this index begins at the IL offset.
pub record BeginsAt (is : List Instr) (at index : ℕ) : Type 0 where
  pub within : index < length is
  pub offset : (d : Instr) → (slice_index_or is index d).at ≡ at

-- Whether the instruction of this index begins at the IL offset.
abbrev pub begins_with : List Instr → ℕ → ℕ → Bool
begins_with is at index = option_map_or (λ i. i.at == at) (slice_get is index) false
