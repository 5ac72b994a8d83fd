-- How an instruction is spelled in a method's code (ECMA-335 III.1.2).
use Rattle.std.specs.Prelude.{◌≡◌, ℕ, ◌+◌, ◌^◌, ◌<◌, ◌⊎◌, List, [], ◌∷◌, ◌++◌, length, map, Option, Some, None}
use Rattle.std.specs.List.{AllByRecursion, flat_map}
use Rattle.byteorder.specs.Endian.{little_bytes}
use Rattle.cil_model.specs.Opcodes.{Form, short_form, long_form, target}
use Rattle.cil_model.specs.declared.instruction.Instr.{Instr}
use Rattle.cil_model.specs.declared.instruction.Op.TheVariants.{Switch}

-- The bytes are the opcode and an operand, and what the opcode's row makes of them is the operation.
abbrev pub SpellsForm : Option Form → List ℕ → Instr → List ℕ → Type 0
SpellsForm None opcode i bytes = ⊥
SpellsForm (Some (width, meaning)) opcode i bytes =
    (operand : ℕ) × (operand < 256 ^ width) × (i.op ≡ meaning (i.at + i.size) operand) × (bytes ≡ opcode ++ little_bytes width operand)

-- An opcode of one byte.
abbrev pub SpellsShort : Instr → List ℕ → Type 0
SpellsShort i bytes = (b : ℕ) × (b < 256) × SpellsForm (short_form b) (b ∷ []) i bytes

-- An opcode of two.
abbrev pub SpellsLong : Instr → List ℕ → Type 0
SpellsLong i bytes = (b : ℕ) × (b < 256) × SpellsForm (long_form b) (0xfe ∷ b ∷ []) i bytes

-- Offsets of targets, in four bytes each.
abbrev pub offset_bytes : List ℕ → List ℕ
offset_bytes offsets = flat_map (little_bytes 4) offsets

-- switch: how many targets it has, and the offset of each from the next instruction (III.3.66).
pub record SpellsSwitch (i : Instr) (bytes : List ℕ) : Type 0 where
  pub offsets : List ℕ
  pub few : length offsets < 2 ^ 32
  pub small : AllByRecursion (λ offset. offset < 2 ^ 32) offsets
  pub op : i.op ≡ Switch (map (target (i.at + i.size)) offsets)
  pub spelled : bytes ≡ 0x45 ∷ little_bytes 4 (length offsets) ++ offset_bytes offsets

-- The bytes spell the instruction.
pub record Spells (i : Instr) (bytes : List ℕ) : Type 0 where
  pub size : i.size ≡ length bytes
  pub row : SpellsShort i bytes ⊎ (SpellsLong i bytes ⊎ SpellsSwitch i bytes)
