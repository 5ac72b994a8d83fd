-- What decoding owes to the spellings of instructions.
use Rattle.std.specs.Prelude.{◌≡◌, ℕ, ◌+◌, ◌<◌, ◌≤◌, List, ◌++◌, length, drop, slice_index, Result, Ok, Err, ◌==◌, if◌then◌else◌}
use Rattle.cc_base.specs.declared.refusal.Refusal.{Refusal}
use Rattle.cc_base.specs.declared.refusal.Refusal.TheVariants.{Bad, NoMemory}
use Rattle.cil_model.specs.Spells.{Spells}
use Rattle.cil_model.specs.declared.instruction.Instr.{Instr}
use Rattle.cil_model.specs.declared.instruction.Op.{Op}
use Rattle.cil_model.specs.declared.instruction.Op.TheVariants.{Switch}
use Rattle.il_decoder.specs.declared.fault.IlFault.{IlFault}

-- The code at the instruction's IL offset begins with a spelling of it.
abbrev pub StandsIn : Instr → List ℕ → Type 0
StandsIn i code = (bytes rest : List ℕ) × Spells i bytes × (drop i.at code ≡ bytes ++ rest)

-- The bytes are the prefix of an instruction's spelling at this IL offset, some of which is missing.
pub record IsCut (at : ℕ) (prefix : List ℕ) : Type 0 where
  pub instr : Instr
  pub place : instr.at ≡ at
  pub bytes : List ℕ
  pub missing : List ℕ
  pub spelled : Spells instr bytes
  pub cut : bytes ≡ prefix ++ missing
  pub some_missing : 0 < length missing

-- The code ends inside a spelling of an instruction at this IL offset.
abbrev pub EndsInside : List ℕ → ℕ → Type 0
EndsInside code at = IsCut at (drop at code)

-- The code begins no instruction at this IL offset: none stands there, and it does not end inside one.
pub record BeginsNone (code : List ℕ) (at : ℕ) : Type 0 where
  pub not_whole : (i : Instr) → i.at ≡ at → StandsIn i code → ⊥
  pub not_cut : EndsInside code at → ⊥

-- The opcode at an IL offset: one byte, or FE and the byte after it (III.1.2.1).
abbrev pub opcode_at : List ℕ → ℕ → ℕ
opcode_at code at = if slice_index code at == 0xfe then 0xfe00 + slice_index code (at + 1) else slice_index code at

-- The instruction has bytes, and they end within the code.
pub record Reaches (i : Instr) (code : List ℕ) : Type 0 where
  pub some : 0 < i.size
  pub inside : i.at + i.size ≤ length code

-- What was decoded takes memory: a switch alone does, and it is asked for when all of the switch was found.
abbrev pub IsSwitch : Op → Type 0
IsSwitch (Switch targets) = Unit {0}
IsSwitch _ = ⊥

abbrev pub TakesMemory : Result Instr IlFault → Type 0
TakesMemory (Ok i) = IsSwitch i.op
TakesMemory (Err fault) = ⊥

-- What was returned is this, unless memory ran out for a switch.
abbrev pub Gives : Result Instr (Refusal IlFault) → Result Instr IlFault → Type 0
Gives (Ok i) decoded = decoded ≡ Ok i
Gives (Err (Bad fault)) decoded = decoded ≡ Err fault
Gives (Err NoMemory) decoded = TakesMemory decoded
