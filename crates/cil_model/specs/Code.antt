-- The code of a method: its instructions, one after another.
use Rattle.std.specs.Prelude.{◌≡◌, ℕ, ◌+◌, Bool, true, false, ◌==◌, ◌||◌, List, [], ◌∷◌, ◌++◌}
use Rattle.std.specs.List.{AllByRecursion}
use Rattle.cil_model.specs.Blocks.{branch_targets}
use Rattle.cil_model.specs.Spells.{Spells}
use Rattle.cil_model.specs.declared.instruction.Instr.{Instr}

-- The code is the spellings of these instructions, one after another, from this IL offset on.
abbrev pub CodeFrom : ℕ → List Instr → List ℕ → Type 0
CodeFrom at [] code = code ≡ []
CodeFrom at (i ∷ is) code =
    (i.at ≡ at) × ((bytes rest : List ℕ) × Spells i bytes × (code ≡ bytes ++ rest) × CodeFrom (at + i.size) is rest)

-- An instruction begins at this IL offset.
abbrev pub begins_at : List Instr → ℕ → Bool
begins_at [] at = false
begins_at (i ∷ is) at = i.at == at || begins_at is at

-- The instruction branches to starts of these instructions alone.
abbrev pub MeetsStarts : List Instr → Instr → Type 0
MeetsStarts instrs i = AllByRecursion (λ target. begins_at instrs target ≡ true) (branch_targets i.op)

-- The code is the spellings of these instructions, and each branch meets the start of one (III.1.7.2).
pub record CodeOf (instrs : List Instr) (code : List ℕ) : Type 0 where
  pub spelled : CodeFrom 0 instrs code
  pub targets : AllByRecursion (MeetsStarts instrs) instrs
