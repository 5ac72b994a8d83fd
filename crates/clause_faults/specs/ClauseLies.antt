-- How the code of a clause lies in that of its method.
use Rattle.std.specs.Prelude.{◌≡◌, ℕ, ◌+◌, ◌-◌, ◌^◌, ◌<◌, ◌≤◌, List, [], ◌∷◌, length, take, drop, Some, option_map, slice_get}
use Rattle.std.specs.List.{AllByRecursion}
use Rattle.std.specs.Option.{option_map_or}
use Rattle.cil_model.specs.Offsets.{RiseFrom}
use Rattle.cil_model.specs.Runs.{instr_at}
use Rattle.cil_model.specs.declared.instruction.Instr.{Instr}
use Rattle.cil_model.specs.declared.shape.Shape.{Shape}
use Rattle.clause_faults.specs.Faults.{code_faults}
use Rattle.clause_faults.specs.declared.clause_fault.ClauseFault.{ClauseFault}

-- From an IL offset on, each instruction begins where the one before it ends, has bytes, and ends in code that is short
-- enough for its offsets to be numbers of 32 bits.
abbrev pub LieFrom : ℕ → List Instr → Type 0
LieFrom at [] = Unit {0}
LieFrom at (i ∷ is) = (i.at ≡ at) × (0 < i.size) × (at + i.size < 2 ^ 32) × LieFrom (at + i.size) is

-- The instructions lie one after another, from the start of the code on.
pub record LieInOrder (is : List Instr) : Type 0 where
  pub lie : LieFrom 0 is

-- The code lies among the instructions, from an index on.
pub record LiesFrom (is : List Instr) (first : ℕ) (code : List Instr) : Type 0 where
  pub lie : LieInOrder is
  pub rise : RiseFrom 0 code
  pub there : (k : ℕ) → k < length code → slice_get is (first + k) ≡ slice_get code k

-- The instructions from one index up to another.
abbrev pub code_between : List Instr → ℕ → ℕ → List Instr
code_between is first last = take (last + 1 - first) (drop first is)

-- The instructions from one index up to another are the code of a clause, up to its closing call.
pub record IsClauseCode (is : List Instr) (first last : ℕ) : Type 0 where
  pub lie : LieInOrder is
  pub some : first ≤ last
  pub within : last < length is

-- The code is all that lies from one IL offset up to the closing call, the first of it at an index.
pub record IsClauseIn (is : List Instr) (first start : ℕ) (closing : Instr) (code : List Instr) : Type 0 where
  pub lies : LiesFrom is first code
  pub begins : option_map (λ i. i.at) (slice_get code 0) ≡ Some start
  pub ends : AllByRecursion (λ i. i.at ≤ closing.at) code
  pub within : start ≤ closing.at
  pub has : (at : ℕ) → start ≤ at → at ≤ closing.at → instr_at is at ≡ instr_at code at
  pub few : length code ≤ length is

-- All that is wrong with the code of a clause between two indexes, but for its size.
abbrev pub clause_faults : List Instr → Shape → ℕ → ℕ → List ClauseFault
clause_faults is shape first last =
    option_map_or (λ closing. option_map_or (λ i. code_faults is shape i.at closing (code_between is first last)) (slice_get is first) []) (slice_get is last) []
