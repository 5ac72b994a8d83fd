-- Instructions of code that is short enough for its offsets to be numbers of 32 bits.
use Rattle.std.specs.Prelude.{◌≡◌, ℕ, ◌+◌, ◌^◌, ◌<◌, ◌≤◌, List, [], ◌∷◌, length}
use Rattle.std.specs.List.{AllByRecursion}
use Rattle.cil_model.specs.Blocks.{branch_targets}
use Rattle.cil_model.specs.declared.instruction.Instr.{Instr}

-- The instruction has bytes, ends in such code, and has no more targets than a switch may have (ECMA-335 III.3.66).
pub record IsOfShortCode (i : Instr) : Type 0 where
  pub some : 0 < i.size
  pub end : i.at + i.size ≤ 2147483647
  pub targets : length (branch_targets i.op) < 2 ^ 32

-- From an IL offset on, each instruction begins where the one before it ends.
abbrev pub LieFrom : ℕ → List Instr → Type 0
LieFrom at [] = Unit {0}
LieFrom at (i ∷ is) = (i.at ≡ at) × LieFrom (at + i.size) is

-- The instructions are all those of such code.
pub record AreOfShortCode (is : List Instr) : Type 0 where
  pub lie : LieFrom 0 is
  pub each : AllByRecursion IsOfShortCode is
