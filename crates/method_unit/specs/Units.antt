-- Units that files spell.
use Rattle.std.specs.Prelude.{◌≡◌, ℕ, ◌+◌, ◌<◌, ◌≤◌, ◌^◌, List, None}
use Rattle.std.specs.List.{All, AllByRecursion}
use Rattle.cil_model.specs.Code.{CodeOf}
use Rattle.cil_model.specs.Limits.{MAX_CODE_BYTES}
use Rattle.cil_model.specs.Passes.{KindsOf, Stacks}
use Rattle.cil_model.specs.ShortCode.{AreOfShortCode}
use Rattle.cil_model.specs.Shapes.{shape_of}
use Rattle.cil_model.specs.WellFormed.{IsWellFormed}
use Rattle.cil_model.specs.declared.instruction.Instr.{Instr}
use Rattle.cil_model.specs.declared.shape.Shape.{Shape}
use Rattle.cil_model.specs.declared.unit.Unit.{Unit as MethodUnit}
use Rattle.clause_faults.specs.Faults.{first_clause_fault}
use Rattle.cil_model.specs.Offsets.{AreLaidOut}

-- The unit is well formed, and its code has no fault of clauses.
pub record IsUnit (unit : MethodUnit) : Type 0 where
  pub well_formed : IsWellFormed unit
  pub clauses : first_clause_fault unit.instrs (shape_of unit) ≡ None

-- The instructions have kinds.
abbrev pub HasKinds : Shape → List Instr → Type 0
HasKinds shape is = (stacks : Stacks) × KindsOf shape is stacks

-- The instructions lie in code that keeps the limit.
abbrev pub AreWithin : List Instr → Type 0
AreWithin is = AllByRecursion (λ i. i.at ≤ MAX_CODE_BYTES) is

-- What decoding tells of the instructions of code that keeps the limit, and that begins at the offset `base` of a file.
pub record AreDecodedOf (base : ℕ) (code : List ℕ) (is : List Instr) : Type 0 where
  pub spelled : CodeOf is code
  pub short : AreOfShortCode is
  pub laid : AreLaidOut is
  pub within : AreWithin is
  pub inside : All (λ i. base + i.at < 2 ^ 32) is
