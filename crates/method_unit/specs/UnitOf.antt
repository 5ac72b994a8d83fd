-- What is read of a unit file without a fault.
use Rattle.std.specs.Prelude.{◌≡◌, ℕ, List, ◌++◌}
use Rattle.std.specs.List.{AllByRecursion}
use Rattle.cil_model.specs.Code.{CodeOf}
use Rattle.cil_model.specs.Bodies.{HasBody}
use Rattle.cil_model.specs.FitKinds.{AreDecoded, NeverStuck}
use Rattle.cil_model.specs.Passes.{KindsOf, Stacks}
use Rattle.cil_model.specs.TreeKinds.{IsNumberClause}
use Rattle.cil_model.specs.WellFormed.{ClausesWithinLimits}
use Rattle.cil_model.specs.declared.clause.Clause.{Clause}
use Rattle.cil_model.specs.declared.instruction.Instr.{Instr}
use Rattle.cil_model.specs.declared.unit.Unit.{Unit as MethodUnit}
use Rattle.contract_extract.specs.Extracting.{AreContracts}
use Rattle.il_decoder.specs.Decoding.{instructions_of}
use Rattle.unit_form.specs.Spelling.{IsSpelledBy}
use Rattle.unit_form.specs.UnitFields.{FieldsOfUnit, unit_fields}
use Rattle.method_unit.specs.UnitFile.{shape_told, unit_of}
use Rattle.method_unit.specs.Units.{HasKinds, IsUnit}

-- The unit has these fields and these instructions, the clauses that they tell, and after them those that were added.
pub record HasTold (fields : FieldsOfUnit) (is : List Instr) (unit : MethodUnit) : Type 0 where
  pub name : unit.name ≡ fields.name
  pub result : unit.result ≡ fields.result
  pub args : unit.args ≡ fields.args
  pub locals : unit.locals ≡ fields.locals
  pub max_stack : unit.max_stack ≡ fields.max_stack
  pub callees : unit.callees ≡ fields.callees
  pub code : unit.code ≡ fields.code
  pub instrs : unit.instrs ≡ is
  pub written : List Clause
  pub contracts : AreContracts is written unit.body_start
  pub clauses : unit.clauses ≡ written ++ fields.added

-- And it has all that their tests tell.
pub record IsUnitOf (fields : FieldsOfUnit) (is : List Instr) (unit : MethodUnit) : Type 0 where
  pub told : HasTold fields is unit
  pub spelled : CodeOf is fields.code
  pub kinds : HasKinds (shape_told fields) is
  pub limits : ClausesWithinLimits told.written
  pub numbers : (stacks : Stacks) → AreDecoded is → KindsOf (shape_told fields) is stacks → AllByRecursion (IsNumberClause fields.args fields.result) told.written
  pub body : (stacks : Stacks) → AreDecoded is → KindsOf (shape_told fields) is stacks → HasBody is stacks unit.body_start

-- It is the unit of these bytes.
abbrev pub IsUnitIn : List ℕ → MethodUnit → Type 0
IsUnitIn bytes unit = IsUnitOf (unit_fields bytes).value (instructions_of (unit_fields bytes).value.code) unit

-- The unit is what the bytes spell.
pub record IsRead (bytes : List ℕ) (unit : MethodUnit) : Type 0 where
  pub same : unit ≡ unit_of bytes
  pub is_unit : IsUnit unit
  pub spelled : IsSpelledBy unit bytes
  pub runs : NeverStuck unit
