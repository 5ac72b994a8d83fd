-- How the unit of a method is made of its parts.
use Rattle.std.specs.Prelude.{◌≡◌, ℕ, List, map}
use Rattle.std.specs.List.{AllByRecursion}
use Rattle.asm_image.specs.declared.method_row.MethodRow.{MethodRow}
use Rattle.cil_model.specs.TreeKinds.{IsNumberClause}
use Rattle.cil_model.specs.WellFormed.{ClausesWithinLimits, HasInts, IsCallee}
use Rattle.cil_model.specs.declared.clause.Clause.{Clause}
use Rattle.cil_model.specs.declared.unit.CalleeInfo.{CalleeInfo}
use Rattle.cil_model.specs.declared.unit.Unit.{Unit as MethodUnit}
use Rattle.method_code.specs.Numbering.{spelled_code}
use Rattle.method_code.specs.OfMethods.{args_of, result_of}
use Rattle.method_code.specs.Reading.{AreContractsOf, AreDecodedAs}
use Rattle.unit_builder.specs.Bodies.{callee_keys, code_told, header_of, locals_told, unit_instrs}
use Rattle.unit_builder.specs.Callees.{unit_name}
use Rattle.method_unit.specs.Units.{HasKinds, IsUnit}
use Rattle.unit_builder.specs.Outcomes.{unit_of}
use Rattle.unit_builder.specs.Reasons.{unit_shape}
use Rattle.unit_builder.specs.Scopes.{Scope}
use Rattle.unit_builder.specs.declared.header.Variables.{Variables}
use Rattle.unit_builder.specs.declared.own_code.OwnCode.{OwnCode}

-- What the header tells of the method's variables.
pub record AreVariablesOf (asm : List ℕ) (method : MethodRow) (variables : Variables) : Type 0 where
  pub locals : variables.locals ≡ locals_told asm (header_of asm method)
  pub max_stack : variables.max_stack ≡ (header_of asm method).max_stack

-- This is the method's own code, with its numbers and its clauses.
pub record IsOwnCode (scope : Scope) (method : MethodRow) (own : OwnCode) : Type 0 where
  pub instrs : own.instrs ≡ unit_instrs scope method
  pub callees : own.callees.items ≡ callee_keys scope method
  pub decoded : AreDecodedAs (code_told scope.asm method) (unit_instrs scope method)
  pub contracts : AreContractsOf method (unit_instrs scope method) own.contracts

-- These are what the unit's method calls, in order.
pub record AreCallees (info : ℕ → CalleeInfo) (keys : List ℕ) (infos : List CalleeInfo) : Type 0 where
  pub infos_are : infos ≡ map info keys
  pub each : AllByRecursion IsCallee infos

-- The parts of the unit are those of the method.
pub record HasParts (scope : Scope) (method : MethodRow) (unit : MethodUnit) : Type 0 where
  pub name : unit.name ≡ unit_name method
  pub result : unit.result ≡ result_of method.sig.types
  pub args : unit.args ≡ args_of method.sig.types
  pub locals : unit.locals ≡ locals_told scope.asm (header_of scope.asm method)
  pub max_stack : unit.max_stack ≡ (header_of scope.asm method).max_stack
  pub callees : AreCallees scope.info (callee_keys scope method) unit.callees
  pub code : unit.code ≡ spelled_code (unit_instrs scope method)
  pub instrs : unit.instrs ≡ unit_instrs scope method
  pub decoded : AreDecodedAs (code_told scope.asm method) (unit_instrs scope method)
  pub contracts : AreContractsOf method (unit_instrs scope method) (record { clauses = unit.clauses; body_start = unit.body_start })
  pub kinds : HasKinds (unit_shape scope method) (unit_instrs scope method)

-- The unit is that of the method, and the rest of the project may take it.
pub record IsMade (scope : Scope) (method : MethodRow) (unit : MethodUnit) : Type 0 where
  pub same : unit ≡ unit_of scope method
  pub is_unit : IsUnit unit

-- These clauses of a method may stand in an entry of its callers.
pub record AreKnownOf (method : MethodRow) (clauses : List Clause) : Type 0 where
  pub limits : ClausesWithinLimits clauses
  pub ints : AllByRecursion HasInts clauses
  pub numbers : AllByRecursion (IsNumberClause (args_of method.sig.types) (result_of method.sig.types)) clauses
