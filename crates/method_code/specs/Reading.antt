-- What is read of the code of a method.
use Rattle.std.specs.Prelude.{◌≡◌, ℕ, ◌≤◌, List, length, Some, None, IfOk}
use Rattle.std.specs.List.{AllByRecursion, list_all}
use Rattle.asm_image.specs.declared.method_row.MethodRow.{MethodRow}
use Rattle.cc_base.specs.Tests.{first_of, Judges}
use Rattle.cil_model.specs.Code.{CodeOf}
use Rattle.cil_model.specs.Bodies.{HasBody}
use Rattle.cil_model.specs.Passes.{KindsOf, Stacks}
use Rattle.cil_model.specs.ShortCode.{AreOfShortCode}
use Rattle.cil_model.specs.TreeKinds.{IsNumberClause}
use Rattle.cil_model.specs.WellFormed.{ClausesWithinLimits}
use Rattle.cil_model.specs.declared.instruction.Instr.{Instr}
use Rattle.cil_model.specs.declared.shape.Shape.{Shape}
use Rattle.clause_faults.specs.Faults.{first_clause_fault}
use Rattle.contract_extract.specs.Extracting.{AreContracts}
use Rattle.contract_extract.specs.declared.contracts.Contracts.{Contracts}
use Rattle.il_decoder.specs.Decoding.{code_tests, instructions_of}
use Rattle.method_code.specs.Called.{callees_of}
use Rattle.method_code.specs.Meanings.{Meaning}
use Rattle.method_code.specs.Numbering.{numbered, spelled_code}
use Rattle.method_code.specs.OfMethods.{HasSignature, bare_shape, code_of, is_number_clause}
use Rattle.method_code.specs.declared.code_reader.MethodCode.{MethodCode}
use Rattle.cil_model.specs.Offsets.{AreLaidOut}

-- What decoding tells of instructions, of their own code, which is as long as this one.
pub record AreDecodedAs (code : List ℕ) (is : List Instr) : Type 0 where
  pub spelled : CodeOf is (spelled_code is)
  pub long : length (spelled_code is) ≡ length code
  pub short : AreOfShortCode is
  pub laid : AreLaidOut is
  pub inside : AllByRecursion (λ i. i.at ≤ length code) is

-- These contracts are those of the instructions of a method.
pub record AreContractsOf (method : MethodRow) (is : List Instr) (contracts : Contracts) : Type 0 where
  pub told : AreContracts is contracts.clauses contracts.body_start
  pub limits : ClausesWithinLimits contracts.clauses
  -- Where the code has kinds in whatever shape of the method, so has each tree: that of a number. And the body begins
  -- with an empty stack, and can be run from there.
  pub numbers : (shape : Shape) (stacks : Stacks) → HasSignature method shape → KindsOf shape is stacks → AllByRecursion (IsNumberClause shape.args shape.result) contracts.clauses
  pub body : (shape : Shape) (stacks : Stacks) → HasSignature method shape → KindsOf shape is stacks → HasBody is stacks contracts.body_start

-- This is read of code that belongs to a method, and whose tokens have this meaning.
pub record IsReadOf (meaning : Meaning) (method : MethodRow) (code : List ℕ) (read : MethodCode) : Type 0 where
  pub instrs : read.instrs ≡ numbered meaning (instructions_of code)
  pub callees : read.callees ≡ callees_of meaning (instructions_of code)
  pub decoded : AreDecodedAs code read.instrs
  pub contracts : Judges read.contracts (first_clause_fault read.instrs (bare_shape method)) (AreContractsOf method read.instrs)
  pub are_numbers : IfOk read.contracts (λ contracts. read.are_numbers ≡ list_all (is_number_clause (bare_shape method)) contracts.clauses)

-- This is read of the own code of a method of an assembly, which has no fault.
pub record IsCodeOf (meaning : Meaning) (asm : List ℕ) (method : MethodRow) (read : MethodCode) : Type 0 where
  pub code : List ℕ
  pub own : code_of asm method ≡ Some code
  pub faultless : first_of (code_tests code) ≡ None
  pub read_of : IsReadOf meaning method code read

-- The same with other instructions, as where these were moved away.
abbrev pub with_instrs : List Instr → MethodCode → MethodCode
with_instrs instrs read = record { instrs = instrs; callees = read.callees; contracts = read.contracts; are_numbers = read.are_numbers }
