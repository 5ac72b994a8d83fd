-- The unit that is made of the fields of a file.
use Rattle.std.proofs.Common.{◌≡◌, ℕ, List, ◌++◌, None, subst, subst₂, sym, ◌∙◌}
use Rattle.std.specs.List.{AllByRecursion}
use Rattle.cc_base.specs.Tests.{first_of}
use Rattle.cc_base.proofs.TestLemmas.{first_of-none}
use Rattle.cil_model.specs.Code.{CodeOf}
use Rattle.cil_model.specs.Bodies.{HasBody}
use Rattle.cil_model.specs.FitKinds.{AreDecoded}
use Rattle.cil_model.specs.Passes.{KindsOf, Stacks}
use Rattle.cil_model.specs.TreeKinds.{IsNumberClause}
use Rattle.cil_model.specs.WellFormed.{ClausesWithinLimits}
use Rattle.cil_model.specs.declared.clause.Clause.{Clause}
use Rattle.cil_model.specs.declared.instruction.Instr.{Instr}
use Rattle.cil_model.specs.declared.shape.Shape.{Shape}
use Rattle.cil_model.specs.declared.unit.Unit.{Unit as MethodUnit}
use Rattle.contract_extract.specs.Extracting.{AreContracts}
use Rattle.il_decoder.specs.Decoding.{instructions_of}
use Rattle.unit_form.specs.UnitFields.{FieldsOfUnit}
use Rattle.method_unit.specs.UnitFile.{code_tests_of, decoding_test, instr_tests, shape_told}
use Rattle.method_unit.specs.UnitOf.{IsUnitOf}
use Rattle.method_unit.specs.Units.{HasKinds}

-- What the tests of the instructions tell of the clauses and the start of the body, where they are those of this shape.
pub record Tested (base : ℕ) (shape : Shape) (offsets : List ℕ) (added : List Clause) (at : ℕ) (is : List Instr) (written : List Clause) (body_start : ℕ) : Type 0 where
  pub passed : first_of (instr_tests base shape offsets added at is) ≡ None
  pub contracts : AreContracts is written body_start
  pub kinds : HasKinds shape is
  pub limits : ClausesWithinLimits written
  pub numbers : (stacks : Stacks) → AreDecoded is → KindsOf shape is stacks → AllByRecursion (IsNumberClause shape.args shape.result) written
  pub body : (stacks : Stacks) → AreDecoded is → KindsOf shape is stacks → HasBody is stacks body_start

-- The parts of the unit are those of the fields, and its clauses these and those that were added.
pub record HasParts (fields : FieldsOfUnit) (is : List Instr) (written : List Clause) (unit : MethodUnit) : Type 0 where
  pub name : unit.name ≡ fields.name
  pub result : unit.result ≡ fields.result
  pub args : unit.args ≡ fields.args
  pub locals : unit.locals ≡ fields.locals
  pub max_stack : unit.max_stack ≡ fields.max_stack
  pub callees : unit.callees ≡ fields.callees
  pub code : unit.code ≡ fields.code
  pub instrs : unit.instrs ≡ is
  pub clauses : unit.clauses ≡ written ++ fields.added

pub made : (fields : FieldsOfUnit) (found : List Instr) (shape : Shape) (offsets : List ℕ) (added written : List Clause) (unit : MethodUnit) → shape ≡ shape_told fields → offsets ≡ fields.callee_offsets → added ≡ fields.added
    → decoding_test fields.code_offset fields.code ≡ None → found ≡ instructions_of fields.code → CodeOf found fields.code
    → Tested fields.code_offset shape offsets added fields.added_offset found written unit.body_start
    → HasParts fields found written unit → (first_of (code_tests_of fields) ≡ None) × IsUnitOf fields (instructions_of fields.code) unit
unfolding code_tests_of
made fields found shape offsets added written unit shape_is offsets_are added_are decodes found_is spelled tested parts =
    let at = fields.added_offset in
    let here : Tested fields.code_offset (shape_told fields) fields.callee_offsets fields.added at found written unit.body_start =
    subst (λ s. Tested fields.code_offset s fields.callee_offsets fields.added at found written unit.body_start) shape_is
    (subst₂ (λ o a. Tested fields.code_offset shape o a at found written unit.body_start) offsets_are added_are tested) in
    let told = subst (λ is. Tested fields.code_offset (shape_told fields) fields.callee_offsets fields.added at is written unit.body_start) found_is here in
    let instrs : unit.instrs ≡ instructions_of fields.code = parts.instrs ∙ found_is in (
      first_of-none _ _ decodes ∙ told.passed,
      record {
        told = record {
          name = parts.name;
          result = parts.result;
          args = parts.args;
          locals = parts.locals;
          max_stack = parts.max_stack;
          callees = parts.callees;
          code = parts.code;
          instrs = instrs;
          written = written;
          contracts = told.contracts;
          clauses = parts.clauses;
        };
        spelled = subst (λ is. CodeOf is fields.code) found_is spelled;
        kinds = told.kinds;
        limits = told.limits;
        numbers = told.numbers;
        body = told.body;
      },
    )

-- The kinds of code of a shape are those of the same code of the same shape.
pub kinds_in : (shape other : Shape) (is code : List Instr) (stacks : Stacks) → shape ≡ other → code ≡ is → KindsOf shape is stacks → KindsOf other code stacks
kinds_in shape other is code stacks same are kinds =
    subst (λ (c : List Instr). KindsOf other c stacks) (sym are) (subst (λ (s : Shape). KindsOf s is stacks) same kinds)

-- What is told of a unit is so of one that is equal to it.
pub made_as : (fields : FieldsOfUnit) (unit told : MethodUnit) → unit ≡ told
    → (first_of (code_tests_of fields) ≡ None) × IsUnitOf fields (instructions_of fields.code) told
    → (first_of (code_tests_of fields) ≡ None) × IsUnitOf fields (instructions_of fields.code) unit
made_as fields unit told same (passed, is) = (passed, subst (IsUnitOf fields (instructions_of fields.code)) (sym same) is)
