-- The unit of a method is made of its parts.
use Rattle.std.proofs.Common.{◌≡◌, ℕ, List, map, sym, ap, ap₂, subst, ◌∙◌}
use Rattle.std.specs.Prelude.{Some, None, Result, Ok, Err, option_map}
use Rattle.std.specs.List.{AllByRecursion}
use Rattle.asm_image.specs.declared.method_row.MethodRow.{MethodRow}
use Rattle.cc_base.specs.Tests.{first_of, JudgesOrNoMemory}
use Rattle.cc_base.specs.declared.refusal.Refusal.{Refusal}
use Rattle.cc_base.specs.declared.refusal.Refusal.TheVariants.{Bad, NoMemory}
use Rattle.cc_base.proofs.TestLemmas.{first_of-one}
use Rattle.cil_model.specs.WellFormed.{IsCallee}
use Rattle.cil_model.specs.declared.instruction.Instr.{Instr}
use Rattle.cil_model.specs.declared.shape.Shape.{Shape}
use Rattle.cil_model.specs.declared.unit.CalleeInfo.{CalleeInfo}
use Rattle.cil_model.specs.declared.unit.Unit.{Unit as MethodUnit}
use Rattle.method_code.specs.Meanings.{HasSmallNumbers}
use Rattle.method_code.specs.Numbering.{spelled_code}
use Rattle.method_unit.specs.Units.{HasKinds}
use Rattle.stack_typer.specs.FirstTypeFault.{first_type_fault}
use Rattle.unit_builder.specs.Scopes.{Scope}
use Rattle.unit_builder.proofs.Made.{unit_made}
use Rattle.unit_builder.specs.Bodies.{callee_keys, unit_instrs}
use Rattle.unit_builder.specs.Callees.{unit_name}
use Rattle.unit_builder.specs.Making.{AreCallees, HasParts, IsMade, IsOwnCode}
use Rattle.unit_builder.specs.Reasons.{kind_tests, reason_tests, unit_shape}
use Rattle.unit_builder.specs.Rows.{IsRowOf}
use Rattle.unit_builder.specs.declared.own_code.OwnCode.{OwnCode}
use Rattle.unit_builder.specs.declared.reason.Reason.{Reason}
use Rattle.unit_builder.specs.declared.reason.Reason.TheVariants.{Kinds}

pub callees_are : (s : Scope) (method : MethodRow) (keys : List ℕ) (infos : List CalleeInfo) → keys ≡ callee_keys s method → AreCallees s.info keys infos
    → AreCallees s.info (callee_keys s method) infos
callees_are s method keys infos same are = subst (λ (ks : List ℕ). AreCallees s.info ks infos) same are

-- The unit that is made of a shape, of code, of a name and of its bytes.
abbrev made_of : Shape → OwnCode → List ℕ → List ℕ → MethodUnit
made_of shape own name code = record {
  name = name;
  result = shape.result;
  args = shape.args;
  locals = shape.locals;
  max_stack = shape.max_stack;
  callees = shape.callees;
  code = code;
  clauses = own.contracts.clauses;
  body_start = own.contracts.body_start;
  instrs = own.instrs;
}

has_parts : (s : Scope) (method : MethodRow) (shape : Shape) (own : OwnCode) (name code : List ℕ) (infos : List CalleeInfo) → shape ≡ unit_shape s method → IsOwnCode s method own
    → AreCallees s.info (callee_keys s method) infos → name ≡ unit_name method → code ≡ spelled_code own.instrs → HasKinds shape own.instrs → HasParts s method (made_of shape own name code)
unfolding unit_shape
has_parts s method shape own name code infos same of callees named spelled kinds =
    let infos_are : shape.callees ≡ map s.info (callee_keys s method) = ap (λ (s : Shape). s.callees) same in
    record {
      name = named;
      result = ap (λ (s : Shape). s.result) same;
      args = ap (λ (s : Shape). s.args) same;
      locals = ap (λ (s : Shape). s.locals) same;
      max_stack = ap (λ (s : Shape). s.max_stack) same;
      callees = record { infos_are = infos_are; each = subst (AllByRecursion IsCallee) (callees.infos_are ∙ sym infos_are) callees.each };
      code = spelled ∙ ap spelled_code of.instrs;
      instrs = of.instrs;
      decoded = of.decoded;
      contracts = of.contracts;
      kinds = subst (HasKinds (unit_shape s method)) of.instrs (subst (λ (s : Shape). HasKinds s own.instrs) same kinds);
    }

kind_fault : (s : Scope) (method : MethodRow) (shape : Shape) (is : List Instr) → shape ≡ unit_shape s method → is ≡ unit_instrs s method
    → first_of (kind_tests s method) ≡ option_map Kinds (first_type_fault is shape)
unfolding kind_tests
kind_fault s method shape is same are =
    first_of-one (option_map Kinds (first_type_fault (unit_instrs s method) (unit_shape s method))) ∙ ap₂ (λ i s. option_map Kinds (first_type_fault i s)) (sym are) (sym same)

pub unit_judged : (s : Scope) (method : MethodRow) (shape : Shape) (own : OwnCode) (name code : List ℕ) (infos : List CalleeInfo) (is spelled : List Instr) → shape ≡ unit_shape s method
    → IsOwnCode s method own → AreCallees s.info (callee_keys s method) infos → name ≡ unit_name method → code ≡ spelled_code spelled → is ≡ own.instrs → spelled ≡ own.instrs
    → option_map Kinds (first_type_fault is shape) ≡ None → HasKinds shape is → (first_of (kind_tests s method) ≡ None) × HasParts s method (made_of shape own name code)
unit_judged s method shape own name code infos is spelled same of callees named code_is are spelled_are none kinds = (
  kind_fault s method shape is same (are ∙ of.instrs) ∙ none,
  has_parts s method shape own name code infos same of callees named (code_is ∙ ap spelled_code spelled_are) (subst (HasKinds shape) are kinds),
)

pub kinds_faulty : (s : Scope) (method : MethodRow) (shape : Shape) (own : OwnCode) (is : List Instr) (reason : Reason) → shape ≡ unit_shape s method → IsOwnCode s method own
    → is ≡ own.instrs → option_map Kinds (first_type_fault is shape) ≡ Some reason → first_of (kind_tests s method) ≡ Some reason
kinds_faulty s method shape own is reason same of are some = kind_fault s method shape is same (are ∙ of.instrs) ∙ some

-- A unit of these parts, whose tests are passed, is made.
pub made_judged : (s : Scope) (method : MethodRow) (unit : Result MethodUnit (Refusal Reason)) → HasSmallNumbers s.meaning → IsRowOf s.asm method → JudgesOrNoMemory unit (first_of (reason_tests s method)) (HasParts s method)
    → JudgesOrNoMemory unit (first_of (reason_tests s method)) (IsMade s method)
made_judged s method (Ok unit) small row judged = (judged.0, unit_made s method unit small row judged.1 judged.0)
made_judged s method (Err (Bad reason)) small row judged = judged
made_judged s method (Err NoMemory) small row judged = tt
