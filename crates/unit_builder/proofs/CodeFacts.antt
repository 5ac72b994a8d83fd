-- What the code of a method tells of its unit.
use Rattle.std.proofs.Common.{◌≡◌, ℕ, List, [], map, refl, sym, ap, ap₂, subst, ◌∙◌}
use Rattle.std.specs.Prelude.{Option, Some, None, Result, Ok, Err, option_map, unwrap_or}
use Rattle.asm_image.specs.declared.method_row.MethodRow.{MethodRow}
use Rattle.cc_base.specs.Tests.{first_of, Judges}
use Rattle.cc_base.proofs.TestLemmas.{first_of-none}
use Rattle.cil_model.specs.ShortCode.{AreOfShortCode}
use Rattle.cil_model.specs.declared.instruction.Instr.{Instr}
use Rattle.clause_faults.specs.Faults.{first_clause_fault}
use Rattle.clause_faults.specs.declared.clause_fault.ClauseFault.{ClauseFault}
use Rattle.contract_extract.specs.declared.contracts.Contracts.{Contracts}
use Rattle.il_decoder.specs.Decoding.{instructions_of}
use Rattle.method_code.proofs.BareShapes.{bare_faults}
use Rattle.method_code.specs.Called.{callees_of}
use Rattle.method_code.specs.Numbering.{numbered}
use Rattle.method_code.specs.OfMethods.{bare_shape, code_of}
use Rattle.method_code.specs.Reading.{AreContractsOf, AreDecodedAs}
use Rattle.method_code.specs.declared.code_reader.MethodCode.{MethodCode}
use Rattle.unit_builder.specs.Scopes.{Scope}
use Rattle.unit_builder.specs.Bodies.{callee_keys, code_told, decoded_instrs, il_fault, unit_instrs}
use Rattle.unit_builder.specs.Making.{IsOwnCode}
use Rattle.unit_builder.specs.Reasons.{code_tests, own_tests, unit_shape}
use Rattle.unit_builder.specs.Slots.{IsWhole}
use Rattle.unit_builder.specs.declared.reason.Reason.{Reason}
use Rattle.unit_builder.specs.declared.reason.Reason.TheVariants.{Clauses, Code}
use Rattle.unit_builder.specs.declared.own_code.OwnCode.{OwnCode}

-- The code that was read is that of the unit.
pub record IsUnitCode (s : Scope) (method : MethodRow) (code : MethodCode) : Type 0 where
  pub instrs : code.instrs ≡ unit_instrs s method
  pub callees : code.callees ≡ callee_keys s method
  pub decoded : AreDecodedAs (code_told s.asm method) (unit_instrs s method)
  pub contracts : Judges code.contracts (first_clause_fault (unit_instrs s method) (unit_shape s method)) (AreContractsOf method (unit_instrs s method))

same_fault : (s : Scope) (method : MethodRow) (is : List Instr) → first_clause_fault is (bare_shape method) ≡ first_clause_fault is (unit_shape s method)
unfolding unit_shape
same_fault s method is = bare_faults is (bare_shape method) (unit_shape s method) refl refl

pub whole_told : (s : Scope) (method : MethodRow) (code : MethodCode) → IsWhole s method code → IsUnitCode s method code
unfolding unit_instrs callee_keys decoded_instrs code_told
whole_told s method code whole =
    let of = whole.code_is in
    let same : unwrap_or (code_of s.asm method) [] ≡ of.code = ap (λ (found : Option (List ℕ)). unwrap_or found []) of.own in
    let instrs : code.instrs ≡ unit_instrs s method = of.read_of.instrs ∙ ap (λ (c : List ℕ). numbered s.meaning (instructions_of c)) (sym same) in
    record {
      instrs = instrs;
      callees = of.read_of.callees ∙ ap (λ (c : List ℕ). callees_of s.meaning (instructions_of c)) (sym same);
      decoded = subst (λ (c : List ℕ). AreDecodedAs c (unit_instrs s method)) (sym same) (subst (AreDecodedAs of.code) instrs of.read_of.decoded);
      contracts =
          subst (λ (fault : Option ClauseFault). Judges code.contracts fault (AreContractsOf method (unit_instrs s method))) (same_fault s method (unit_instrs s method))
          (subst (λ (is : List Instr). Judges code.contracts (first_clause_fault is (bare_shape method)) (AreContractsOf method is)) instrs of.read_of.contracts);
    }

pub read_told : (fault : Option ClauseFault) (read : Result Contracts ClauseFault) (P : Contracts → Type 0) (contracts : Contracts) → Judges read fault P → read ≡ Ok contracts
    → (option_map Clauses fault ≡ None) × P contracts
read_told fault read P contracts judged is = let both = rw is at judged in (ap (option_map Clauses) both.0, both.1)

pub read_faulty : (first : Option ClauseFault) (read : Result Contracts ClauseFault) (P : Contracts → Type 0) (fault : ClauseFault) → Judges read first P → read ≡ Err fault
    → option_map Clauses first ≡ Some (Clauses fault)
read_faulty first read P fault judged is = ap (option_map Clauses) (rw is at judged)

-- What the code says of itself, as its tests ask for it.
pub code_judged : (s : Scope) (method : MethodRow) (code : MethodCode) → IsWhole s method code
    → Judges code.contracts (first_clause_fault code.instrs (unit_shape s method)) (AreContractsOf method code.instrs)
code_judged s method code whole =
    let of = whole_told s method code whole in
    subst (λ (is : List Instr). Judges code.contracts (first_clause_fault is (unit_shape s method)) (AreContractsOf method is)) (sym of.instrs) of.contracts

pub code_lies : (s : Scope) (method : MethodRow) (code : MethodCode) → IsWhole s method code → AreOfShortCode code.instrs
code_lies s method code whole = let of = whole_told s method code whole in subst AreOfShortCode (sym of.instrs) of.decoded.short

-- The tests of the code are those of the unit.
pub same_tests : (s : Scope) (method : MethodRow) (code : MethodCode) → IsWhole s method code
    → code_tests s (unit_shape s method) code.callees code.instrs ≡ code_tests s (unit_shape s method) (callee_keys s method) (unit_instrs s method)
same_tests s method code whole = let of = whole_told s method code whole in ap₂ (code_tests s (unit_shape s method)) of.callees of.instrs

-- What was taken out of code whose tests are passed is the unit's own.
pub own_is : (s : Scope) (method : MethodRow) (code : MethodCode) (own : OwnCode) → IsWhole s method code
    → first_of (code_tests s (unit_shape s method) code.callees code.instrs) ≡ None → AreContractsOf method code.instrs own.contracts
    → own.instrs ≡ code.instrs → own.callees.items ≡ code.callees
    → (first_of (own_tests s method) ≡ None) × IsOwnCode s method own
unfolding own_tests
own_is s method code own whole none contracts instrs callees =
    let of = whole_told s method code whole in (
      first_of-none (option_map Code (il_fault s.asm method)) _ (ap (option_map Code) whole.faultless) ∙ (sym (ap first_of (same_tests s method code whole)) ∙ none),
      record {
        instrs = instrs ∙ of.instrs;
        callees = callees ∙ of.callees;
        decoded = of.decoded;
        contracts = subst (λ (is : List Instr). AreContractsOf method is own.contracts) of.instrs contracts;
      },
    )

-- The fault of its tests is the first of the unit's.
pub own_fault : (s : Scope) (method : MethodRow) (code : MethodCode) (reason : Reason) → IsWhole s method code
    → first_of (code_tests s (unit_shape s method) code.callees code.instrs) ≡ Some reason
    → first_of (own_tests s method) ≡ Some reason
unfolding own_tests
own_fault s method code reason whole some =
    first_of-none (option_map Code (il_fault s.asm method)) _ (ap (option_map Code) whole.faultless) ∙ (sym (ap first_of (same_tests s method code whole)) ∙ some)
