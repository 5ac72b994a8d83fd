-- What is read of code, and what callers know of its method.
use Rattle.std.proofs.Common.{◌≡◌, ℕ, Bool, true, false, List, [], ◌∷◌, map, filter_map, Option, Some, None, Result, Ok, Err, IfOk, refl, sym, ap, ap₂, subst, ◌∙◌}
use Rattle.std.specs.Prelude.{◌&&◌, is_none, if◌then◌else◌}
use Rattle.std.specs.List.{list_all}
use Rattle.std.specs.Option.{option_map_or, option_and_then}
use Rattle.asm_image.specs.declared.method_row.MethodRow.{MethodRow}
use Rattle.cc_base.specs.Tests.{Judges}
use Rattle.cil_model.specs.ClauseTrees.{clauses_in}
use Rattle.cil_model.specs.Bodies.{HasBody}
use Rattle.cil_model.specs.WellFormed.{ClausesWithinLimits, told_by_code}
use Rattle.cil_model.specs.declared.clause.Clause.{Clause}
use Rattle.cil_model.specs.declared.instruction.Instr.{Instr}
use Rattle.cil_model.specs.declared.shape.Shape.{Shape}
use Rattle.cil_model.proofs.Rows.{code_is_decoded}
use Rattle.clause_faults.specs.Faults.{first_clause_fault}
use Rattle.clause_faults.specs.declared.clause_fault.ClauseFault.{ClauseFault}
use Rattle.contract_extract.specs.Extracting.{AreContracts}
use Rattle.contract_extract.specs.declared.contracts.Contracts.{Contracts}
use Rattle.contract_extract.proofs.TreeLemmas.AllNumbers.{all_numbers}
use Rattle.contract_extract.proofs.BlockLemmas.BodyRuns.{body_runs}
use Rattle.il_decoder.specs.Decoding.{instructions_of}
use Rattle.il_decoder.specs.declared.fault.IlFault.{IlFault}
use Rattle.method_unit.specs.UnitFile.{clause_told}
use Rattle.method_code.specs.Called.{callees_of}
use Rattle.method_code.specs.Meanings.{Meaning}
use Rattle.method_code.specs.Numbering.{numbered, spelled_code}
use Rattle.method_code.specs.OfMethods.{HasSignature, bare_shape, clauses_of, decoded_instrs, instrs_of, is_number_clause, known_clauses, told_clauses}
use Rattle.method_code.specs.Reading.{AreContractsOf, AreDecodedAs, IsCodeOf, IsReadOf}
use Rattle.method_code.specs.declared.code_reader.MethodCode.{MethodCode}
use Rattle.method_code.proofs.BareShapes.{bare_faults}

-- ---- what is read

-- The contracts of the bare shape are those of every shape of the method.
contracts_of : (method : MethodRow) (code : List ℕ) (is : List Instr) (contracts : Contracts) → AreDecodedAs code is → first_clause_fault is (bare_shape method) ≡ None
    → AreContracts is contracts.clauses contracts.body_start → ClausesWithinLimits contracts.clauses → AreContractsOf method is contracts
contracts_of method code is contracts decoded none told limits =
    let operands = code_is_decoded is (spelled_code is) decoded.spelled in
    let faultless : (shape : Shape) → HasSignature method shape → first_clause_fault is shape ≡ None =
    λ shape has. bare_faults is shape (bare_shape method) has.result has.args ∙ none in
    record {
      told = told;
      limits = limits;
      numbers = λ shape stacks has kinds. all_numbers is shape stacks decoded.short operands kinds (faultless shape has) contracts.clauses told.told;
      body = λ shape stacks has kinds.
          subst (λ (n : ℕ). HasBody is stacks n) (sym told.body) (body_runs is shape stacks decoded.short operands kinds (faultless shape has));
    }

judged_of : (method : MethodRow) (code : List ℕ) (is : List Instr) (contracts : Result Contracts ClauseFault) → AreDecodedAs code is
    → Judges contracts (first_clause_fault is (bare_shape method)) (λ found. AreContracts is found.clauses found.body_start)
    → IfOk contracts (λ found. ClausesWithinLimits found.clauses)
    → Judges contracts (first_clause_fault is (bare_shape method)) (AreContractsOf method is)
judged_of method code is (Ok found) decoded judged limits = (judged.0, contracts_of method code is found decoded judged.0 judged.1 limits)
judged_of method code is (Err fault) decoded judged limits = judged

-- What is read of code whose numbered instructions are these.
pub code_read : (meaning : Meaning) (method : MethodRow) (code : List ℕ) (is : List Instr) (shape : Shape) (read : MethodCode) → AreDecodedAs code is
    → is ≡ numbered meaning (instructions_of code) → read.instrs ≡ is → shape ≡ bare_shape method → read.callees ≡ callees_of meaning (instructions_of code)
    → Judges read.contracts (first_clause_fault is shape) (λ found. AreContracts is found.clauses found.body_start)
    → IfOk read.contracts (λ found. ClausesWithinLimits found.clauses)
    → IfOk read.contracts (λ found. read.are_numbers ≡ list_all (is_number_clause shape) found.clauses)
    → IsReadOf meaning method code read
code_read meaning method code is shape read decoded numbers kept bare callees judged limits are_numbers =
    let here : AreDecodedAs code read.instrs = subst (AreDecodedAs code) (sym kept) decoded in
    let at_shape : Judges read.contracts (first_clause_fault is (bare_shape method)) (λ found. AreContracts is found.clauses found.body_start) =
    subst (λ s. Judges read.contracts (first_clause_fault is s) (λ found. AreContracts is found.clauses found.body_start)) bare judged in
    record {
      instrs = kept ∙ numbers;
      callees = callees;
      decoded = here;
      contracts = judged_of method code read.instrs read.contracts here
          (subst (λ js. Judges read.contracts (first_clause_fault js (bare_shape method)) (λ found. AreContracts js found.clauses found.body_start)) (sym kept) at_shape) limits;
      are_numbers = subst (λ s. IfOk read.contracts (λ found. read.are_numbers ≡ list_all (is_number_clause s) found.clauses)) bare are_numbers;
    }

-- ---- what callers know

told_again : (clauses : List Clause) → filter_map clause_told (map told_by_code clauses) ≡ clauses
told_again [] = refl
told_again (clause ∷ clauses) = ap (λ rest. clause ∷ rest) (told_again clauses)

-- What callers know of the method is what they know of its instructions.
known_of : (meaning : Meaning) (asm : List ℕ) (method : MethodRow) (read : MethodCode) → IsCodeOf meaning asm method read → clauses_of meaning asm method ≡ known_clauses (bare_shape method) read.instrs
unfolding clauses_of instrs_of
known_of meaning asm method read of =
    ap (λ (code : Option (List ℕ)). option_map_or (known_clauses (bare_shape method)) (option_and_then (decoded_instrs meaning) code) []) of.own
    ∙ ap (λ (fault : Option IlFault). option_map_or (known_clauses (bare_shape method)) (if is_none fault then Some (numbered meaning (instructions_of of.code)) else None) []) of.faultless
    ∙ ap (known_clauses (bare_shape method)) (sym of.read_of.instrs)

-- The clauses that were read, where each is a number.
abbrev pub clauses_if : Result Contracts ClauseFault → Bool → List Clause
clauses_if (Ok found) true = found.clauses
clauses_if _ _ = []

known_if : (shape : Shape) (is : List Instr) (contracts : Result Contracts ClauseFault) (are_numbers : Bool)
    → Judges contracts (first_clause_fault is shape) (λ found. clauses_in is ≡ map told_by_code found.clauses)
    → IfOk contracts (λ found. are_numbers ≡ list_all (is_number_clause shape) found.clauses)
    → known_clauses shape is ≡ clauses_if contracts are_numbers
known_if shape is (Err fault) are_numbers judged numbers =
    ap (λ (first : Option ClauseFault). if is_none first && list_all (is_number_clause shape) (told_clauses is) then told_clauses is else []) judged
known_if shape is (Ok found) are_numbers judged numbers =
    let told : told_clauses is ≡ found.clauses = ap (filter_map clause_told) judged.1 ∙ told_again found.clauses in
    ap₂ (λ (first : Option ClauseFault) (clauses : List Clause). if is_none first && list_all (is_number_clause shape) clauses then clauses else []) judged.0 told
    ∙ ap (λ (b : Bool). if b then found.clauses else []) (sym numbers)
    ∙ by are_numbers
  where
    by : (b : Bool) → (if b then found.clauses else []) ≡ clauses_if (Ok found) b
    by true = refl
    by false = refl

told_of : (method : MethodRow) (is : List Instr) (first : Option ClauseFault) (contracts : Result Contracts ClauseFault) → Judges contracts first (AreContractsOf method is)
    → Judges contracts first (λ found. clauses_in is ≡ map told_by_code found.clauses)
told_of method is first (Ok found) judged = (judged.0, judged.1.told.told)
told_of method is first (Err fault) judged = judged

pub clauses_known : (meaning : Meaning) (asm : List ℕ) (method : MethodRow) (read : MethodCode) → IsCodeOf meaning asm method read → clauses_if read.contracts read.are_numbers ≡ clauses_of meaning asm method
clauses_known meaning asm method read of =
    sym (known_of meaning asm method read of
    ∙ known_if (bare_shape method) read.instrs read.contracts read.are_numbers
    (told_of method read.instrs (first_clause_fault read.instrs (bare_shape method)) read.contracts of.read_of.contracts) of.read_of.are_numbers)
