-- The contracts of which instructions of a well formed unit test clauses are those of well formed units.
use Rattle.std.proofs.Common.{◌≡◌, ℕ, zero, suc, ◌+◌, ◌≤◌, List, [], ◌∷◌, length, filter_map, slice_get, Option, Some, None, refl, sym, ap, subst, ◌∙◌, arith, inl, inr}
use Rattle.std.specs.List.{AllByRecursion}
use Rattle.std.specs.Option.{option_map_or}
use Rattle.std.proofs.lemmas.Option.{none-some, same_Some}
use Rattle.std.proofs.lemmas.List.Sums.{count_by-le-length, length-filter}
use Rattle.cil_model.specs.Clauses.{is_kind}
use Rattle.cil_model.specs.Limits.{MAX_CLAUSES, MAX_INSTRUCTIONS}
use Rattle.cil_model.specs.UnitCalls.{unit_call}
use Rattle.cil_model.specs.WellFormed.{InOrderOfUse, IsCallee, IsWellFormed, called_by}
use Rattle.cil_model.specs.declared.clause.Clause.{Clause}
use Rattle.cil_model.specs.declared.instruction.Instr.{Instr}
use Rattle.cil_model.specs.declared.instruction.Op.{Op}
use Rattle.cil_model.specs.declared.instruction.Op.TheVariants as ops
use Rattle.cil_model.specs.declared.unit.CalleeInfo.{CalleeInfo}
use Rattle.cil_model.specs.declared.unit.Unit.{Unit as MethodUnit}
use Rattle.cil_model.specs.declared.unit_numbers.UnitCall.{UnitCall}
use Rattle.cil_model.specs.declared.unit_numbers.UnitCall.TheVariants as calls
use Rattle.contract_calls.specs.Arguments.{put_args}
use Rattle.contract_calls.specs.CallForms.{CanCall, IsClauseOf}
use Rattle.contract_calls.proofs.AtCalls.{put_ready}
use Rattle.contract_calls.proofs.AtReturns.{result_ready}
use Rattle.contract_calls.proofs.MethodClauses.{callee_clauses}
use Rattle.contract_calls.proofs.WholeReturns.{own_clauses}
use Rattle.obligation_prover.specs.ClausesTested.{CanTest, IsClauseTested, IsContract, clauses_tested, contract_of, kind_tested, put_tested, tested_at_call, tested_by}
use Rattle.state_facts.specs.StateFacts.{State}
use Rattle.obligation_prover.specs.declared.tested.Tested.{Tested}
use Rattle.obligation_prover.specs.declared.tested.Tested.TheVariants as tests

-- ---- callees

ordered : (first all : ℕ) (numbers : List ℕ) → InOrderOfUse first all numbers → all ≤ first + length numbers
ordered first all [] is = omega (arith, is)
ordered first all (n ∷ ns) (inl known) = omega (arith, ordered first all ns known.1)
ordered first all (n ∷ ns) (inr next) = omega (arith, ordered (first + 1) all ns next.1)

few_called : (is : List Instr) → length (filter_map (λ i. called_by i.op) is) ≤ length is
few_called [] = omega arith
few_called (i ∷ is) = by (called_by i.op) refl (few_called is)
  where
    by : (o : Option ℕ) → called_by i.op ≡ o → length (filter_map (λ i. called_by i.op) is) ≤ length is
        → length (filter_map (λ i. called_by i.op) (i ∷ is)) ≤ length (i ∷ is)
    by None none few = rw none (omega (arith, few))
    by (Some n) some few = rw some (omega (arith, few))

pub few_callees : (unit : MethodUnit) → IsWellFormed unit → length unit.callees ≤ MAX_INSTRUCTIONS
few_callees unit formed =
    omega (
      arith,
      ordered 0 (length unit.callees) (filter_map (λ i. called_by i.op) unit.instrs) formed.order,
      few_called unit.instrs,
      formed.limits.instructions,
    )

pub of_item : {X : Type 0} (P : X → Type 0) (xs : List X) (n : ℕ) (x : X) → AllByRecursion P xs
    → slice_get xs n ≡ Some x → P x
of_item P [] n x all e = absurd (none-some x e)
of_item P (y ∷ xs) zero x all e = subst P (same_Some y x e) all.0
of_item P (y ∷ xs) (suc n) x all e = of_item P xs n x all.1 e

pub callee_formed : (unit : MethodUnit) (number : ℕ) (callee : CalleeInfo) → IsWellFormed unit
    → slice_get unit.callees number ≡ Some callee → IsCallee callee
callee_formed unit number callee formed is = of_item IsCallee unit.callees number callee formed.callees is

-- ---- contracts

one_callee : (unit : MethodUnit) (number : ℕ) (callee : CalleeInfo) (clause : Clause)
    → slice_get unit.callees number ≡ Some callee → IsClauseOf callee.args callee.result clause
    → IsClauseTested unit (tests.Callee number) clause
one_callee unit number callee clause there is = λ other at.
    subst (λ (c : CalleeInfo). IsClauseOf c.args c.result clause) (same_Some callee other (sym there ∙ at)) is

each_callee : (unit : MethodUnit) (number : ℕ) (callee : CalleeInfo) (clauses : List Clause)
    → slice_get unit.callees number ≡ Some callee → AllByRecursion (IsClauseOf callee.args callee.result) clauses
    → AllByRecursion (IsClauseTested unit (tests.Callee number)) clauses
each_callee unit number callee [] there all = tt
each_callee unit number callee (clause ∷ clauses) there all =
    (one_callee unit number callee clause there all.0, each_callee unit number callee clauses there all.1)

callee_contract : (unit : MethodUnit) (number : ℕ) (callee : CalleeInfo) → slice_get unit.callees number ≡ Some callee
    → IsCallee callee → IsContract unit (tests.Callee number)
callee_contract unit number callee there formed =
    let same : contract_of unit (tests.Callee number) ≡ callee.clauses =
    ap (λ (o : Option CalleeInfo). option_map_or (λ c. c.clauses) o []) there in
    record {
      few = subst (λ (cs : List Clause). length cs ≤ MAX_CLAUSES) (sym same) formed.clauses.count;
      clauses = subst (AllByRecursion (IsClauseTested unit (tests.Callee number))) (sym same)
          (each_callee unit number callee callee.clauses there (callee_clauses callee formed));
    }

no_contract : (unit : MethodUnit) → IsContract unit tests.Nothing
no_contract unit = record { few = omega arith; clauses = tt }

own_contract : (unit : MethodUnit) → IsWellFormed unit → IsContract unit tests.Own
own_contract unit formed = record {
  few = formed.limits.clauses.count;
  clauses = own_clauses unit formed;
}

call_contract : (unit : MethodUnit) (call : Option UnitCall) → IsWellFormed unit
    → IsContract unit (tested_at_call unit call)
call_contract unit (Some (calls.Callee number)) formed = by (slice_get unit.callees number) refl
  where
    by : (o : Option CalleeInfo) → slice_get unit.callees number ≡ o
        → IsContract unit (option_map_or (λ callee. tests.Callee number) o tests.Nothing)
    by None is = no_contract unit
    by (Some callee) is = callee_contract unit number callee is (callee_formed unit number callee formed is)
call_contract unit _ formed = no_contract unit

pub contract_formed : (unit : MethodUnit) (op : Op) → IsWellFormed unit → IsContract unit (tested_by unit op)
contract_formed unit (ops.Call number) formed = call_contract unit (unit_call number) formed
contract_formed unit ops.Return formed = own_contract unit formed
contract_formed unit _ formed = no_contract unit

-- No more clauses are tested than a method may have.
pub few_tested : (unit : MethodUnit) (op : Op) → IsWellFormed unit
    → length (clauses_tested unit (tested_by unit op)) ≤ MAX_CLAUSES
few_tested unit op formed =
    let test = tested_by unit op in
    omega (
      arith,
      (contract_formed unit op formed).few,
      length-filter (λ (clause : Clause). is_kind (kind_tested test) clause.kind) (contract_of unit test),
      count_by-le-length (λ (clause : Clause). is_kind (kind_tested test) clause.kind) (contract_of unit test),
    )

-- ---- states

-- The clauses can be judged where what they read is put into its places.
pub put_can : (unit : MethodUnit) (test : Tested) (state : State) → CanTest unit test state
    → CanTest unit test (put_tested unit test state)
put_can unit tests.Nothing state can = tt
put_can unit (tests.Callee number) state can = λ callee there.
    subst (CanCall callee)
    (sym (ap (λ (o : Option CalleeInfo). option_map_or (λ c. put_args c.args state) o state) there))
    (put_ready callee state (can callee there))
put_can unit tests.Own state can = result_ready unit state can

pub all_tests : (unit : MethodUnit) (test : Tested) → IsContract unit test
    → AllByRecursion (IsClauseTested unit test) (contract_of unit test)
all_tests unit test contract = contract.clauses

pub ruleset putting = (put_can, all_tests)
