-- Where each clause that an instruction tests is shown in turn, it finds none false.
use Rattle.std.proofs.Common.{◌≡◌, ℕ, true, false, List, [], ◌∷◌, Option, Some, None, slice_get, sym, ap, subst, inl, inr}
use Rattle.std.specs.List.{list_all}
use Rattle.std.specs.Option.{ForSome, option_map_or}
use Rattle.std.proofs.lemmas.Bool.{and_parts}
use Rattle.std.proofs.lemmas.Option.{none-some}
use Rattle.cil_model.specs.Calls.{FreeCall, FreelyCalled, Returned, clauses_in_force, ensures_fault}
use Rattle.cil_model.specs.Clauses.{clauses_of, false_requires}
use Rattle.cil_model.specs.Runs.{CallsBy, EffectRow, Row}
use Rattle.cil_model.specs.UnitCalls.{unit_call}
use Rattle.cil_model.specs.WellFormed.{IsWellFormed}
use Rattle.cil_model.specs.declared.clause.Clause.{Clause}
use Rattle.cil_model.specs.declared.clause.ClauseKind.TheVariants as kinds
use Rattle.cil_model.specs.declared.instruction.Instr.{Instr}
use Rattle.cil_model.specs.declared.instruction.Op.{Op}
use Rattle.cil_model.specs.declared.instruction.Op.TheVariants as ops
use Rattle.cil_model.specs.declared.machine.Config.{Config}
use Rattle.cil_model.specs.declared.machine.Config.TheVariants as configs
use Rattle.cil_model.specs.declared.machine.FaultKind.{FaultKind}
use Rattle.cil_model.specs.declared.machine.Value.{Value}
use Rattle.cil_model.specs.declared.unit.CalleeInfo.{CalleeInfo}
use Rattle.cil_model.specs.declared.unit.Unit.{Unit as MethodUnit}
use Rattle.cil_model.specs.declared.unit_numbers.UnitCall.{UnitCall}
use Rattle.cil_model.specs.declared.unit_numbers.UnitCall.TheVariants as calls
use Rattle.contract_calls.specs.Arguments.{put_args, put_result}
use Rattle.contract_calls.specs.CallForms.{CanReturn}
use Rattle.contract_calls.specs.CallStates.{requires_assumed, requires_shown}
use Rattle.contract_calls.specs.Meaning.{AreEnsured, AreRequired, Returns}
use Rattle.contract_calls.proofs.Assuming.{of_kind}
use Rattle.contract_calls.proofs.AtCalls.{none_false, put_ready}
use Rattle.contract_calls.proofs.AtReturns.{no_ensures_false, result_keeps, result_ready}
use Rattle.contract_calls.proofs.MethodClauses.{callee_clauses}
use Rattle.contract_calls.proofs.PassedArguments.{args_keep}
use Rattle.machine_points.specs.Points.{IsPointOf}
use Rattle.machine_points.specs.declared.point.Point.{Point}
use Rattle.state_facts.specs.Forms.{HasForm}
use Rattle.state_facts.specs.Holds.{HoldsAt}
use Rattle.state_facts.specs.StateFacts.{StateFacts, State}
use Rattle.obligation_prover.specs.Faults.{is_of_clause}
use Rattle.obligation_prover.specs.Meaning.{FindsNoneFalse}
use Rattle.obligation_prover.specs.ClausesTested.{CanTest, IsContract, clauses_shown, clauses_tested, put_tested, shown_in_turn, tested_at_call, tested_by}
use Rattle.obligation_prover.specs.declared.tested.Tested.{Tested}
use Rattle.obligation_prover.specs.declared.tested.Tested.TheVariants as tests
use Rattle.obligation_prover.proofs.Contracts.{callee_formed, contract_formed}
use Rattle.obligation_prover.proofs.Plain.{row_plain}

-- ---- in turn

are_required : (unit : MethodUnit) (number : ℕ) (callee : CalleeInfo) (clauses : List Clause) (state : State)
    → slice_get unit.callees number ≡ Some callee
    → list_all (λ b. b) (shown_in_turn unit (tests.Callee number) clauses state) ≡ true → AreRequired callee clauses state
are_required unit number callee [] state there shown = tt
are_required unit number callee (clause ∷ clauses) state there shown =
    let parts = and_parts _ _ shown in
    let test = tests.Callee number in (
      subst (λ (o : Option CalleeInfo). option_map_or (λ c. requires_shown c clause state) o false ≡ true) there parts.0,
      are_required unit number callee clauses (requires_assumed callee clause state) there
          (subst (λ (s : State). list_all (λ b. b) (shown_in_turn unit test clauses s) ≡ true)
          (ap (λ (o : Option CalleeInfo). option_map_or (λ c. requires_assumed c clause state) o state) there) parts.1),
    )

are_ensured : (unit : MethodUnit) (clauses : List Clause) (state : State)
    → list_all (λ b. b) (shown_in_turn unit tests.Own clauses state) ≡ true → AreEnsured unit clauses state
are_ensured unit [] state shown = tt
are_ensured unit (clause ∷ clauses) state shown =
    let parts = and_parts _ _ shown in (parts.0, are_ensured unit clauses _ parts.1)

pub form_of : {P : StateFacts → Type 0} (state : State) → ForSome state P → ((known : StateFacts) → P known → HasForm known)
    → ForSome state HasForm
form_of state all so = λ known is. so known (all known is)

-- ---- rows

module _ (unit : MethodUnit) (state : State) (i : Instr) (p : Point) (kind : FaultKind) (index at : ℕ)
    (formed : IsWellFormed unit) (point : IsPointOf unit p) (holds : HoldsAt state p) where
  abbrev end : Config
  end = configs.Fault kind index at

  abbrev AllShown : Tested → Type 0
  AllShown test =
      list_all (λ b. b) (shown_in_turn unit test (clauses_tested unit test) (put_tested unit test state)) ≡ true

  by_effect : EffectRow [] unit i p.frame p.heap end → is_of_clause kind ≡ false
  by_effect row = row_plain unit i p.frame p.heap kind index at row

  -- ---- a call of a callee

  comes_back : (callee : CalleeInfo) (args : List Value) (fault : Option ℕ) → fault ≡ None
      → FreelyCalled callee args i p.frame p.heap fault end → is_of_clause kind ≡ false
  comes_back callee args (Some n) none freely = absurd (none-some n (sym none))
  comes_back callee args None none (inl is) = absurd cc
  comes_back callee args None none (inr (after, result, free, to)) = absurd cc

  calls_one : (number : ℕ) → CanTest unit (tests.Callee number) state → AllShown (tests.Callee number)
      → (row : FreeCall unit number i p.frame p.heap end) → is_of_clause kind ≡ false
  calls_one number ready shown row =
      let callee = row.callee in
      let there = row.callee_is in
      let can = ready callee there in
      let put = put_args callee.args state in
      let clauses = clauses_of kinds.Requires callee.clauses in
      let told : list_all (λ b. b) (shown_in_turn unit (tests.Callee number) clauses put) ≡ true =
      subst (λ (o : Option CalleeInfo). list_all (λ b. b) (shown_in_turn unit (tests.Callee number)
      (clauses_of kinds.Requires (option_map_or (λ c. c.clauses) o []))
      (option_map_or (λ c. put_args c.args state) o state)) ≡ true) there shown in
      let form = form_of state can.readable (λ known is. is.form) in
      let none : false_requires callee.clauses row.args p.heap ≡ None =
      none_false callee clauses 1 put p row.args (put_ready callee state can)
      (of_kind callee.args callee.result kinds.Requires callee.clauses
      (callee_clauses callee (callee_formed unit number callee formed there)))
      (are_required unit number callee clauses put there told) row.args_are
      (args_keep callee.args state form p row.args row.args_are holds) in
      comes_back callee row.args (false_requires callee.clauses row.args p.heap) none row.freely

  by_call : (call : Option UnitCall) → CanTest unit (tested_at_call unit call) state
      → AllShown (tested_at_call unit call) → CallsBy (FreeCall unit) call [] unit i p.frame p.heap end
      → is_of_clause kind ≡ false
  by_call (Some (calls.Callee number)) ready shown row =
      found (slice_get unit.callees number) row.callee_is ready shown
    where
      found : (o : Option CalleeInfo) → o ≡ Some row.callee
          → CanTest unit (option_map_or (λ callee. tests.Callee number) o tests.Nothing) state
          → AllShown (option_map_or (λ callee. tests.Callee number) o tests.Nothing) → is_of_clause kind ≡ false
      found None is ready shown = absurd (none-some row.callee is)
      found (Some callee) is ready shown = calls_one number ready shown row
  by_call _ ready shown row = by_effect row

  -- ---- a return

  goes_back : (result : Option Value) (fault : Option ℕ) → fault ≡ None
      → Returned [] i p.frame p.heap result fault end → is_of_clause kind ≡ false
  goes_back result (Some n) none returned = absurd (none-some n (sym none))
  goes_back result None none (inl ends) = let to = ends.1 in absurd cc
  goes_back result None none (inr (outer, caller, are, to)) = absurd cc

  returns : CanReturn unit state → AllShown tests.Own → IsContract unit tests.Own → (result : Option Value)
      → Returns unit p result → Returned [] i p.frame p.heap result (ensures_fault unit p.frame p.heap result) end
      → is_of_clause kind ≡ false
  returns ready shown contract result gives returned =
      let put = put_result unit.result state in
      let clauses = clauses_of kinds.Ensures (clauses_in_force unit) in
      let form = form_of state ready.readable (λ known is. is.form) in
      let none : ensures_fault unit p.frame p.heap result ≡ None =
      no_ensures_false unit clauses 1 put p result (result_ready unit state ready)
      (of_kind unit.args unit.result kinds.Ensures unit.clauses contract.clauses) (are_ensured unit clauses put shown)
      gives (result_keeps unit.result state form p result gives.result_is holds) in
      goes_back result (ensures_fault unit p.frame p.heap result) none returned

  -- ---- any instruction

  by_row : (op : Op) → CanTest unit (tested_by unit op) state → AllShown (tested_by unit op)
      → IsContract unit (tested_by unit op)
      → Row (FreeCall unit) op [] unit i p.frame p.heap end → is_of_clause kind ≡ false
  by_row (ops.Call number) ready shown contract row = by_call (unit_call number) ready shown row
  by_row ops.Return ready shown contract (result, is, returned) =
      returns ready shown contract result (record { args_fit = point.frame.entry_args; result_is = is }) returned
  by_row _ ready shown contract row = by_effect row

-- From the state before the instruction.
pub finds_none : (unit : MethodUnit) (op : Op) (state : State) → IsWellFormed unit
    → CanTest unit (tested_by unit op) state → list_all (λ b. b) (clauses_shown unit op state) ≡ true
    → FindsNoneFalse unit op state
finds_none unit op state formed ready shown = λ i p kind index at same point holds row.
    by_row unit state i p kind index at formed point holds op ready shown (contract_formed unit op formed)
    (subst (λ (o : Op). Row (FreeCall unit) o [] unit i p.frame p.heap (configs.Fault kind index at)) same row)
