-- What is said of an obligation of a clause: where it is entailed, the clause is not found false.
use Rattle.std.proofs.Common.{◌≡◌, ℕ, zero, suc, ◌+◌, Bool, true, false, List, [], ◌∷◌, Option, Some, None, slice_get, refl, sym, ap, subst, ◌∙◌, inl, inr, arith}
use Rattle.std.specs.Prelude.{Result, Ok, Err, IfOk}
use Rattle.std.specs.List.{AllByRecursion}
use Rattle.std.specs.Option.{ForSome, option_map_or}
use Rattle.std.proofs.lemmas.Bool.{cond_both, false≢true, true≢false}
use Rattle.std.proofs.lemmas.Option.{none-some, same_Some}
use Rattle.cil_model.specs.Calls.{FreeCall, FreelyCalled, Returned, clauses_in_force, ensures_fault}
use Rattle.cil_model.specs.Clauses.{Reading, clause_holds, clauses_of, false_requires, first_false, is_kind}
use Rattle.cil_model.specs.Runs.{CallsBy, EffectRow, Row, instr_at}
use Rattle.cil_model.specs.UnitCalls.{unit_call}
use Rattle.cil_model.specs.WellFormed.{IsWellFormed}
use Rattle.cil_model.specs.declared.clause.Clause.{Clause}
use Rattle.cil_model.specs.declared.clause.ClauseKind.{ClauseKind}
use Rattle.cil_model.specs.declared.clause.ClauseKind.TheVariants as kinds
use Rattle.cil_model.specs.declared.instruction.Instr.{Instr}
use Rattle.cil_model.specs.declared.instruction.Op.{Op}
use Rattle.cil_model.specs.declared.instruction.Op.TheVariants as ops
use Rattle.cil_model.specs.declared.machine.Config.{Config}
use Rattle.cil_model.specs.declared.machine.Config.TheVariants as configs
use Rattle.cil_model.specs.declared.machine.FaultKind.{FaultKind}
use Rattle.cil_model.specs.declared.machine.FaultKind.TheVariants as faults
use Rattle.cil_model.specs.declared.machine.Obligation.{Obligation}
use Rattle.cil_model.specs.declared.machine.Value.{Value}
use Rattle.cil_model.specs.declared.unit.CalleeInfo.{CalleeInfo}
use Rattle.cil_model.specs.declared.unit.Unit.{Unit as MethodUnit}
use Rattle.cil_model.specs.declared.unit_numbers.UnitCall.{UnitCall}
use Rattle.cil_model.specs.declared.unit_numbers.UnitCall.TheVariants as calls
use Rattle.contract_calls.specs.Arguments.{put_args, put_result}
use Rattle.contract_calls.specs.CallForms.{CanReturn}
use Rattle.contract_calls.specs.CallStates.{numbered, requires_assumed, requires_shown}
use Rattle.contract_calls.specs.Meaning.{Returns, passing, reading_at_call, reading_at_return}
use Rattle.contract_calls.proofs.AtCalls.{assumed_at_call, put_ready, shown_at_call}
use Rattle.contract_calls.proofs.AtReturns.{assumed_at_return, result_keeps, result_ready, shown_at_return}
use Rattle.contract_calls.proofs.PassedArguments.{args_keep}
use Rattle.machine_points.specs.Points.{IsPointOf}
use Rattle.machine_points.specs.declared.point.Point.{Point}
use Rattle.state_facts.specs.Holds.{HoldsAt}
use Rattle.state_facts.specs.StateFacts.{State}
use Rattle.obligation_prover.specs.ByObligation.{AssumesAt, AssumesClause, AssumesIt, CanJudge, EndsNotIn, RulesItOut, clause_entailed, clause_met, clause_of_fault}
use Rattle.obligation_prover.specs.ClausesTested.{CanTest, IsClauseTested, IsContract, clause_assumed, clause_shown, clauses_tested, contract_of, kind_tested, put_tested, tested_at_call, tested_by}
use Rattle.obligation_prover.specs.Faults.{is_of_clause}
use Rattle.obligation_prover.specs.Meaning.{AssumesNoFault, RulesOut}
use Rattle.obligation_prover.specs.declared.tested.Tested.{Tested}
use Rattle.obligation_prover.specs.declared.tested.Tested.TheVariants as tests
use Rattle.obligation_prover.proofs.Complete.{effect_of_step}
use Rattle.obligation_prover.proofs.Contracts.{contract_formed}
use Rattle.obligation_prover.proofs.EachListed.{in_range}
use Rattle.obligation_prover.proofs.NoneFalse.{form_of}
use Rattle.obligation_prover.proofs.Plain.{row_plain}

-- ---- clauses by their numbers

of_kind : (P : Clause → Type 0) (kind : ClauseKind) (clauses : List Clause) → AllByRecursion P clauses
    → AllByRecursion P (clauses_of kind clauses)
of_kind P kind [] all = tt
of_kind P kind (clause ∷ clauses) all =
    cond_both (is_kind kind clause.kind) _ _ (AllByRecursion P) (λ this. (all.0, of_kind P kind clauses all.1))
    (λ other. of_kind P kind clauses all.1)

of_number : (P : Clause → Type 0) (clauses : List Clause) (n : ℕ) (clause : Clause) → AllByRecursion P clauses
    → numbered clauses n ≡ Some clause → P clause
unfolding numbered
of_number P clauses zero clause all is = absurd (none-some clause is)
of_number P clauses (suc n) clause all is = at clauses n all is
  where
    at : (cs : List Clause) (n : ℕ) → AllByRecursion P cs → slice_get cs n ≡ Some clause → P clause
    at [] n all is = absurd (none-some clause is)
    at (c ∷ cs) zero all is = subst P (same_Some c clause is) all.0
    at (c ∷ cs) (suc n) all is = at cs n all.1 is

-- The clause of the number that is found is not true.
false_at : (n j : ℕ) (r : Reading) (clauses : List Clause) (clause : Clause) → first_false n r clauses ≡ Some (n + j)
    → slice_get clauses j ≡ Some clause → clause_holds r clause ≡ false
false_at n j r [] clause found is = absurd (none-some (n + j) found)
false_at n zero r (c ∷ cs) clause found is =
    cond_both (clause_holds r c) _ _ (λ (o : Option ℕ). o ≡ Some (n + zero) → clause_holds r clause ≡ false)
    (λ so later. absurd (let range = in_range (n + 1) r cs (n + zero) later in omega (arith, range.0)))
    (λ not here. subst (λ (x : Clause). clause_holds r x ≡ false) (same_Some c clause is) not) found
false_at n (suc j) r (c ∷ cs) clause found is =
    cond_both (clause_holds r c) _ _ (λ (o : Option ℕ). o ≡ Some (n + suc j) → clause_holds r clause ≡ false)
    (λ so later. false_at (n + 1) j r cs clause
    (let same : n + suc j ≡ n + 1 + j = omega arith in later ∙ ap Some same) is)
    (λ not here. absurd (let same : n ≡ n + suc j = same_Some n (n + suc j) here in omega (arith, same))) found

number_false : (n : ℕ) (r : Reading) (clauses : List Clause) (clause : Clause) → first_false 1 r clauses ≡ Some n
    → numbered clauses n ≡ Some clause → clause_holds r clause ≡ false
unfolding numbered
number_false zero r clauses clause found is = absurd (none-some clause is)
number_false (suc n) r clauses clause found is =
    false_at 1 n r clauses clause (let same : suc n ≡ 1 + n = omega arith in found ∙ ap Some same) is

-- ---- the clause of a fault

pub clause_is_tested : (unit : MethodUnit) (test : Tested) (kind : FaultKind) (clause : Clause) → IsContract unit test
    → clause_of_fault unit test kind ≡ Some clause → IsClauseTested unit test clause
clause_is_tested unit (tests.Callee number) (faults.Requires n) clause contract is =
    let test = tests.Callee number in
    of_number (IsClauseTested unit test) (clauses_tested unit test) n clause
    (of_kind (IsClauseTested unit test) (kind_tested test) (contract_of unit test) contract.clauses) is
clause_is_tested unit tests.Own (faults.Ensures n) clause contract is =
    of_number (IsClauseTested unit tests.Own) (clauses_tested unit tests.Own) n clause
    (of_kind (IsClauseTested unit tests.Own) kinds.Ensures (contract_of unit tests.Own) contract.clauses) is
clause_is_tested unit _ _ clause contract is = absurd (none-some clause is)

-- The clause is shown.
record IsShown (unit : MethodUnit) (test : Tested) (kind : FaultKind) (state : State) : Type 0 where
  clause : Clause
  is : clause_of_fault unit test kind ≡ Some clause
  shown : clause_shown unit test clause (put_tested unit test state) ≡ true

is_shown : (unit : MethodUnit) (test : Tested) (kind : FaultKind) (state : State)
    → clause_entailed unit test kind state ≡ true → IsShown unit test kind state
is_shown unit test kind state entailed = by (clause_of_fault unit test kind) refl entailed
  where
    by : (o : Option Clause) → clause_of_fault unit test kind ≡ o
        → option_map_or (λ clause. clause_shown unit test clause (put_tested unit test state)) o false ≡ true
        → IsShown unit test kind state
    by None none entailed = absurd (false≢true entailed)
    by (Some clause) found entailed = record { clause = clause; is = found; shown = entailed }

-- ---- a clause that is shown is not found false

module _ (unit : MethodUnit) (state : State) (i : Instr) (p : Point) (kind : FaultKind) (index at : ℕ)
    (formed : IsWellFormed unit) (point : IsPointOf unit p) (holds : HoldsAt state p) where
  abbrev end : Config
  end = configs.Fault kind index at

  plainly : (test : Tested) → IsShown unit test kind state → EffectRow [] unit i p.frame p.heap end → ⊥
  plainly test shown row =
      clause_told test kind shown.is (row_plain unit i p.frame p.heap kind index at row)
    where
      clause_told : (test : Tested) (k : FaultKind) → clause_of_fault unit test k ≡ Some shown.clause
          → is_of_clause k ≡ false → ⊥
      clause_told (tests.Callee number) (faults.Requires n) is own = true≢false own
      clause_told tests.Own (faults.Ensures n) is own = true≢false own
      clause_told _ _ is own = none-some shown.clause is

  -- ---- at a call

  comes_back : (number : ℕ) (callee : CalleeInfo) (args : List Value) (fault : Option ℕ)
      → ((n : ℕ) → kind ≡ faults.Requires n → fault ≡ Some n → ⊥)
      → FreelyCalled callee args i p.frame p.heap fault end → ⊥
  comes_back number callee args (Some n) never freely = let same : kind ≡ faults.Requires n = cc in never n same refl
  comes_back number callee args None never (inl is) = absurd cc
  comes_back number callee args None never (inr (after, result, free, to)) = absurd cc

  at_call : (number : ℕ) → CanTest unit (tests.Callee number) state → IsContract unit (tests.Callee number)
      → IsShown unit (tests.Callee number) kind state → FreeCall unit number i p.frame p.heap end → ⊥
  at_call number ready contract shown row =
      let callee = row.callee in
      let there = row.callee_is in
      let can = ready callee there in
      let put = put_args callee.args state in
      let r = reading_at_call row.args p.heap in
      let form = form_of state can.readable (λ known is. is.form) in
      let is_clause = clause_is_tested unit (tests.Callee number) kind shown.clause contract shown.is callee there in
      let told : requires_shown callee shown.clause put ≡ true =
      subst (λ (o : Option CalleeInfo). option_map_or (λ c. requires_shown c shown.clause
      (option_map_or (λ d. put_args d.args state) o state)) o false ≡ true) there shown.shown in
      let so : clause_holds r shown.clause ≡ true =
      shown_at_call callee shown.clause put (put_ready callee state can) is_clause told p row.args row.args_are
      (args_keep callee.args state form p row.args row.args_are holds) in
      comes_back number callee row.args (false_requires callee.clauses row.args p.heap)
      (λ n is_kind found. true≢false (sym so ∙ number_false n r (clauses_of kinds.Requires callee.clauses) shown.clause
      found
      (subst (λ (o : Option CalleeInfo). numbered (clauses_of kinds.Requires (option_map_or (λ c. c.clauses) o [])) n
      ≡ Some shown.clause) there
      (subst (λ (k : FaultKind). clause_of_fault unit (tests.Callee number) k ≡ Some shown.clause) is_kind shown.is))))
      row.freely

  by_call : (call : Option UnitCall) → CanTest unit (tested_at_call unit call) state
      → IsContract unit (tested_at_call unit call) → IsShown unit (tested_at_call unit call) kind state
      → CallsBy (FreeCall unit) call [] unit i p.frame p.heap end → ⊥
  by_call (Some (calls.Callee number)) ready contract shown row =
      found (slice_get unit.callees number) row.callee_is ready contract shown
    where
      found : (o : Option CalleeInfo) → o ≡ Some row.callee
          → CanTest unit (option_map_or (λ callee. tests.Callee number) o tests.Nothing) state
          → IsContract unit (option_map_or (λ callee. tests.Callee number) o tests.Nothing)
          → IsShown unit (option_map_or (λ callee. tests.Callee number) o tests.Nothing) kind state → ⊥
      found None is ready contract shown = none-some row.callee is
      found (Some callee) is ready contract shown = at_call number ready contract shown row
  by_call _ ready contract shown row = plainly tests.Nothing shown row

  -- ---- at a return

  goes_back : (result : Option Value) (fault : Option ℕ) → ((n : ℕ) → kind ≡ faults.Ensures n → fault ≡ Some n → ⊥)
      → Returned [] i p.frame p.heap result fault end → ⊥
  goes_back result (Some n) never returned = let same : kind ≡ faults.Ensures n = cc in never n same refl
  goes_back result None never (inl ends) = let to = ends.1 in absurd cc
  goes_back result None never (inr (outer, caller, are, to)) = absurd cc

  at_return : CanReturn unit state → IsContract unit tests.Own → IsShown unit tests.Own kind state
      → (result : Option Value) → Returns unit p result
      → Returned [] i p.frame p.heap result (ensures_fault unit p.frame p.heap result) end → ⊥
  at_return ready contract shown result gives returned =
      let put = put_result unit.result state in
      let r = reading_at_return p.frame p.heap result in
      let form = form_of state ready.readable (λ known is. is.form) in
      let so : clause_holds r shown.clause ≡ true =
      shown_at_return unit shown.clause put (result_ready unit state ready)
      (clause_is_tested unit tests.Own kind shown.clause contract shown.is) shown.shown p result gives
      (result_keeps unit.result state form p result gives.result_is holds) in
      goes_back result (ensures_fault unit p.frame p.heap result)
      (λ n is_kind found. true≢false (sym so ∙ number_false n r (clauses_of kinds.Ensures (clauses_in_force unit))
      shown.clause found
      (subst (λ (k : FaultKind). clause_of_fault unit tests.Own k ≡ Some shown.clause) is_kind shown.is)))
      returned

  by_row : (op : Op) → CanTest unit (tested_by unit op) state → IsContract unit (tested_by unit op)
      → IsShown unit (tested_by unit op) kind state → Row (FreeCall unit) op [] unit i p.frame p.heap end → ⊥
  by_row (ops.Call number) ready contract shown row = by_call (unit_call number) ready contract shown row
  by_row ops.Return ready contract shown (result, is, returned) =
      at_return ready contract shown result (record { args_fit = point.frame.entry_args; result_is = is }) returned
  by_row _ ready contract shown row = plainly tests.Nothing shown row

pub clause_sound : (unit : MethodUnit) (op : Op) (kind : FaultKind) (state : State) → IsWellFormed unit
    → CanTest unit (tested_by unit op) state → clause_entailed unit (tested_by unit op) kind state ≡ true
    → EndsNotIn unit op kind state
clause_sound unit op kind state formed ready entailed = λ i p index at same point holds row.
    by_row unit state i p kind index at formed point holds op ready (contract_formed unit op formed)
    (is_shown unit (tested_by unit op) kind state entailed)
    (subst (λ (o : Op). Row (FreeCall unit) o [] unit i p.frame p.heap (configs.Fault kind index at)) same row)

pub own_sound : (unit : MethodUnit) (op : Op) (kind : FaultKind) (state : State) → is_of_clause kind ≡ false
    → RulesOut unit op kind state → EndsNotIn unit op kind state
own_sound unit op kind state own ruled = λ i p index at same point holds row.
    ruled i p same holds (effect_of_step unit i p.frame p.heap kind index at own row)

-- ---- assumed

assumed_at : (unit : MethodUnit) (test : Tested) (clause : Clause) (state : State) → CanTest unit test state
    → IsClauseTested unit test clause
    → AssumesClause unit test clause state (clause_assumed unit test clause (put_tested unit test state))
assumed_at unit tests.Nothing clause state can is = tt
assumed_at unit (tests.Callee number) clause state can is = λ callee there p args are so holds.
    let ready = can callee there in
    let form = form_of state ready.readable (λ known known_is. known_is.form) in
    let put = put_args callee.args state in
    subst (λ (o : Option CalleeInfo). HoldsAt (option_map_or (λ c. requires_assumed c clause
    (option_map_or (λ d. put_args d.args state) o state)) o (option_map_or (λ d. put_args d.args state) o state))
    (passing callee.args args p)) (sym there)
    (assumed_at_call callee clause put (put_ready callee state ready) (is callee there) p args are so
    (args_keep callee.args state form p args are holds))
assumed_at unit tests.Own clause state can is = λ p result gives so holds.
    let form = form_of state can.readable (λ known known_is. known_is.form) in
    assumed_at_return unit clause (put_result unit.result state) (result_ready unit state can) is p result gives so
    (result_keeps unit.result state form p result gives.result_is holds)

pub clause_kept : (unit : MethodUnit) (op : Op) (kind : FaultKind) (state : State) → IsWellFormed unit
    → CanTest unit (tested_by unit op) state
    → ForSome (clause_of_fault unit (tested_by unit op) kind)
    (λ clause. AssumesClause unit (tested_by unit op) clause state (clause_met unit (tested_by unit op) kind state))
clause_kept unit op kind state formed can = λ clause found.
    let test = tested_by unit op in
    subst (λ (o : Option Clause). AssumesClause unit test clause state
    (option_map_or (λ c. clause_assumed unit test c (put_tested unit test state)) o state)) (sym found)
    (assumed_at unit test clause state can
    (clause_is_tested unit test kind clause (contract_formed unit op formed) found))

pub clause_assumes : (unit : MethodUnit) (op : Op) (kind : FaultKind) (state : State) → is_of_clause kind ≡ true
    → IsWellFormed unit → CanTest unit (tested_by unit op) state
    → AssumesAt unit op kind state (clause_met unit (tested_by unit op) kind state)
clause_assumes unit op kind state of formed can = record {
  clause = λ so. clause_kept unit op kind state formed can;
  own = λ other. absurd (true≢false (sym of ∙ other));
}

pub own_assumes : (unit : MethodUnit) (op : Op) (kind : FaultKind) (state new : State) → is_of_clause kind ≡ false
    → AssumesNoFault unit op state new → AssumesAt unit op kind state new
own_assumes unit op kind state new own keeps = record {
  clause = λ so. absurd (true≢false (sym so ∙ own));
  own = λ other. keeps;
}

-- ---- where the obligation stands

pub can_there : (unit : MethodUnit) (o : Obligation) (state : State) (i : Instr) → CanJudge unit o state
    → instr_at unit.instrs o.at ≡ Some i → CanTest unit (tested_by unit i.op) state
can_there unit o state i can there = can i there

pub entailed_there : {E : Type 0} (result : Result Bool E) (unit : MethodUnit) (o : Obligation) (state : State) (i : Instr)
    → instr_at unit.instrs o.at ≡ Some i → IfOk result (λ entailed. entailed ≡ true → EndsNotIn unit i.op o.kind state)
    → IfOk result (λ entailed. entailed ≡ true → RulesItOut unit o state)
entailed_there (Ok entailed) unit o state i there sound = λ so j found.
    subst (λ (k : Instr). EndsNotIn unit k.op o.kind state) (same_Some i j (sym there ∙ found)) (sound so)
entailed_there (Err e) unit o state i there sound = tt

pub assumed_there : {E : Type 0} (result : Result State E) (unit : MethodUnit) (o : Obligation) (state : State) (i : Instr)
    → instr_at unit.instrs o.at ≡ Some i → IfOk result (AssumesAt unit i.op o.kind state)
    → IfOk result (λ new. AssumesIt unit o state new)
assumed_there (Ok new) unit o state i there sound = λ j found.
    subst (λ (k : Instr). AssumesAt unit k.op o.kind state new) (same_Some i j (sym there ∙ found)) sound
assumed_there (Err e) unit o state i there sound = tt

pub nowhere_entailed : (unit : MethodUnit) (o : Obligation) (state : State) → instr_at unit.instrs o.at ≡ None
    → RulesItOut unit o state
nowhere_entailed unit o state none = λ i found. absurd (none-some i (sym none ∙ found))

pub nowhere_assumed : {E : Type 0} (result : Result State E) (unit : MethodUnit) (o : Obligation) (state : State)
    → instr_at unit.instrs o.at ≡ None → IfOk result (λ new. AssumesIt unit o state new)
nowhere_assumed (Ok new) unit o state none = λ i found. absurd (none-some i (sym none ∙ found))
nowhere_assumed (Err e) unit o state none = tt
