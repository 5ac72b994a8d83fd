-- Each fault in which a step of a unit ends is listed: its own ones, and those of clauses by their numbers.
use Rattle.std.proofs.Common.{◌≡◌, ◌⊎◌, ◌==◌, ℕ, zero, suc, ◌+◌, ◌<◌, ◌≤◌, true, false, nat_le, Option, Some, None, List, [], ◌∷◌, length, map, Contains, slice_get, refl, sym, ap, subst, ◌∙◌, inl, inr, arith}
use Rattle.std.specs.List.{flat_map, range_with_len}
use Rattle.std.specs.Option.{option_map_or}
use Rattle.std.proofs.lemmas.Bool.{cases_Bool, cond_both, true≢false}
use Rattle.std.proofs.lemmas.List.Elements.{Contains-append_left, Contains-append_right}
use Rattle.std.proofs.lemmas.Option.{none-some, same_Some}
use Rattle.cil_model.specs.Calls.{FreeCall, FreelyCalled, Returned, clauses_in_force, ensures_fault}
use Rattle.cil_model.specs.Clauses.{Reading, clause_holds, clauses_of, false_requires, first_false}
use Rattle.cil_model.specs.Runs.{CallsBy, EffectRow, Row, instr_at}
use Rattle.cil_model.specs.UnitCalls.{unit_call}
use Rattle.cil_model.specs.Values.{Heap}
use Rattle.cil_model.specs.declared.clause.Clause.{Clause}
use Rattle.cil_model.specs.declared.clause.ClauseKind.TheVariants as kinds
use Rattle.cil_model.specs.declared.instruction.Instr.{Instr}
use Rattle.cil_model.specs.declared.instruction.Op.{Op}
use Rattle.cil_model.specs.declared.instruction.Op.TheVariants as ops
use Rattle.cil_model.specs.declared.machine.Config.{Config}
use Rattle.cil_model.specs.declared.machine.Config.TheVariants as configs
use Rattle.cil_model.specs.declared.machine.FaultKind.{FaultKind}
use Rattle.cil_model.specs.declared.machine.FaultKind.TheVariants as faults
use Rattle.cil_model.specs.declared.machine.Frame.{Frame}
use Rattle.cil_model.specs.declared.machine.Obligation.{Obligation}
use Rattle.cil_model.specs.declared.machine.Value.{Value}
use Rattle.cil_model.specs.declared.unit.CalleeInfo.{CalleeInfo}
use Rattle.cil_model.specs.declared.unit.Unit.{Unit as MethodUnit}
use Rattle.cil_model.specs.declared.unit_numbers.UnitCall.{UnitCall}
use Rattle.cil_model.specs.declared.unit_numbers.UnitCall.TheVariants as calls
use Rattle.cil_model.proofs.KindsSettle.{found_at}
use Rattle.obligation_prover.specs.EachFault.{IsListed, ListsEachFault}
use Rattle.obligation_prover.specs.Faults.{IsAmong, faults_of, is_of_clause}
use Rattle.obligation_prover.specs.Obligations.{obligation, obligations_at, obligations_in, obligations_of, own_obligations}
use Rattle.obligation_prover.specs.ClausesTested.{clause_obligation, clause_obligations, clauses_tested, tested_at_call, tested_by}
use Rattle.obligation_prover.specs.declared.tested.Tested.{Tested}
use Rattle.obligation_prover.specs.declared.tested.Tested.TheVariants as tests
use Rattle.obligation_prover.proofs.Complete.{step_among}
use Rattle.obligation_prover.proofs.Plain.{row_plain}

-- ---- clauses by their numbers

-- What is not true is one of the clauses.
pub in_range : (n : ℕ) (r : Reading) (clauses : List Clause) (k : ℕ) → first_false n r clauses ≡ Some k
    → (n ≤ k) × (k < n + length clauses)
in_range n r [] k is = absurd (none-some k is)
in_range n r (clause ∷ clauses) k is =
    cond_both (clause_holds r clause) _ _ (λ (o : Option ℕ). o ≡ Some k → (n ≤ k) × (k < n + suc (length clauses)))
    (λ so later. let parts = in_range (n + 1) r clauses k later in (omega (arith, parts.0), omega (arith, parts.1)))
    (λ not here. let same : n ≡ k = same_Some n k here in (omega (arith, same), omega (arith, same))) is

each_there : (f : ℕ → Obligation) (a n k : ℕ) → a ≤ k → k < a + n → Contains (map f (range_with_len a n)) (f k)
each_there f a zero k low high = absurd (omega (arith, low, high))
each_there f a (suc n) k low high =
    by (cases_Bool (a == k)) (λ more. each_there f (a + 1) n k more (omega (arith, high)))
  where
    by : ((a == k) ≡ true) ⊎ ((a == k) ≡ false) → (a + 1 ≤ k → Contains (map f (range_with_len (a + 1) n)) (f k))
        → Contains (map f (range_with_len a (suc n))) (f k)
    by (inl same) later = (0, omega arith, ap f (grind (arith, same)))
    by (inr other) later =
        Contains-append_right (f a ∷ []) (map f (range_with_len (a + 1) n)) (f k) (later (grind (arith, low, other)))

-- ---- a step

module _ (unit : MethodUnit) (i : Instr) (f : Frame) (heap : Heap) (kind : FaultKind) (index at : ℕ) where
  abbrev end : Config
  end = configs.Fault kind index at

  abbrev owed : Tested → List Obligation
  owed test = map (clause_obligation i test) (range_with_len 1 (length (clauses_tested unit test)))

  abbrev IsOwed : Tested → Type 0
  IsOwed test = IsListed (owed test) kind i.at × (i.at ≡ at)

  plain : is_of_clause kind ≡ true → EffectRow [] unit i f heap end → ⊥
  plain clause row = true≢false (sym clause ∙ row_plain unit i f heap kind index at row)

  -- A Requires of a callee is false.
  requires_false : (number : ℕ) (callee : CalleeInfo) (args : List Value) (fault : Option ℕ)
      → slice_get unit.callees number ≡ Some callee → false_requires callee.clauses args heap ≡ fault
      → FreelyCalled callee args i f heap fault end → IsOwed (tests.Callee number)
  requires_false number callee args (Some k) known is freely =
      let range = in_range 1 _ (clauses_of kinds.Requires callee.clauses) k is in
      let test = tests.Callee number in
      let same : clauses_tested unit test ≡ clauses_of kinds.Requires callee.clauses =
      ap (λ (o : Option CalleeInfo). clauses_of kinds.Requires (option_map_or (λ c. c.clauses) o [])) known in
      let there : Contains (owed test) (record { at = i.at; kind = faults.Requires k; callee = Some number }) =
      each_there (clause_obligation i test) 1 (length (clauses_tested unit test)) k range.0
      (subst (λ (cs : List Clause). k < 1 + length cs) (sym same) range.1) in
      let is_kind : kind ≡ faults.Requires k = cc in
      let here : i.at ≡ at = cc in (
        (
          Some number,
          subst (λ (x : FaultKind). Contains (owed test)
              (record { at = i.at; kind = x; callee = Some number })) (sym is_kind) there,
        ),
        here,
      )
  requires_false number callee args None known is (inl ends) = absurd cc
  requires_false number callee args None known is (inr (after, result, free, to)) = absurd cc

  by_call : (call : Option UnitCall) → is_of_clause kind ≡ true → CallsBy (FreeCall unit) call [] unit i f heap end
      → IsOwed (tested_at_call unit call)
  by_call (Some (calls.Callee number)) clause row = found (slice_get unit.callees number) row.callee_is
    where
      found : (o : Option CalleeInfo) → o ≡ Some row.callee
          → IsOwed (option_map_or (λ callee. tests.Callee number) o tests.Nothing)
      found None is = absurd (none-some row.callee is)
      found (Some callee) is =
          requires_false number row.callee row.args (false_requires row.callee.clauses row.args heap) row.callee_is refl
          row.freely
  by_call _ clause row = absurd (plain clause row)

  -- An Ensures of the unit is false.
  ensures_false : (result : Option Value) (fault : Option ℕ) → ensures_fault unit f heap result ≡ fault
      → Returned [] i f heap result fault end → IsOwed tests.Own
  ensures_false result (Some k) is returned =
      let range = in_range 1 _ (clauses_of kinds.Ensures (clauses_in_force unit)) k is in
      let there : Contains (owed tests.Own) (record { at = i.at; kind = faults.Ensures k; callee = None }) =
      each_there (clause_obligation i tests.Own) 1 (length (clauses_tested unit tests.Own)) k range.0 range.1 in
      let same : kind ≡ faults.Ensures k = cc in
      let here : i.at ≡ at = cc in (
        (
          None,
          subst (λ (x : FaultKind). Contains (owed tests.Own)
              (record { at = i.at; kind = x; callee = None })) (sym same) there,
        ),
        here,
      )
  ensures_false result None is (inl ends) = let to = ends.1 in absurd cc
  ensures_false result None is (inr (outer, caller, are, to)) = absurd cc

  by_clause : (op : Op) → is_of_clause kind ≡ true → Row (FreeCall unit) op [] unit i f heap end
      → IsOwed (tested_by unit op)
  by_clause (ops.Call number) clause row = by_call (unit_call number) clause row
  by_clause ops.Return clause (result, is, returned) =
      ensures_false result (ensures_fault unit f heap result) refl returned
  by_clause _ clause row = absurd (plain clause row)

  mapped : (kinds : List FaultKind) → IsAmong kinds kind → Contains (map (obligation i) kinds) (obligation i kind)
  mapped [] among = elim among [ ]
  mapped (other ∷ kinds) (inl is) = (0, omega arith, ap (obligation i) (sym is))
  mapped (other ∷ kinds) (inr later) =
      Contains-append_right (obligation i other ∷ []) (map (obligation i) kinds) (obligation i kind) (mapped kinds later)

  -- What it ends in is one of its obligations.
  listed_at : Row (FreeCall unit) i.op [] unit i f heap end → IsListed (obligations_at unit i) kind i.at × (i.at ≡ at)
  listed_at row = by (cases_Bool (is_of_clause kind))
    where
      by : (is_of_clause kind ≡ true) ⊎ (is_of_clause kind ≡ false)
          → IsListed (obligations_at unit i) kind i.at × (i.at ≡ at)
      by (inl clause) =
          let ((callee, there), here) = by_clause i.op clause row in (
            (callee, Contains-append_right (own_obligations unit i) (clause_obligations unit i) _ there),
            here,
          )
      by (inr own) =
          let is = step_among unit i f heap kind index at own row in (
            (
              None,
              Contains-append_left (own_obligations unit i) (clause_obligations unit i) _
                  (mapped (faults_of unit i.op) is.0),
            ),
            is.1,
          )

-- ---- the list

in_body : (unit : MethodUnit) (i : Instr) (o : Obligation) → unit.body_start ≤ i.at → Contains (obligations_at unit i) o
    → Contains (obligations_in unit i) o
in_body unit i o within there =
    cond_both (nat_le unit.body_start i.at) _ _ (λ os. Contains os o) (λ is. there)
    (λ before. absurd (grind (arith, before, within)))

listed : (unit : MethodUnit) (is : List Instr) (at : ℕ) (i : Instr) (o : Obligation) → instr_at is at ≡ Some i
    → Contains (obligations_in unit i) o → Contains (flat_map (obligations_in unit) is) o
listed unit [] at i o found there = absurd (none-some i found)
listed unit (j ∷ is) at i o found there =
    cond_both (j.at == at) _ _
    (λ (other : Option Instr). other ≡ Some i → Contains (flat_map (obligations_in unit) (j ∷ is)) o)
    (λ here e. Contains-append_left (obligations_in unit j) (flat_map (obligations_in unit) is) o
    (subst (λ (k : Instr). Contains (obligations_in unit k) o) (sym (same_Some j i e)) there))
    (λ later e. Contains-append_right (obligations_in unit j) (flat_map (obligations_in unit) is) o
    (listed unit is at i o e there)) found

pub lists_each_fault : (unit : MethodUnit) → ListsEachFault unit (obligations_of unit)
lists_each_fault unit = λ f heap kind index at within (i, found, row).
    let here : i.at ≡ f.at = found_at unit.instrs f.at i found in
    let inside : unit.body_start ≤ i.at = subst (λ (k : ℕ). unit.body_start ≤ k) (sym here) within in
    let ((callee, there), same) = listed_at unit i f heap kind index at row in
    subst (λ (k : ℕ). IsListed (obligations_of unit) kind k) same
    (callee, listed unit unit.instrs f.at i _ found (in_body unit i _ inside there))
