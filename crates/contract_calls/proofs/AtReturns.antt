-- What is so of results and of the Ensures at returns.
use Rattle.std.proofs.Common.{◌≡◌, ℕ, ◌+◌, ◌-◌, ◌*◌, ◌≤◌, true, List, [], ◌∷◌, ◌++◌, length, reverse, drop, slice_get, inl, inr, if◌then◌else◌, Option, Some, None, refl, ap, subst, sym, ◌∙◌, append_assoc, arith}
use Rattle.std.specs.Prelude.{◌⊎◌}
use Rattle.std.specs.List.{AllByRecursion}
use Rattle.std.specs.Option.{ForSome, option_map}
use Rattle.std.proofs.lemmas.List.{length-append}
use Rattle.std.proofs.lemmas.Option.{none-some, same_Some}
use Rattle.cil_model.specs.Calls.{args_of, result_of}
use Rattle.cil_model.specs.Clauses.{first_false}
use Rattle.cil_model.specs.Limits.{MAX_VARIABLES}
use Rattle.cil_model.specs.Values.{FitsPlace, Heap, IsValue, put, with_first}
use Rattle.cil_model.specs.declared.clause.Clause.{Clause}
use Rattle.cil_model.specs.declared.machine.Value.{Value}
use Rattle.cil_model.specs.declared.place.Place.{Place}
use Rattle.cil_model.specs.declared.place.Place.TheVariants as places
use Rattle.cil_model.specs.declared.unit.Unit.{Unit as MethodUnit}
use Rattle.cil_model.proofs.HeapsKept.{AreValues-kept}
use Rattle.cil_model.proofs.Lists.{all_append}
use Rattle.clause_trees.proofs.AssumedKept.{assumed_is_kept, assumed_keeps_forms}
use Rattle.clause_trees.proofs.ShownTrees.{shown_is_so}
use Rattle.clause_trees.specs.ClauseStates.{assumed}
use Rattle.clause_trees.specs.Meaning.{CanTest, Reads, ReadsResult}
use Rattle.clause_trees.specs.VariableKinds.{HasSameFormsIn, IsReadable}
use Rattle.machine_points.specs.MachineValues.{HasMachineValues}
use Rattle.machine_points.specs.declared.point.Point.{Point}
use Rattle.merged_states.specs.Following.{HoldsOver}
use Rattle.state_facts.specs.Forms.{HasForm}
use Rattle.state_facts.specs.Holds.{HoldsAt, variables_of}
use Rattle.state_facts.specs.Keeps.{listed}
use Rattle.state_facts.specs.StateFacts.{StateFacts, State}
use Rattle.contract_calls.specs.Arguments.{first_of, put_args, put_result, result_places}
use Rattle.contract_calls.specs.CallForms.{CanReturn, IsClauseOf}
use Rattle.contract_calls.specs.CallStates.{at_return, ensures_assumed, ensures_shown, result_at}
use Rattle.contract_calls.specs.Meaning.{AreEnsured, IsEnsuredAt, KeepsEnsured, KeepsResult, Returns, reading_at_return, returning, with_stack}
use Rattle.contract_calls.proofs.Assuming.{none_assumed, readable_in}
use Rattle.contract_calls.proofs.AtCalls.{fits_put, none_put, reads_over, same_long}
use Rattle.contract_calls.proofs.MethodClauses.{is_test, true_value}
use Rattle.contract_calls.proofs.PassedArguments.{args_keep, args_same, as_long, at_of, base_of, over_of}

-- ---- results

void_put : (heap : Heap) (v : Value) → put heap places.Void v ≡ None
void_put heap _ = refl

-- There is no result: it is void, and the stack is empty.
record IsNothing (place : Place) (stack : List Value) (result : Option Value) : Type 0 where
  void : place ≡ places.Void
  empty : stack ≡ []
  none : result ≡ None

-- There is one value, put into the place of the result.
record IsOne (heap : Heap) (place : Place) (stack : List Value) (result : Option Value) : Type 0 where
  value : Value
  stored : Value
  alone : stack ≡ value ∷ []
  is : result ≡ Some stored
  put_is : put heap place value ≡ Some stored
  places_are : result_places place ≡ place ∷ []
  at : (i : ℕ) → result_at place i ≡ Some i

one_place : (heap : Heap) (place : Place) (v stored : Value) → put heap place v ≡ Some stored
    → (result_places place ≡ place ∷ []) × ((i : ℕ) → result_at place i ≡ Some i)
one_place heap places.Void v stored is = absurd (none-some stored (sym (void_put heap v) ∙ is))
one_place heap places.Bool v stored is = (refl, λ i. refl)
one_place heap places.Int v stored is = (refl, λ i. refl)
one_place heap places.Bools v stored is = (refl, λ i. refl)
one_place heap places.Ints v stored is = (refl, λ i. refl)

one_told : (heap : Heap) (place : Place) (v : Value) (result : Option Value) (o : Option Value) → put heap place v ≡ o
    → option_map Some o ≡ Some result → IsOne heap place (v ∷ []) result
one_told heap place v result None found is = absurd (none-some result is)
one_told heap place v result (Some stored) found is =
    let (one, at) = one_place heap place v stored found in
    record {
      value = v;
      stored = stored;
      alone = refl;
      is = sym (same_Some (Some stored) result is);
      put_is = found;
      places_are = one;
      at = at;
    }

result_tells : (heap : Heap) (place : Place) (stack : List Value) (result : Option Value)
    → result_of heap place stack ≡ Some result → IsNothing place stack result ⊎ IsOne heap place stack result
result_tells heap places.Void [] result is =
    inl (record { void = refl; empty = refl; none = sym (same_Some None result is) })
result_tells heap places.Bool [] result is = absurd (none-some result is)
result_tells heap places.Int [] result is = absurd (none-some result is)
result_tells heap places.Bools [] result is = absurd (none-some result is)
result_tells heap places.Ints [] result is = absurd (none-some result is)
result_tells heap place (v ∷ []) result is = inr (one_told heap place v result (put heap place v) refl is)
result_tells heap places.Void (v ∷ w ∷ stack) result is = absurd (none-some result is)
result_tells heap place (v ∷ w ∷ stack) result is = absurd (none-some result is)

pub result_keeps : (place : Place) (state : State) → ForSome state HasForm
    → KeepsResult place state (put_result place state)
unfolding put_result
result_keeps place state form = λ p result is holds. elim (result_tells p.heap place p.frame.stack result is) [
  | inl told ↦
      subst (λ pl. HoldsAt (put_args (result_places pl) state) (returning result p)) (sym told.void)
      (subst (λ r. HoldsAt (put_args [] state) (returning r p)) (sym told.none)
      (subst (λ s. HoldsAt (put_args [] state) (with_stack s p)) told.empty (args_keep [] state form p [] refl holds)))
  | inr told ↦
      let taken : args_of p.heap (place ∷ []) p.frame.stack ≡ Some (told.stored ∷ []) =
      ap (args_of p.heap (place ∷ [])) told.alone ∙ ap (λ o. with_first o (Some [])) told.put_is in
      let kept = args_keep (place ∷ []) state form p (told.stored ∷ []) taken holds in
      subst (λ pls. HoldsAt (put_args pls state) (returning result p)) (sym told.places_are)
      (subst (λ r. HoldsAt (put_args (place ∷ []) state) (returning r p)) (sym told.is)
      (subst (λ s. HoldsAt (put_args (place ∷ []) state) (with_stack (told.stored ∷ drop 1 s) p)) told.alone kept))
]

pub result_same : (place : Place) (known : StateFacts) → HasForm known
    → HasSameFormsIn known (put_result place (Some known))
unfolding put_result
result_same place known form = args_same (result_places place) known form

pub result_all_same : (place : Place) (state : State) → ForSome state HasForm
    → ForSome state (λ known. HasSameFormsIn known (put_result place state))
result_all_same place state form = λ known is.
    subst (λ s. HasSameFormsIn known (put_result place s)) (sym is) (result_same place known (form known is))

-- ---- at a return

reverse_listed : (result : Option Value) → reverse (listed result) ≡ listed result
reverse_listed None = refl
reverse_listed (Some v) = refl

-- The variables of a return are the arguments at the entry and others.
abbrev others : Point → Option Value → List Value
others p result = (p.frame.args ++ p.frame.locals) ++ listed result

return_parts : (p : Point) (result : Option Value)
    → variables_of (returning result p).frame ≡ p.frame.entry_args ++ others p result
return_parts p result =
    ap (λ l. base_of p.frame ++ l) (reverse_listed result)
    ∙ (ap (λ l. l ++ listed result) (append_assoc p.frame.entry_args p.frame.args p.frame.locals)
    ∙ append_assoc p.frame.entry_args (p.frame.args ++ p.frame.locals) (listed result))

last_at : (base : List Value) (v : Value) → slice_get (base ++ v ∷ []) (length base) ≡ Some v
last_at [] v = refl
last_at (b ∷ base) v = last_at base v

-- What the result is read as.
result_read : (unit : MethodUnit) (state : State) (p : Point) (result : Option Value)
    → result_of p.heap unit.result p.frame.stack ≡ Some result
    → HoldsOver state (variables_of (returning result p).frame) p.heap
    → ReadsResult (variables_of (returning result p).frame) (result_at unit.result (first_of 1 state)) result
result_read unit state p result is over = elim (result_tells p.heap unit.result p.frame.stack result is) [
  | inl told ↦
      subst (λ r. ReadsResult (variables_of (returning result p).frame) (result_at unit.result (first_of 1 state)) r)
      (sym told.none)
      (subst (λ pl. ReadsResult (variables_of (returning result p).frame) (result_at pl (first_of 1 state)) None)
      (sym told.void) tt)
  | inr told ↦
      let vs = base_of p.frame ++ told.stored ∷ [] in
      let parts : variables_of (returning result p).frame ≡ vs =
      ap (λ r. base_of p.frame ++ reverse (listed r)) told.is in
      let first : first_of 1 state ≡ length (base_of p.frame) =
      as_long state (variables_of (returning result p).frame) p.heap 1 over
      ∙ (ap (λ l. length l - 1) parts ∙ less_one (base_of p.frame) told.stored) in
      subst (λ r. ReadsResult (variables_of (returning result p).frame) (result_at unit.result (first_of 1 state)) r)
      (sym told.is)
      (subst (λ o. ReadsResult (variables_of (returning result p).frame) o (Some told.stored))
      (sym (told.at (first_of 1 state)))
      (subst (λ n. slice_get (variables_of (returning result p).frame) n ≡ Some told.stored) (sym first)
      (ap (λ l. slice_get l (length (base_of p.frame))) parts ∙ last_at (base_of p.frame) told.stored)))
]
  where
    less_one : (base : List Value) (v : Value) → length (base ++ v ∷ []) - 1 ≡ length base
    less_one base v = let all = length-append base (v ∷ []) in omega (arith, all)

result_fits : (unit : MethodUnit) (p : Point) (result : Option Value)
    → result_of p.heap unit.result p.frame.stack ≡ Some result → HasMachineValues (returning result p)
    → (v : Value) → result ≡ Some v → FitsPlace p.heap unit.result v
result_fits unit p result is machine = λ v at. elim (result_tells p.heap unit.result p.frame.stack result is) [
  | inl told ↦ absurd (none-some v (sym told.none ∙ at))
  | inr told ↦
      let stack : AllByRecursion (IsValue p.heap) (told.stored ∷ []) =
      subst (λ r. AllByRecursion (IsValue p.heap) (listed r)) told.is machine.stack in
      subst (FitsPlace p.heap unit.result) (same_Some told.stored v (sym told.is ∙ at))
      (fits_put p.heap unit.result told.value told.stored stack.0 told.put_is)
]

-- What an Ensures reads.
pub reads_at_return : (unit : MethodUnit) (state : State) (p : Point) (result : Option Value) → Returns unit p result
    → HoldsAt state (returning result p)
    → Reads (at_return unit.result state) unit.args unit.result (variables_of (returning result p).frame) p.heap
    (reading_at_return p.frame p.heap result)
reads_at_return unit state p result returns holds =
    let machine = holds.machine in
    let parts = return_parts p result in
    let read = result_read unit state p result returns.result_is (over_of state (returning result p) holds) in
    subst (λ vs. Reads (at_return unit.result state) unit.args unit.result vs p.heap
    (reading_at_return p.frame p.heap result)) (sym parts)
    (reads_over (at_return unit.result state) unit.args unit.result [] p.frame.entry_args (others p result)
    p.frame.entry_heap p.heap result refl
    (subst (λ vs. ReadsResult vs (result_at unit.result (first_of 1 state)) result) parts read)
    returns.args_fit (result_fits unit p result returns.result_is machine) machine.entry_heap machine.heap machine.kept
    (all_append (IsValue p.heap) p.frame.entry_args (others p result)
    (AreValues-kept p.frame.entry_heap p.heap machine.kept p.frame.entry_args machine.entry_args)
    (all_append (IsValue p.heap) (p.frame.args ++ p.frame.locals) (listed result)
    (all_append (IsValue p.heap) p.frame.args p.frame.locals machine.args machine.locals) machine.stack)))

-- An Ensures may be a test where the unit may return.
pub test_at_return : (unit : MethodUnit) (clause : Clause) (state : State) → CanReturn unit state
    → IsClauseOf unit.args unit.result clause → CanTest (at_return unit.result state) clause.tree state
test_at_return unit clause state ready is = record {
  args = unit.args;
  result = unit.result;
  readable = ready.readable;
  test = is_test unit.args unit.result clause is;
}

-- An Ensures that is shown is true.
pub shown_at_return : (unit : MethodUnit) (clause : Clause) (state : State) → CanReturn unit state
    → IsClauseOf unit.args unit.result clause → ensures_shown unit clause state ≡ true → IsEnsuredAt unit clause state
shown_at_return unit clause state ready is shown = λ p result returns holds.
    shown_is_so (at_return unit.result state) true clause.tree state unit.args unit.result
    (variables_of (returning result p).frame) p.heap (reading_at_return p.frame p.heap result) ready.readable
    (record { kind_is = is.number; ints = is.ints }) (reads_at_return unit state p result returns holds)
    (over_of state (returning result p) holds) shown

-- One that is assumed is kept.
pub assumed_at_return : (unit : MethodUnit) (clause : Clause) (state : State) → CanReturn unit state
    → IsClauseOf unit.args unit.result clause → KeepsEnsured unit clause state (ensures_assumed unit clause state)
assumed_at_return unit clause state ready is = λ p result returns so holds.
    at_of (ensures_assumed unit clause state) (returning result p) holds.machine
    (assumed_is_kept (at_return unit.result state) true clause.tree state unit.args unit.result
    (variables_of (returning result p).frame) p.heap (reading_at_return p.frame p.heap result) ready.readable
    (is_test unit.args unit.result clause is) (reads_at_return unit state p result returns holds)
    (over_of state (returning result p) holds) (true_value (reading_at_return p.frame p.heap result) clause so))

-- ---- the next state

-- Where the unit may return, it may in a state of the same forms.
pub return_in : (unit : MethodUnit) (known : StateFacts) (o : State) → CanReturn unit (Some known)
    → HasSameFormsIn known o → CanReturn unit o
return_in unit known None ready same = record { few = omega arith; readable = λ x is. absurd (none-some x is) }
return_in unit known (Some after) ready same =
    let many = same_long known after known.variables after.variables same.variables in
    record {
      few = subst (λ n. n ≤ 2 * MAX_VARIABLES) (sym many) ready.few;
      readable =
          subst (λ n. ForSome (Some after)
          (IsReadable (record { args = 0; result = result_at unit.result (n - 1) }) unit.args unit.result)) (sym many)
          (readable_in (at_return unit.result (Some known)) unit.args unit.result known (Some after)
          (ready.readable known refl) same);
    }

pub ensured_ready : (unit : MethodUnit) (clause : Clause) (state : State) → CanReturn unit state
    → IsClauseOf unit.args unit.result clause → CanReturn unit (ensures_assumed unit clause state)
ensured_ready unit clause None ready is =
    subst (CanReturn unit) (sym (none_assumed (at_return unit.result None) true clause.tree)) ready
ensured_ready unit clause (Some known) ready is =
    let env = at_return unit.result (Some known) in
    return_in unit known (assumed env true clause.tree (Some known)) ready
    (assumed_keeps_forms env true clause.tree known unit.args unit.result (ready.readable known refl)
    (is_test unit.args unit.result clause is))

pub none_result : (place : Place) → put_result place None ≡ None
unfolding put_result
none_result place = none_put (result_places place)

-- The unit may return where its result is put.
pub result_ready : (unit : MethodUnit) (state : State) → CanReturn unit state
    → CanReturn unit (put_result unit.result state)
result_ready unit None ready = subst (CanReturn unit) (sym (none_result unit.result)) ready
result_ready unit (Some known) ready =
    return_in unit known (put_result unit.result (Some known)) ready
    (result_same unit.result known (ready.readable known refl).form)

-- ---- one after the other

-- Where each is shown in turn, none is false.
pub no_ensures_false : (unit : MethodUnit) (clauses : List Clause) (n : ℕ) (state : State) (p : Point)
    (result : Option Value)
    → CanReturn unit state → AllByRecursion (IsClauseOf unit.args unit.result) clauses → AreEnsured unit clauses state
    → Returns unit p result → HoldsAt state (returning result p)
    → first_false n (reading_at_return p.frame p.heap result) clauses ≡ None
no_ensures_false unit [] n state p result ready all shown returns holds = refl
no_ensures_false unit (clause ∷ clauses) n state p result ready all shown returns holds =
    let r = reading_at_return p.frame p.heap result in
    let so = shown_at_return unit clause state ready all.0 shown.0 p result returns holds in
    ap (λ b. if b then first_false (n + 1) r clauses else Some n) so
    ∙ no_ensures_false unit clauses (n + 1) (ensures_assumed unit clause state) p result
    (ensured_ready unit clause state ready all.0) all.1 shown.1 returns
    (assumed_at_return unit clause state ready all.0 p result returns so holds)
