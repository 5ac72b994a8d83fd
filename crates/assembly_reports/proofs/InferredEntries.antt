-- What is inferred of the methods of an assembly, and their units with it.
use Rattle.std.proofs.Common.{◌≡◌, ℕ, ◌-◌, Bool, true, false, List, [], ◌∷◌, length, map, get_or, Option, Some, None, option_map, IsSome, slice_get, refl, sym, ap, ap₂, subst, ◌∙◌}
use Rattle.std.specs.Prelude.{Contains}
use Rattle.std.specs.List.{AllByRecursion}
use Rattle.std.specs.Option.{option_and_then, option_map_or}
use Rattle.std.proofs.lemmas.List.{length-map}
use Rattle.std.proofs.lemmas.Option.{get_or_from_slice_get, same_Some, slice_get-map}
use Rattle.asm_image.specs.Bodies.{method_of}
use Rattle.asm_image.specs.Faults.{FirstBroken}
use Rattle.asm_image.specs.Rows.{methods_of}
use Rattle.asm_image.specs.declared.method_row.MethodRow.{MethodRow}
use Rattle.cc_base.specs.Tokens.{row_of}
use Rattle.cil_model.specs.declared.clause.Clause.{Clause}
use Rattle.cil_model.specs.declared.unit.Unit.{Unit as MethodUnit}
use Rattle.ensures_infer.specs.Candidates.{candidates_of}
use Rattle.ensures_infer.specs.Strengthening.{CanBeAdded}
use Rattle.ensures_infer.proofs.Finding.{candidates_can}
use Rattle.method_unit.specs.Units.{IsUnit}
use Rattle.safe_worlds.specs.Strengthened.{strengthened}
use Rattle.unit_builder.specs.Bodies.{callee_keys}
use Rattle.unit_builder.specs.Meanings.{as_token}
use Rattle.unit_builder.specs.Outcomes.{IfAnalysed, entries_of, entry_of, outcome_of, unit_of}
use Rattle.unit_builder.specs.Scopes.{alone, info_in, scope_of}
use Rattle.unit_builder.specs.Walks.{body_calls, calls_by, calls_of, unit_at, unit_by}
use Rattle.unit_builder.specs.declared.entry.MethodEntry.{MethodEntry}
use Rattle.unit_builder.specs.declared.entry.Outcome.{Outcome}
use Rattle.unit_builder.specs.declared.entry.Outcome.TheVariants.{Analysed, Skipped}
use Rattle.unit_builder.specs.declared.reason.Reason.{Reason}
use Rattle.unit_builder.proofs.CallFacts.{all_there, alone_calls, analysed_is}
use Rattle.unit_builder.proofs.VisitLemmas.{row_there}
use Rattle.unit_flow.specs.FlowOf.{flow_of}
use Rattle.unit_verdicts.specs.Picks.{Pick}
use Rattle.unit_verdicts.proofs.UnitSafety.{lawful_flow}
use Rattle.assembly_reports.specs.Reportable.{AreRunnable, CanRun}
use Rattle.assembly_reports.specs.InferredUnits.{all_candidates, entry_by, inferred_entries, inferred_outcome, method_candidates, outcome_candidates, outcome_with, reported_entries, unit_candidates}
use Rattle.assembly_reports.proofs.InferredUnits.{MayBeAdded, unit_of_token}
use Rattle.assembly_reports.proofs.Members.{all_of_each, contained_at, contains_map}
use Rattle.assembly_reports.proofs.NamedMethods.{named_itself, unit_named}
use Rattle.assembly_reports.proofs.StrengthenedUnits.{token_again}

-- ---- what may be added

candidates_by : Pick → Option MethodUnit → List Clause
candidates_by pick found = option_map_or (unit_candidates pick) found []

module _ (pick : Pick) (asm : List ℕ) where
  candidates_are : (token : ℕ) (found : Option MethodUnit) → unit_at asm token ≡ found → method_candidates pick asm token ≡ candidates_by pick found
  unfolding method_candidates candidates_by
  candidates_are token found is = ap (λ (f : Option MethodUnit). option_map_or (unit_candidates pick) f []) is

  -- What is inferred of a unit may be added to its clauses.
  unit_can : (unit : MethodUnit) → IsUnit unit → CanBeAdded unit.args unit.result unit.clauses (unit_candidates pick unit)
  unfolding unit_candidates
  unit_can unit is = candidates_can (flow_of unit) (pick unit) (lawful_flow unit is)

  pub inferred_may : AreRunnable asm → MayBeAdded asm (method_candidates pick asm)
  unfolding candidates_by
  inferred_may runnable = record {
    to_unit = λ token unit is.
        subst (CanBeAdded unit.args unit.result unit.clauses) (sym (candidates_are token (Some unit) is))
        (unit_can unit (unit_of_token asm runnable token unit is));
    to_none = λ token none. candidates_are token None none;
  }

  -- ---- units with what is inferred

  module _ (accepted : FirstBroken asm ≡ None) (runnable : AreRunnable asm) where
    outcome_runs : (method : MethodRow) (outcome : Outcome) → Contains (methods_of asm) method → outcome_of asm method ≡ outcome
        → IfAnalysed (outcome_with (method_candidates pick asm) method.token.0 (calls_of asm method.token.0) outcome) IsUnit
    outcome_runs method (Analysed unit) has analysed =
        token_again asm (method_candidates pick asm) runnable (inferred_may runnable) method.token.0 unit
        (unit_named asm method.token.0 method unit (named_itself asm method accepted has) analysed)
    outcome_runs method (Skipped reason) has analysed = tt

    pub method_runs : (method : MethodRow) → Contains (methods_of asm) method → IfAnalysed (inferred_outcome pick asm method) IsUnit
    unfolding inferred_outcome
    method_runs method has = outcome_runs method (outcome_of asm method) has refl

    -- They can be run.
    pub inferred_runnable : CanRun (inferred_entries pick asm)
    unfolding inferred_entries
    inferred_runnable =
        all_of_each (λ (entry : MethodEntry). IfAnalysed entry.outcome IsUnit) (map (entry_by (inferred_outcome pick asm)) (methods_of asm))
        (λ entry has.
        let (method, among, is) = contains_map (entry_by (inferred_outcome pick asm)) (methods_of asm) entry has in
        subst (λ (e : MethodEntry). IfAnalysed e.outcome IsUnit) is (method_runs method among))

-- So can those of a report.
pub reported_runnable : (infer : Bool) (pick : Pick) (asm : List ℕ) → FirstBroken asm ≡ None → AreRunnable asm → CanRun (reported_entries infer pick asm)
reported_runnable false pick asm accepted runnable = runnable
reported_runnable true pick asm accepted runnable = inferred_runnable pick asm accepted runnable

-- What comes of a method with what is inferred comes of its own unit.
pub record IsInferredOf (pick : Pick) (asm : List ℕ) (method : MethodRow) (stronger : MethodUnit) : Type 0 where
  pub unit : MethodUnit
  pub analysed : outcome_of asm method ≡ Analysed unit
  pub same : stronger ≡ strengthened unit (method_candidates pick asm method.token.0) (map (method_candidates pick asm) (calls_of asm method.token.0))

pub inferred_of : (pick : Pick) (asm : List ℕ) (method : MethodRow) (stronger : MethodUnit) → inferred_outcome pick asm method ≡ Analysed stronger
    → IsInferredOf pick asm method stronger
unfolding inferred_outcome
inferred_of pick asm method stronger is = by (outcome_of asm method) refl is
  where
    unit_is : (a b : MethodUnit) → Analysed a ≡ Analysed b → a ≡ b
    unit_is a b e = same_Some a b (ap unit_by e)

    by : (outcome : Outcome) → outcome_of asm method ≡ outcome
        → outcome_with (method_candidates pick asm) method.token.0 (calls_of asm method.token.0) outcome ≡ Analysed stronger
        → IsInferredOf pick asm method stronger
    by (Analysed unit) analysed is = record { unit = unit; analysed = analysed; same = sym (unit_is _ stronger is) }
    by (Skipped reason) analysed is = absurd cc

-- ---- two picks

-- Two picks are one at each unit that can be run.
abbrev pub AreOnePick : Pick → Pick → Type 0
AreOnePick a b = (unit : MethodUnit) → IsUnit unit → a unit ≡ b unit

mapped_alike : {X Y : Type 0} (f g : X → Y) (xs : List X) → ((x : X) → f x ≡ g x) → map f xs ≡ map g xs
mapped_alike f g [] same = refl
mapped_alike f g (x ∷ xs) same = ap₂ (λ y ys. y ∷ ys) (same x) (mapped_alike f g xs same)

module _ (a b : Pick) (asm : List ℕ) (runnable : AreRunnable asm) (picks : AreOnePick a b) where
  -- They infer the same of each method.
  candidates_alike : (token : ℕ) → method_candidates a asm token ≡ method_candidates b asm token
  unfolding candidates_by unit_candidates
  candidates_alike token = candidates_are a asm token (unit_at asm token) refl ∙ by (unit_at asm token) refl ∙ sym (candidates_are b asm token (unit_at asm token) refl)
    where
      by : (found : Option MethodUnit) → unit_at asm token ≡ found → candidates_by a found ≡ candidates_by b found
      by None is = refl
      by (Some unit) is = ap (candidates_of (flow_of unit)) (picks unit (unit_of_token asm runnable token unit is))

  with_alike : (token : ℕ) (calls : List ℕ) (outcome : Outcome) → outcome_with (method_candidates a asm) token calls outcome ≡ outcome_with (method_candidates b asm) token calls outcome
  with_alike token calls (Analysed unit) =
      ap₂ (λ (own : List Clause) (lists : List (List Clause)). Analysed (strengthened unit own lists)) (candidates_alike token)
      (mapped_alike (method_candidates a asm) (method_candidates b asm) calls candidates_alike)
  with_alike token calls (Skipped reason) = refl

  inferred_alike : inferred_entries a asm ≡ inferred_entries b asm
  unfolding inferred_entries inferred_outcome
  inferred_alike =
      mapped_alike (entry_by (inferred_outcome a asm)) (entry_by (inferred_outcome b asm)) (methods_of asm)
      (λ method.
      ap (λ (outcome : Outcome). entry_by (λ _. outcome) method) (with_alike method.token.0 (calls_of asm method.token.0) (outcome_of asm method)))

pub same_entries : (infer : Bool) (a b : Pick) (asm : List ℕ) → AreRunnable asm → (infer ≡ true → AreOnePick a b) → reported_entries infer a asm ≡ reported_entries infer b asm
same_entries false a b asm runnable picks = refl
same_entries true a b asm runnable picks = inferred_alike a b asm runnable (picks refl)

-- ---- lists of what is inferred, a list for each row

module _ (pick : Pick) (asm : List ℕ) where
  outcome_list : (outcome : Outcome) → outcome_candidates pick outcome ≡ candidates_by pick (unit_by outcome)
  unfolding candidates_by
  outcome_list (Analysed unit) = refl
  outcome_list (Skipped reason) = refl

  -- The list of the row of an index is what is inferred of the method of which that comes.
  row_list : (index : ℕ) (method : MethodRow) → slice_get (methods_of asm) index ≡ Some method
      → slice_get (all_candidates pick (entries_of asm)) index ≡ Some (outcome_candidates pick (outcome_of asm method))
  unfolding entries_of
  row_list index method at =
      let entries = map (entry_of asm) (methods_of asm) in
      let its = λ (e : MethodEntry). outcome_candidates pick e.outcome in
      slice_get-map its entries index
      ∙ ap (option_map its) (slice_get-map (entry_of asm) (methods_of asm) index ∙ ap (option_map (entry_of asm)) at)

  -- What is inferred of the method that a token names.
  named_list : (token : ℕ) (method : MethodRow) → method_of asm (as_token token) ≡ Some method
      → outcome_candidates pick (outcome_of asm method) ≡ method_candidates pick asm token
  unfolding unit_at
  named_list token method named =
      let unit : unit_at asm token ≡ unit_by (outcome_of asm method) = ap (option_and_then (λ (m : MethodRow). unit_by (outcome_of asm m))) named in
      outcome_list (outcome_of asm method) ∙ sym (candidates_are pick asm token (unit_by (outcome_of asm method)) unit)

  -- The list of the row that a token names.
  candidates_at : (token : ℕ) → IsSome (method_of asm (as_token token)) → get_or (all_candidates pick (entries_of asm)) (row_of token - 1) [] ≡ method_candidates pick asm token
  candidates_at token there = by (method_of asm (as_token token)) refl there
    where
      by : (found : Option MethodRow) → method_of asm (as_token token) ≡ found → IsSome found
          → get_or (all_candidates pick (entries_of asm)) (row_of token - 1) [] ≡ method_candidates pick asm token
      by None named there = absurd cc
      by (Some method) named there =
          get_or_from_slice_get (all_candidates pick (entries_of asm)) (row_of token - 1) (outcome_candidates pick (outcome_of asm method)) []
          (row_list (row_of token - 1) method (row_there asm (as_token token) method named).1) ∙ named_list token method named

  -- Those of the rows that keys name.
  candidates_each : (keys : List ℕ) → AllByRecursion (λ key. IsSome (method_of asm (as_token key))) keys
      → map (λ key. get_or (all_candidates pick (entries_of asm)) (row_of key - 1) []) keys ≡ map (method_candidates pick asm) keys
  candidates_each [] there = refl
  candidates_each (key ∷ keys) there = ap₂ (λ y ys. y ∷ ys) (candidates_at key there.0) (candidates_each keys there.1)

  -- There is one for each row.
  pub lists_long : length (all_candidates pick (entries_of asm)) ≡ length (methods_of asm)
  unfolding entries_of
  lists_long =
      length-map (map (entry_of asm) (methods_of asm)) (λ (e : MethodEntry). outcome_candidates pick e.outcome)
      ∙ length-map (methods_of asm) (entry_of asm)

  -- Of a method that is analysed.
  module _ (index : ℕ) (method : MethodRow) (unit : MethodUnit) (at : slice_get (methods_of asm) index ≡ Some method) (analysed : outcome_of asm method ≡ Analysed unit) where
    -- The unit with its row's list and those of the methods that it calls.
    pub row_inferred : FirstBroken asm ≡ None → (inferred : List (List Clause)) (own : List Clause) (lists : List (List Clause))
        → inferred ≡ all_candidates pick (entries_of asm) → own ≡ get_or inferred index own
        → lists ≡ map (λ key. get_or inferred (row_of key - 1) []) (callee_keys (scope_of asm) method)
        → Analysed (strengthened unit own lists) ≡ inferred_outcome pick asm method
    unfolding inferred_outcome calls_of
    row_inferred accepted inferred own lists all_are own_is lists_are =
        let has : Contains (methods_of asm) method = contained_at (methods_of asm) index method at in
        let named = named_itself asm method accepted has in
        let token = method.token.0 in
        let keys = callee_keys (scope_of asm) method in
        let calls : calls_of asm token ≡ keys =
        ap (λ found. option_map_or (body_calls asm) found []) named ∙ ap (calls_by keys) analysed in
        let added = method_candidates pick asm in
        let mine : own ≡ added token =
        (rw all_are at own_is) ∙ get_or_from_slice_get (all_candidates pick (entries_of asm)) index (outcome_candidates pick (outcome_of asm method)) own (row_list index method at)
        ∙ named_list token method named in
        let theirs : lists ≡ map added (calls_of asm token) =
        (rw all_are at lists_are) ∙ candidates_each keys (all_there (alone asm) (alone_calls asm) 0 method) ∙ ap (map added) (sym calls) in
        ap₂ (λ (a : List Clause) (b : List (List Clause)). Analysed (strengthened unit a b)) mine theirs
        ∙ ap (outcome_with added token (calls_of asm token)) (sym analysed)

  -- One that is not comes to what it came to.
  pub row_skipped : (method : MethodRow) (reason : Reason) → outcome_of asm method ≡ Skipped reason → Skipped reason ≡ inferred_outcome pick asm method
  unfolding inferred_outcome
  row_skipped method reason skipped =
      ap (outcome_with (method_candidates pick asm) method.token.0 (calls_of asm method.token.0)) (sym skipped)

-- The methods that an analysed method calls are as many as its unit has callees.
pub called_long : (asm : List ℕ) (method : MethodRow) (unit : MethodUnit) → outcome_of asm method ≡ Analysed unit → length (callee_keys (scope_of asm) method) ≡ length unit.callees
unfolding outcome_of unit_of
called_long asm method unit analysed =
    sym (ap (λ (u : MethodUnit). length u.callees) (analysed_is (scope_of asm) method unit analysed).1
    ∙ length-map (callee_keys (scope_of asm) method) (info_in (alone asm)))
