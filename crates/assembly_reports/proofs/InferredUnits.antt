-- What may be added to the methods of an assembly may be added to what each unit knows of the methods that it calls.
use Rattle.std.proofs.Common.{◌≡◌, ℕ, ◌-◌, List, [], ◌∷◌, map, Contains, Option, Some, None, refl, sym, ap, subst, ◌∙◌, append-nil}
use Rattle.std.specs.List.{AllByRecursion}
use Rattle.std.specs.Option.{option_and_then, option_map_or}
use Rattle.asm_image.specs.Bodies.{method_of}
use Rattle.asm_image.specs.Rows.{methods_of}
use Rattle.asm_image.specs.declared.method_row.MethodRow.{MethodRow}
use Rattle.cc_base.specs.Tokens.{row_of}
use Rattle.cil_model.specs.WellFormed.{ClausesWithinLimits, IsAdded, IsCallee}
use Rattle.cil_model.specs.declared.clause.Clause.{Clause}
use Rattle.cil_model.specs.declared.unit.CalleeInfo.{CalleeInfo}
use Rattle.cil_model.specs.declared.unit.Unit.{Unit as MethodUnit}
use Rattle.ensures_infer.specs.Strengthening.{CanBeAdded, CanBeAddedTo, CanBeAddedToEach}
use Rattle.method_unit.specs.Units.{IsUnit}
use Rattle.safe_worlds.specs.Strengthened.{AreEnsures}
use Rattle.unit_builder.specs.Bodies.{callee_keys}
use Rattle.unit_builder.specs.Meanings.{as_token}
use Rattle.unit_builder.specs.Outcomes.{IfAnalysed, entries_of, entry_of, outcome_of, unit_of}
use Rattle.unit_builder.specs.Scopes.{alone, info_in, scope_of}
use Rattle.unit_builder.specs.Walks.{body_calls, calls_by, calls_of, unit_at, unit_by}
use Rattle.unit_builder.specs.declared.entry.MethodEntry.{MethodEntry}
use Rattle.unit_builder.specs.declared.entry.Outcome.{Outcome}
use Rattle.unit_builder.specs.declared.entry.Outcome.TheVariants.{Analysed}
use Rattle.unit_builder.proofs.CallFacts.{analysed_in, analysed_is, info-agrees, unit-callees, unit_alone}
use Rattle.unit_builder.proofs.VisitLemmas.{row_there}
use Rattle.assembly_reports.specs.Reportable.{AreRunnable}
use Rattle.assembly_reports.proofs.Members.{all_at, contained_at}

-- What is added to the method of each token may be added to its unit. A method without a unit gains nothing.
pub record MayBeAdded (asm : List ℕ) (added : ℕ → List Clause) : Type 0 where
  pub to_unit : (token : ℕ) (unit : MethodUnit) → unit_at asm token ≡ Some unit
      → CanBeAdded unit.args unit.result unit.clauses (added token)
  pub to_none : (token : ℕ) → unit_at asm token ≡ None → added token ≡ []

-- ---- what is added are Ensures

ensures_added : (clauses : List Clause) → AllByRecursion IsAdded clauses → AreEnsures clauses
ensures_added [] all = tt
ensures_added (clause ∷ clauses) all = (all.0.0, ensures_added clauses all.1)

pub are_ensures : (asm : List ℕ) (added : ℕ → List Clause) → MayBeAdded asm added → (token : ℕ)
    → AreEnsures (added token)
are_ensures asm added may token = by (unit_at asm token) refl
  where
    by : (found : Option MethodUnit) → unit_at asm token ≡ found → AreEnsures (added token)
    by None none = subst AreEnsures (sym (may.to_none token none)) tt
    by (Some unit) is = ensures_added (added token) (may.to_unit token unit is).ensures

-- ---- units

module _ (asm : List ℕ) (runnable : AreRunnable asm) where
  -- What a method is analysed to is a unit.
  pub unit_of_method : (method : MethodRow) (unit : MethodUnit) → Contains (methods_of asm) method
      → outcome_of asm method ≡ Analysed unit → IsUnit unit
  unfolding entries_of
  unit_of_method method unit has analysed =
      subst (λ (outcome : Outcome). IfAnalysed outcome IsUnit) analysed
      (all_at (λ (entry : MethodEntry). IfAnalysed entry.outcome IsUnit) (entry_of asm) (methods_of asm) method runnable
      has)

  pub unit_of_token : (token : ℕ) (unit : MethodUnit) → unit_at asm token ≡ Some unit → IsUnit unit
  unfolding outcome_of
  unit_of_token token unit is =
      let (method, named, analysed) = analysed_in (alone asm) token unit (sym (unit_alone asm token) ∙ is) in
      let row = (row_there asm (as_token token) method named).1 in
      unit_of_method method unit (contained_at (methods_of asm) (row_of token - 1) method row) analysed

-- ---- the method of a token

module _ (asm : List ℕ) (token : ℕ) (method : MethodRow) (unit : MethodUnit)
    (named : method_of asm (as_token token) ≡ Some method) (analysed : outcome_of asm method ≡ Analysed unit) where
  pub named_unit : unit_at asm token ≡ Some unit
  unfolding unit_at
  named_unit =
      ap (option_and_then (λ (m : MethodRow). unit_by (outcome_of asm m))) named ∙ ap unit_by analysed

  pub named_calls : calls_of asm token ≡ callee_keys (scope_of asm) method
  unfolding calls_of
  named_calls =
      ap (λ (found : Option MethodRow). option_map_or (body_calls asm) found []) named
      ∙ ap (calls_by (callee_keys (scope_of asm) method)) analysed

-- ---- callees

-- Nothing may be added.
nothing_may : (callee : CalleeInfo) → IsCallee callee → CanBeAddedTo callee []
nothing_may callee is = record {
  ensures = tt;
  numbers = tt;
  limits = subst ClausesWithinLimits (sym (append-nil callee.clauses)) is.clauses;
}

module _ (asm : List ℕ) (added : ℕ → List Clause) (runnable : AreRunnable asm) (may : MayBeAdded asm added) where
  -- What callers know of the method of a key.
  abbrev info : ℕ → CalleeInfo
  info key = info_in (alone asm) key

  to_callee : (key : ℕ) → IsCallee (info key) → CanBeAddedTo (info key) (added key)
  to_callee key is_callee = by (unit_at asm key) refl
    where
      by : (found : Option MethodUnit) → unit_at asm key ≡ found → CanBeAddedTo (info key) (added key)
      by None none =
          subst (CanBeAddedTo (info key)) (sym (may.to_none key none)) (nothing_may (info key) is_callee)
      by (Some unit) is =
          subst (λ (callee : CalleeInfo). CanBeAddedTo callee (added key))
          (sym (info-agrees asm key unit is (unit_of_token asm runnable key unit is))) (may.to_unit key unit is)

  to_callees : (keys : List ℕ) → AllByRecursion IsCallee (map info keys)
      → CanBeAddedToEach (map info keys) (map added keys)
  to_callees [] all = tt
  to_callees (key ∷ keys) all = (to_callee key all.0, to_callees keys all.1)

  to_each : (unit : MethodUnit) (keys : List ℕ) → IsUnit unit → unit.callees ≡ map info keys
      → CanBeAddedToEach unit.callees (map added keys)
  to_each unit keys is are =
      subst (λ (callees : List CalleeInfo). CanBeAddedToEach callees (map added keys)) (sym are)
      (to_callees keys (subst (AllByRecursion IsCallee) are is.well_formed.callees))

  -- What is added to the methods that a method calls may be added to what its unit knows of them.
  pub to_callees_of_method : (method : MethodRow) (unit : MethodUnit) → Contains (methods_of asm) method
      → outcome_of asm method ≡ Analysed unit
      → CanBeAddedToEach unit.callees (map added (callee_keys (scope_of asm) method))
  unfolding outcome_of unit_of
  to_callees_of_method method unit has analysed =
      to_each unit (callee_keys (scope_of asm) method) (unit_of_method asm runnable method unit has analysed)
      (ap (λ (u : MethodUnit). u.callees) (analysed_is (scope_of asm) method unit analysed).1)

  -- The same of the method of a token.
  pub to_callees_of_token : (token : ℕ) (unit : MethodUnit) → unit_at asm token ≡ Some unit
      → CanBeAddedToEach unit.callees (map added (calls_of asm token))
  to_callees_of_token token unit is =
      to_each unit (calls_of asm token) (unit_of_token asm runnable token unit is) (unit-callees asm token unit is)
