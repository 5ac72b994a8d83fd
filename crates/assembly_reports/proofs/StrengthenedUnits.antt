-- The units of an assembly, with clauses that may be added to them, are units again. Where each of these that a method
-- reaches is safe by itself, the method is safe.
use Rattle.std.proofs.Common.{◌≡◌, ℕ, List, map, Contains, Some, refl, ◌∙◌}
use Rattle.asm_image.specs.Rows.{methods_of}
use Rattle.asm_image.specs.declared.method_row.MethodRow.{MethodRow}
use Rattle.cil_model.specs.Runs.{LocalSafe}
use Rattle.cil_model.specs.Shapes.{shape_of}
use Rattle.cil_model.specs.declared.clause.Clause.{Clause}
use Rattle.cil_model.specs.declared.unit.Unit.{Unit as MethodUnit}
use Rattle.ensures_infer.specs.Strengthening.{CanBeAdded, CanBeAddedToEach}
use Rattle.ensures_infer.proofs.Forming.{formed_again}
use Rattle.method_code.proofs.BareShapes.{bare_faults}
use Rattle.method_unit.specs.Units.{IsUnit}
use Rattle.safe_worlds.specs.Strengthened.{strengthened}
use Rattle.unit_builder.specs.Bodies.{callee_keys}
use Rattle.unit_builder.specs.Outcomes.{outcome_of}
use Rattle.unit_builder.specs.Scopes.{scope_of}
use Rattle.unit_builder.specs.Walks.{unit_at}
use Rattle.unit_builder.specs.declared.entry.Outcome.TheVariants.{Analysed}
use Rattle.unit_builder.proofs.ReachedWorlds.{AllAnalysed}
use Rattle.assembly_reports.specs.Reportable.{AreRunnable}
use Rattle.assembly_reports.proofs.InferredUnits.{MayBeAdded, are_ensures, to_callees_of_method, to_callees_of_token, unit_of_method, unit_of_token}
use Rattle.assembly_reports.proofs.InferredWorlds.{HoldsOfReached, IsSafeStrengthened, strengthened_at, strengthened_safe}

-- A unit is one again with clauses that may be added.
pub unit_again : (unit : MethodUnit) (own : List Clause) (of_callees : List (List Clause)) → IsUnit unit
    → CanBeAdded unit.args unit.result unit.clauses own → CanBeAddedToEach unit.callees of_callees
    → IsUnit (strengthened unit own of_callees)
unit_again unit own of_callees is can each = record {
  well_formed = formed_again unit own of_callees is.well_formed can each;
  clauses =
      bare_faults unit.instrs (shape_of (strengthened unit own of_callees)) (shape_of unit) refl refl ∙ is.clauses;
}

module _ (asm : List ℕ) (added : ℕ → List Clause) (runnable : AreRunnable asm) (may : MayBeAdded asm added) where
  -- A method's unit, with clauses of its own and those that are added to the methods that it calls.
  pub method_again : (method : MethodRow) (unit : MethodUnit) (own : List Clause) → Contains (methods_of asm) method
      → outcome_of asm method ≡ Analysed unit → CanBeAdded unit.args unit.result unit.clauses own
      → IsUnit (strengthened unit own (map added (callee_keys (scope_of asm) method)))
  method_again method unit own has analysed can =
      unit_again unit own (map added (callee_keys (scope_of asm) method))
      (unit_of_method asm runnable method unit has analysed) can
      (to_callees_of_method asm added runnable may method unit has analysed)

  -- The unit of the method of a token, with what is added to each.
  pub token_again : (token : ℕ) (unit : MethodUnit) → unit_at asm token ≡ Some unit
      → IsUnit (strengthened_at asm added token unit)
  token_again token unit is =
      unit_again unit (added token) _ (unit_of_token asm runnable token unit is) (may.to_unit token unit is)
      (to_callees_of_token asm added runnable may token unit is)

  -- Where each of these units that a method reaches is safe by itself, the method is safe.
  pub inferred_safe : (from : ℕ) → AllAnalysed asm from → HoldsOfReached asm from added LocalSafe
      → IsSafeStrengthened asm from added
  inferred_safe from all safe =
      strengthened_safe asm from added all (λ token reaches. are_ensures asm added may token)
      (λ token unit reaches is. (token_again token unit is).well_formed) safe
