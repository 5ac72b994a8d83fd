-- Instructions that end in no fault.
use Rattle.std.proofs.Common.{ℕ, Bool, true, false, not, nat_lt, Option, Some, None, List, [], ◌∷◌, length, sym, subst, ⊎_elim, slice_get}
use Rattle.std.specs.Prelude.{if◌then◌else◌, option_map, pos}
use Rattle.std.specs.Ordering.{int_eq}
use Rattle.std.proofs.lemmas.Bool.{cond_both}
use Rattle.std.specs.List.{AllByRecursion}
use Rattle.cil_model.specs.Arithmetic.{unsigned}
use Rattle.cil_model.specs.Comparisons.{comparison_value, compares_values, is_true}
use Rattle.cil_model.specs.Effects.{Assumes, Effect, Faults, HasEffect, branches, branches_by, changes, comparison, converts, duplicates, goes_on, item_of, loads_through, of_place, pops, pushes, stored, stores_arg, stores_local, stores_through, switches, switches_to, tests_condition, with_args, with_item, with_locals}
use Rattle.cil_model.specs.Values.{Heap, same_place}
use Rattle.cil_model.specs.declared.instruction.CmpOp.{CmpOp}
use Rattle.cil_model.specs.declared.instruction.Instr.{Instr}
use Rattle.cil_model.specs.declared.instruction.Test.{Test}
use Rattle.cil_model.specs.declared.instruction.Test.TheVariants as tests
use Rattle.cil_model.specs.declared.instruction.UnOp.{UnOp}
use Rattle.cil_model.specs.declared.machine.ArrayCell.{ArrayCell}
use Rattle.cil_model.specs.declared.machine.FaultKind.{FaultKind}
use Rattle.cil_model.specs.declared.machine.Frame.{Frame}
use Rattle.cil_model.specs.declared.machine.Value.{Value}
use Rattle.cil_model.specs.declared.machine.Value.TheVariants as values
use Rattle.cil_model.specs.declared.place.Place.{Place}
use Rattle.cil_model.specs.declared.unit.Unit.{Unit as MethodUnit}
use Rattle.state_obligations.specs.Faults.{HasNoFault}

module _ (i : Instr) (f : Frame) (heap : Heap) where
  abbrev pub IsQuiet : Effect → Type 0
  IsQuiet (Faults kind) = ⊥
  IsQuiet _ = Unit {0}

  abbrev pub AreQuiet : List Effect → Type 0
  AreQuiet es = AllByRecursion IsQuiet es

  quiet_no_fault : (es : List Effect) (kind : FaultKind) → AreQuiet es → HasEffect es (Faults kind) → ⊥
  quiet_no_fault [] kind quiet has = has
  quiet_no_fault (e ∷ es) kind quiet has = ⊎_elim (λ is. subst IsQuiet (sym is) quiet.0) (λ later. quiet_no_fault es kind quiet.1 later) has

  pub no_fault : (es : List Effect) → AreQuiet es → HasNoFault es
  no_fault es quiet = λ kind has. quiet_no_fault es kind quiet has

  pub quiet_pushes : (rest : List Value) (value : Option Value) → AreQuiet (pushes i f heap rest value)
  quiet_pushes rest None = tt
  quiet_pushes rest (Some value) = (tt, tt)

  pub quiet_branches : (target : ℕ) (rest : List Value) (holds : Option Bool) → AreQuiet (branches target i f heap rest holds)
  quiet_branches target rest None = tt
  quiet_branches target rest (Some true) = (tt, tt)
  quiet_branches target rest (Some false) = (tt, tt)

  pub quiet_with_args : (rest : List Value) (args : Option (List Value)) → AreQuiet (with_args i f heap rest args)
  quiet_with_args rest None = tt
  quiet_with_args rest (Some args) = (tt, tt)

  pub quiet_with_locals : (rest : List Value) (locals : Option (List Value)) → AreQuiet (with_locals i f heap rest locals)
  quiet_with_locals rest None = tt
  quiet_with_locals rest (Some locals) = (tt, tt)

  pub quiet_stores_arg : (unit : MethodUnit) (n : ℕ) (stack : List Value) → AreQuiet (stores_arg unit n i f heap stack)
  quiet_stores_arg unit n [] = tt
  quiet_stores_arg unit n (value ∷ rest) = quiet_with_args rest (stored heap unit.args n value f.args)

  pub quiet_stores_local : (unit : MethodUnit) (n : ℕ) (stack : List Value) → AreQuiet (stores_local unit n i f heap stack)
  quiet_stores_local unit n [] = tt
  quiet_stores_local unit n (value ∷ rest) = quiet_with_locals rest (stored heap unit.locals n value f.locals)

  pub quiet_duplicates : (stack : List Value) → AreQuiet (duplicates i f heap stack)
  quiet_duplicates [] = tt
  quiet_duplicates (value ∷ rest) = (tt, tt)

  pub quiet_pops : (stack : List Value) → AreQuiet (pops i f heap stack)
  quiet_pops [] = tt
  quiet_pops (value ∷ rest) = (tt, tt)

  pub quiet_changes : (operator : UnOp) (stack : List Value) → AreQuiet (changes operator i f heap stack)
  quiet_changes operator (values.Int a ∷ rest) = (tt, tt)
  quiet_changes operator _ = tt

  pub quiet_converts : (stack : List Value) → AreQuiet (converts i f heap stack)
  quiet_converts (values.Native n ∷ rest) = (tt, tt)
  quiet_converts (values.Int n ∷ rest) = (tt, tt)
  quiet_converts _ = tt

  pub quiet_switches_to : (rest : List Value) (target : Option ℕ) → AreQuiet (switches_to i f heap rest target)
  quiet_switches_to rest None = (tt, tt)
  quiet_switches_to rest (Some target) = (tt, tt)

  pub quiet_switches : (targets : List ℕ) (stack : List Value) → AreQuiet (switches targets i f heap stack)
  quiet_switches targets (values.Int n ∷ rest) = quiet_switches_to rest (slice_get targets (unsigned n))
  quiet_switches targets _ = tt

  pub quiet_tests : (test : Test) (target : ℕ) (stack : List Value) → AreQuiet (branches_by test target i f heap stack)
  quiet_tests tests.Always target stack = (tt, tt)
  quiet_tests tests.True target (value ∷ rest) = quiet_branches target rest (is_true value)
  quiet_tests tests.False target (value ∷ rest) = quiet_branches target rest (option_map not (is_true value))
  quiet_tests (tests.Cmp op) target (b ∷ a ∷ rest) = quiet_branches target rest (compares_values op a b)
  quiet_tests _ target _ = tt

  pub quiet_comparison : (op : CmpOp) (stack : List Value) → AreQuiet (comparison op i f heap stack)
  quiet_comparison op [] = tt
  quiet_comparison op (b ∷ []) = tt
  quiet_comparison op (b ∷ a ∷ rest) = quiet_pushes rest (comparison_value op a b)

  quiet_of_place : (place : Place) (o : Option ArrayCell) (done : ArrayCell → List Effect)
      → ((cell : ArrayCell) → AreQuiet (done cell)) → AreQuiet (of_place place o done)
  quiet_of_place place None done quiet = tt
  quiet_of_place place (Some cell) done quiet =
      cond_both (same_place cell.place place) _ _ AreQuiet (λ is. quiet cell) (λ other. tt)

  pub quiet_loads_through : (place : Place) (stack : List Value) → AreQuiet (loads_through place i f heap stack)
  quiet_loads_through place (values.Addr a n ∷ rest) =
      quiet_of_place place (slice_get heap a)
      (λ cell. pushes i f heap rest (option_map values.Int (slice_get cell.items n)))
      (λ cell. quiet_pushes rest (option_map values.Int (slice_get cell.items n)))
  quiet_loads_through place _ = tt

  pub quiet_stores_through : (place : Place) (stack : List Value) → AreQuiet (stores_through place i f heap stack)
  quiet_stores_through place (values.Int v ∷ values.Addr a n ∷ rest) =
      quiet_of_place place (slice_get heap a)
      (λ cell.
      if nat_lt n (length cell.items) then goes_on i f (with_item heap a cell n (item_of place v)) rest else [])
      (λ cell. cond_both (nat_lt n (length cell.items)) _ _ AreQuiet (λ within. (tt, tt)) (λ beyond. tt))
  quiet_stores_through place _ = tt

  pub quiet_assumption : (stack : Option (List Value)) → AreQuiet (tests_condition Assumes i f heap stack)
  quiet_assumption (Some (values.Int n ∷ rest)) = cond_both (int_eq n (pos 0)) _ _ AreQuiet (λ zero. (tt, tt)) (λ other. (tt, tt))
  quiet_assumption _ = tt
