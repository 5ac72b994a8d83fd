-- A method of which a run ends in a fault is not safe.
use Rattle.std.proofs.Common.{◌≡◌, ℕ, zero, suc, Bool, true, false, List, Option, Some, None, slice_get, if◌then◌else◌, refl, sym, ap, subst, ◌∙◌}
use Rattle.std.proofs.lemmas.Option.{same_Some}
use Rattle.cil_model.specs.Calls.{clauses_in_force}
use Rattle.cil_model.specs.Clauses.{false_requires}
use Rattle.cil_model.specs.Runs.{Safe, Step, StepsTo}
use Rattle.cil_model.specs.declared.arg.Arg.{Arg}
use Rattle.cil_model.specs.declared.machine.Config.{Config}
use Rattle.cil_model.specs.declared.machine.Config.TheVariants as configs
use Rattle.cil_model.specs.declared.machine.FaultKind.{FaultKind}
use Rattle.cil_model.specs.declared.machine.World.{World}
use Rattle.cil_model.specs.declared.unit.Unit.{Unit as MethodUnit}
use Rattle.clause_eval.specs.GivenArrays.{heap_of}
use Rattle.cil_eval.specs.Given.{AreInts, args_fit, values_of}
use Rattle.cil_eval.specs.Outcome.{State, Turn, To, Ends, Stuck, config_of, outcome, turn}
use Rattle.cil_eval.specs.Starts.{requires_refusal, start_refusal, start_state, unit_refusal}
use Rattle.cil_eval.specs.declared.limits.Limits.{Limits}
use Rattle.cil_eval.specs.declared.start_refusal.StartRefusal.TheVariants as refusals
use Rattle.cil_eval.specs.declared.stop.Stop.TheVariants as stops
use Rattle.cil_eval.proofs.GivenValues.{may_begin}
use Rattle.cil_eval.proofs.TurnSteps.{Comes, turn_steps}

-- ---- steps

module _ (w : World) (limits : Limits) (kind : FaultKind) (inside at : ℕ) where
  -- So many steps lead to the fault.
  record ComesToFault (start : Config) : Type 0 where
    pub count : ℕ
    pub steps : StepsTo (Step w) start count (configs.Fault kind inside at)

  turn_comes : (t : Turn) (n : ℕ) (s : State) (start : Config) (count : ℕ) → StepsTo (Step w) start count (config_of s) → Comes limits (Step w (config_of s)) t
      → ((next : State) → StepsTo (Step w) start (suc count) (config_of next) → outcome w limits n next ≡ Some (stops.Fault kind inside at) → ComesToFault start)
      → elim t [ To next ↦ outcome w limits n next | Ends stop ↦ Some stop | Stuck ↦ None ] ≡ Some (stops.Fault kind inside at) → ComesToFault start
  turn_comes (To next) n s start count steps step later ends = later next (config_of s, steps, step) ends
  turn_comes (Ends stop) n s start count steps step later ends = record {
    count = suc count;
    steps = (config_of s, steps, subst (λ stop. Comes limits (Step w (config_of s)) (Ends stop)) (same_Some stop (stops.Fault kind inside at) ends) step);
  }
  turn_comes Stuck n s start count steps step later ends = absurd cc

  fault_comes : (n : ℕ) (s : State) (start : Config) (count : ℕ) → StepsTo (Step w) start count (config_of s) → outcome w limits n s ≡ Some (stops.Fault kind inside at)
      → ComesToFault start
  unfolding outcome
  fault_comes zero s start count steps ends = absurd cc
  fault_comes (suc n) s start count steps ends =
      turn_comes (turn w limits s) n s start count steps (turn_steps w limits s) (λ next more ends. fault_comes n next start (suc count) more ends) ends

-- ---- starts

-- A run that starts has arguments that fit, of which each Requires is true.
record MayStart (unit : MethodUnit) (given : List Arg) : Type 0 where
  pub fit : args_fit unit.args given ≡ true
  pub required : false_requires (clauses_in_force unit) (values_of given) (heap_of given) ≡ None

may_start : (w : World) (limits : Limits) (unit : MethodUnit) (index : ℕ) (given : List Arg) → slice_get w.units index ≡ Some unit → start_refusal w limits index given ≡ None → MayStart unit given
may_start w limits unit index given of free =
    by (args_fit unit.args given) refl (false_requires (clauses_in_force unit) (values_of given) (heap_of given)) refl (sym (ap (unit_refusal limits given) of) ∙ free)
  where
    by : (fit : Bool) → args_fit unit.args given ≡ fit → (required : Option ℕ) → false_requires (clauses_in_force unit) (values_of given) (heap_of given) ≡ required
        → (if fit then requires_refusal limits given required else Some refusals.Arguments) ≡ None → MayStart unit given
    by true fit None required e = record { fit = fit; required = required }
    by true fit (Some k) required e = absurd cc
    by false fit required is e = absurd cc

-- A run of the method that starts with these arguments and ends in a fault shows that the method is not safe.
pub fault_is_unsafe : (w : World) (limits : Limits) (n : ℕ) (unit : MethodUnit) (index : ℕ) (given : List Arg) (kind : FaultKind) (inside at : ℕ)
    → slice_get w.units index ≡ Some unit → start_refusal w limits index given ≡ None → AreInts given
    → outcome w limits n (start_state unit index given) ≡ Some (stops.Fault kind inside at) → Safe w index → ⊥
fault_is_unsafe w limits n unit index given kind inside at of free ints ends safe =
    let may = may_start w limits unit index given of free in
    let comes = fault_comes w limits kind inside at n (start_state unit index given) (config_of (start_state unit index given)) 0 refl ends in
    (safe (values_of given) (heap_of given) comes.count (configs.Fault kind inside at) (record {
      unit = unit;
      unit_is = of;
      begins = may_begin unit given may.fit may.required ints;
      steps = comes.steps;
    })).0
