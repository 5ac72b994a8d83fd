-- Each point of a run has values of the machine.
use Rattle.std.proofs.Common.{ℕ, zero, suc, List, [], ◌∷◌, sym, subst}
use Rattle.std.specs.List.{AllByRecursion}
use Rattle.cil_model.specs.Calls.{entry_frame}
use Rattle.cil_model.specs.Configs.{IsFrame}
use Rattle.cil_model.specs.Effects.{GoesOn, HasEffect, effects}
use Rattle.cil_model.specs.FitKinds.{OperandFits}
use Rattle.cil_model.specs.Runs.{LocalStep, MayBegin, Runs, StepsTo, entry_config}
use Rattle.cil_model.specs.Values.{FitPlaces, Heap, IsHeap, IsValue, KeepsForms}
use Rattle.cil_model.specs.WellFormed.{HoldValues}
use Rattle.cil_model.specs.declared.instruction.Instr.{Instr}
use Rattle.cil_model.specs.declared.machine.Config.{Config}
use Rattle.cil_model.specs.declared.machine.Config.TheVariants as configs
use Rattle.cil_model.specs.declared.machine.Frame.{Frame}
use Rattle.cil_model.specs.declared.machine.Value.{Value}
use Rattle.cil_model.specs.declared.machine.World.{World}
use Rattle.cil_model.specs.declared.place.Place.{Place}
use Rattle.cil_model.specs.declared.unit.Unit.{Unit as MethodUnit}
use Rattle.cil_model.proofs.EffectsKeep.{Continues, effect_keeps}
use Rattle.cil_model.proofs.HeapsKept.{keeps_on, value_of_place}
use Rattle.cil_model.proofs.StepsKeep.{AllMakeValues, KeepsFrame, MakesValues, entry_frame_is, local_step_keeps, runs_keep}
use Rattle.machine_points.specs.MachineValues.{HasMachineValues}
use Rattle.machine_points.specs.Points.{IsPointOf, IsReached, RunsHaveValues, lives_at, point}
use Rattle.machine_points.specs.declared.point.Point.{Point}

-- ---- a point of a unit

values_of_places : (heap : Heap) (places : List Place) (vs : List Value) → FitPlaces heap places vs → AllByRecursion (IsValue heap) vs
values_of_places heap [] [] fit = tt
values_of_places heap (place ∷ places) (v ∷ vs) fit = (value_of_place heap place v fit.0, values_of_places heap places vs fit.1)
values_of_places heap [] (v ∷ vs) fit = absurd fit
values_of_places heap (place ∷ places) [] fit = absurd fit

pub point_values : (unit : MethodUnit) (p : Point) → IsPointOf unit p → HasMachineValues p
point_values unit p is = record {
  heap = is.heap;
  args = values_of_places p.heap unit.args p.frame.args is.frame.args;
  locals = values_of_places p.heap unit.locals p.frame.locals is.frame.locals;
  stack = is.frame.stack;
  entry_heap = is.frame.entry_heap_is;
  entry_args = values_of_places p.frame.entry_heap unit.args p.frame.entry_args is.frame.entry_args;
  kept = is.frame.kept;
}

-- ---- entries and steps

pub entry_point : (unit : MethodUnit) (index : ℕ) (args : List Value) (heap : Heap) → HoldValues unit.locals → MayBegin unit args heap
    → IsPointOf unit (point (entry_frame unit index args heap) heap)
entry_point unit index args heap hold begins =
    record { heap = begins.heap_is; frame = entry_frame_is unit index args heap hold begins.heap_is begins.fit }

goes_on : (unit : MethodUnit) (p q : Point) → IsPointOf unit p → Continues unit p.frame p.heap p.frame.stack q.frame q.heap → IsPointOf unit q
goes_on unit p q is on =
    let holds = on.holds (record { heap_is = is.heap; args_fit = is.frame.args; locals_fit = is.frame.locals; values = is.frame.stack }) in
    let entry : KeepsForms q.frame.entry_heap p.heap = subst (λ (h : Heap). KeepsForms h p.heap) (sym on.entry_heap_is) is.frame.kept in
    record {
      heap = holds.heap_is;
      frame = record {
        args = holds.args_fit;
        locals = holds.locals_fit;
        stack = holds.values;
        entry_heap_is = subst IsHeap (sym on.entry_heap_is) is.frame.entry_heap_is;
        entry_args = subst (λ (h : Heap). FitPlaces h unit.args q.frame.entry_args) (sym on.entry_heap_is)
            (subst (λ (vs : List Value). FitPlaces p.frame.entry_heap unit.args vs) (sym on.entry_args_are) is.frame.entry_args);
        kept = keeps_on q.frame.entry_heap p.heap q.heap entry on.kept;
      };
    }

-- Where an instruction goes on by one of its effects.
pub effect_point : (unit : MethodUnit) (i : Instr) (p q : Point) → OperandFits i.op → IsPointOf unit p → HasEffect (effects unit i p.frame p.heap) (GoesOn q.frame q.heap)
    → IsPointOf unit q
effect_point unit i p q fits is has = goes_on unit p q is (effect_keeps unit i p.frame p.heap (GoesOn q.frame q.heap) fits has)

-- Where a step of the frame alone goes on.
pub step_point : (unit : MethodUnit) (p q : Point) → MakesValues unit → IsPointOf unit p → LocalStep unit (lives_at p) (lives_at q) → IsPointOf unit q
step_point unit p q makes is step =
    let kept = local_step_keeps unit p.frame p.heap is.heap is.frame (lives_at q) makes step in record { heap = kept.0; frame = kept.1 }

-- ---- runs

abbrev IsPoint : MethodUnit → Config → Type 0
IsPoint unit (configs.Live (f ∷ []) heap) = IsPointOf unit (point f heap)
IsPoint unit (configs.Live _ heap) = ⊥
IsPoint unit _ = Unit {0}

kept_point : (unit : MethodUnit) (f : Frame) (heap : Heap) (new : Config) → KeepsFrame unit f heap new → IsPoint unit new
kept_point unit f heap (configs.Live (g ∷ []) after) kept = record { heap = kept.0; frame = kept.1 }
kept_point unit f heap (configs.Live [] after) kept = absurd kept
kept_point unit f heap (configs.Live (g ∷ h ∷ frames) after) kept = absurd kept
kept_point unit f heap _ kept = tt

one_step : (unit : MethodUnit) (c new : Config) → MakesValues unit → IsPoint unit c → LocalStep unit c new → IsPoint unit new
one_step unit (configs.Live (f ∷ []) heap) new makes is step = kept_point unit f heap new (local_step_keeps unit f heap is.heap is.frame new makes step)
one_step unit (configs.Live [] heap) new makes is step = absurd is
one_step unit (configs.Live (f ∷ g ∷ frames) heap) new makes is step = absurd is
one_step unit _ new makes is step = absurd step

steps : (unit : MethodUnit) (start : Config) (n : ℕ) (c : Config) → MakesValues unit → IsPoint unit start → StepsTo (LocalStep unit) start n c → IsPoint unit c
steps unit start zero c makes is same = subst (IsPoint unit) (sym same) is
steps unit start (suc n) c makes is (mid, before, step) = one_step unit mid c makes (steps unit start n mid makes is before) step

-- Each point of a run of the unit by itself.
pub reached_point : (unit : MethodUnit) (p : Point) → MakesValues unit → IsReached unit p → IsPointOf unit p
reached_point unit p makes reached =
    steps unit (entry_config unit reached.index reached.args reached.heap) reached.count (lives_at p) makes
    (entry_point unit reached.index reached.args reached.heap makes.locals reached.runs.begins) reached.runs.steps

pub runs_have_values : (unit : MethodUnit) → MakesValues unit → RunsHaveValues unit
runs_have_values unit makes = λ p reached. point_values unit p (reached_point unit p makes reached)

-- Each frame of a run of a world.
frames_values : (units : List MethodUnit) (heap : Heap) (frames : List Frame) → IsHeap heap → AllByRecursion (IsFrame units heap) frames
    → AllByRecursion (λ f. HasMachineValues (point f heap)) frames
frames_values units heap [] is are = tt
frames_values units heap (f ∷ frames) is are =
    (point_values are.0.unit (point f heap) (record { heap = is; frame = are.0.is }), frames_values units heap frames is are.1)

pub world_values : (w : World) (m : ℕ) (args : List Value) (heap : Heap) (n : ℕ) (frames : List Frame) (after : Heap) → AllMakeValues w
    → Runs w m args heap n (configs.Live frames after) → AllByRecursion (λ f. HasMachineValues (point f after)) frames
world_values w m args heap n frames after makes runs =
    let is = runs_keep w m args heap n (configs.Live frames after) makes runs in frames_values w.units after frames is.0 is.1
