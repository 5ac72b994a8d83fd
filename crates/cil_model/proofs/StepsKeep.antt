-- Steps keep configurations: values stay values, variables hold values of their types, and no array changes its
-- type or its length.
use Rattle.std.proofs.Common.{◌≡◌, ℕ, zero, suc, ◌+◌, List, [], ◌∷◌, ◌++◌, length, map, reverse, take, drop, option_map, Option, Some, None, slice_get, refl, sym, ap, subst, ◌∙◌, arith, length-append, inl, inr}
use Rattle.std.specs.List.{AllByRecursion}
use Rattle.std.proofs.lemmas.Int.{ints}
use Rattle.std.proofs.lemmas.Option.{none-some, same_Some}
use Rattle.cil_model.specs.Calls.{FreeCall, FreelyCalled, FitsResult, Returned, Returns, args_of, behind_call, called, ensures_fault, entry_frame, pushed, result_of}
use Rattle.cil_model.specs.Clauses.{false_requires}
use Rattle.cil_model.specs.Configs.{ArraysKept, IsConfig, IsFrame, IsFrameOf}
use Rattle.cil_model.specs.Effects.{Effect, GoesOn, Faults, Assumes, FindsNoRoom}
use Rattle.cil_model.specs.FitKinds.{OperandFits}
use Rattle.cil_model.specs.Runs.{CallsBy, EffectRow, LocalStep, Row, Runs, Step, StepsTo, config_after, entry_config}
use Rattle.cil_model.specs.Code.{CodeOf}
use Rattle.cil_model.specs.UnitCalls.{unit_call}
use Rattle.cil_model.specs.Values.{Heap, FitPlaces, IsHeap, IsValue, KeepsForms, put, zero_of}
use Rattle.cil_model.specs.WellFormed.{HoldValues}
use Rattle.cil_model.specs.declared.instruction.Instr.{Instr}
use Rattle.cil_model.specs.declared.instruction.Op.{Op}
use Rattle.cil_model.specs.declared.instruction.Op.TheVariants as ops
use Rattle.cil_model.specs.declared.machine.Config.{Config}
use Rattle.cil_model.specs.declared.machine.Config.TheVariants as configs
use Rattle.cil_model.specs.declared.machine.Frame.{Frame}
use Rattle.cil_model.specs.declared.machine.Value.{Value}
use Rattle.cil_model.specs.declared.machine.World.{World}
use Rattle.cil_model.specs.declared.place.Place.{Place}
use Rattle.cil_model.specs.declared.place.Place.TheVariants as places
use Rattle.cil_model.specs.declared.unit.CalleeInfo.{CalleeInfo}
use Rattle.cil_model.specs.declared.unit.Unit.{Unit as MethodUnit}
use Rattle.cil_model.specs.declared.unit_numbers.UnitCall.{UnitCall}
use Rattle.cil_model.specs.declared.unit_numbers.UnitCall.TheVariants as calls
use Rattle.cil_model.proofs.EffectsKeep.{Continues, EffectKeeps, effect_keeps}
use Rattle.cil_model.proofs.HeapsKept.{AreValues-kept, FitPlaces-kept, keeps_itself, keeps_on, put_all_fit, put_fits, value_of_place}
use Rattle.cil_model.proofs.Lists.{all_append, all_drop, all_reverse, all_split, all_take, of_found}
use Rattle.cil_model.proofs.Options.{map_from}
use Rattle.cil_model.proofs.Rows.{code_is_decoded}
use Rattle.cil_model.proofs.StepKinds.{StepKind, above, step_kind}

-- ---- units

-- The locals of the unit hold values, and the constants of its code are int32. Each well formed unit is one.
pub record MakesValues (unit : MethodUnit) : Type 0 where
  pub locals : HoldValues unit.locals
  pub constants : AllByRecursion (λ i. OperandFits i.op) unit.instrs

pub code_makes_values : (unit : MethodUnit) → CodeOf unit.instrs unit.code → HoldValues unit.locals → MakesValues unit
code_makes_values unit code hold = record { locals = hold; constants = (code_is_decoded unit.instrs unit.code code).constants }

-- ---- frames

pub frame_kept : (unit : MethodUnit) (heap after : Heap) (f : Frame) → KeepsForms heap after → IsFrameOf unit heap f → IsFrameOf unit after f
frame_kept unit heap after f kept is = record {
  args = FitPlaces-kept heap after kept unit.args f.args is.args;
  locals = FitPlaces-kept heap after kept unit.locals f.locals is.locals;
  stack = AreValues-kept heap after kept f.stack is.stack;
  entry_heap_is = is.entry_heap_is;
  entry_args = is.entry_args;
  kept = keeps_on f.entry_heap heap after is.kept kept;
}

frames_kept : (units : List MethodUnit) (heap after : Heap) (frames : List Frame) → KeepsForms heap after
    → AllByRecursion (IsFrame units heap) frames → AllByRecursion (IsFrame units after) frames
frames_kept units heap after [] kept are = tt
frames_kept units heap after (f ∷ frames) kept are =
    (record { unit = are.0.unit; of = are.0.of; is = frame_kept are.0.unit heap after f kept are.0.is }, frames_kept units heap after frames kept are.1)

-- A frame of another offset and stack.
frame_with : (unit : MethodUnit) (heap : Heap) (f : Frame) (at : ℕ) (stack : List Value) → IsFrameOf unit heap f → AllByRecursion (IsValue heap) stack
    → IsFrameOf unit heap (record f { at = at; stack = stack })
frame_with unit heap f at stack is values = record {
  args = is.args;
  locals = is.locals;
  stack = values;
  entry_heap_is = is.entry_heap_is;
  entry_args = is.entry_args;
  kept = is.kept;
}

-- ---- calls and returns

zeros_fit : (heap : Heap) (types : List Place) → HoldValues types → FitPlaces heap types (map zero_of types)
zeros_fit heap [] hold = tt
zeros_fit heap (places.Void ∷ types) hold = absurd (hold.0 refl)
zeros_fit heap (places.Bool ∷ types) hold = ((omega (arith, ints), omega (arith, ints)), zeros_fit heap types hold.1)
zeros_fit heap (places.Int ∷ types) hold = (omega (arith, ints), zeros_fit heap types hold.1)
zeros_fit heap (places.Bools ∷ types) hold = (tt, zeros_fit heap types hold.1)
zeros_fit heap (places.Ints ∷ types) hold = (tt, zeros_fit heap types hold.1)

pub args_fit : (heap : Heap) (types : List Place) (stack args : List Value) → AllByRecursion (IsValue heap) stack → args_of heap types stack ≡ Some args → FitPlaces heap types args
args_fit heap types stack args values e =
    let taken = all_take (IsValue heap) (length types) stack values in
    put_all_fit heap types (reverse (take (length types) stack)) args (all_reverse (IsValue heap) (take (length types) stack) taken) e

pub entry_frame_is : (unit : MethodUnit) (index : ℕ) (args : List Value) (heap : Heap) → HoldValues unit.locals → IsHeap heap → FitPlaces heap unit.args args
    → IsFrameOf unit heap (entry_frame unit index args heap)
entry_frame_is unit index args heap hold is fit = record {
  args = fit;
  locals = zeros_fit heap unit.locals hold;
  stack = tt;
  entry_heap_is = is;
  entry_args = fit;
  kept = keeps_itself heap;
}

-- A result is no value, or a value of the heap.
abbrev IsResult : Heap → Option Value → Type 0
IsResult heap None = Unit {0}
IsResult heap (Some v) = IsValue heap v

pushed_is : (unit : MethodUnit) (heap : Heap) (f : Frame) (result : Option Value) → IsFrameOf unit heap f → IsResult heap result → IsFrameOf unit heap (pushed f result)
pushed_is unit heap f None is value = is
pushed_is unit heap f (Some v) is value = frame_with unit heap f f.at (v ∷ f.stack) is (value, is.stack)

pushed_unit : (f : Frame) (result : Option Value) → (pushed f result).unit ≡ f.unit
pushed_unit f None = refl
pushed_unit f (Some v) = refl

behind_call_is : (unit : MethodUnit) (heap : Heap) (i : Instr) (count : ℕ) (f : Frame) → IsFrameOf unit heap f → IsFrameOf unit heap (behind_call i count f)
behind_call_is unit heap i count f is = frame_with unit heap f (i.at + i.size) (drop count f.stack) is (all_drop (IsValue heap) count f.stack is.stack)

fits_result : (heap : Heap) (place : Place) (result : Option Value) → FitsResult heap place result → IsResult heap result
fits_result heap place None fits = tt
fits_result heap places.Void (Some v) fits = absurd fits
fits_result heap places.Bool (Some v) fits = value_of_place heap places.Bool v fits
fits_result heap places.Int (Some v) fits = value_of_place heap places.Int v fits
fits_result heap places.Bools (Some v) fits = value_of_place heap places.Bools v fits
fits_result heap places.Ints (Some v) fits = value_of_place heap places.Ints v fits

put_result : (heap : Heap) (place : Place) (v : Value) (result : Option Value) → IsValue heap v → option_map Some (put heap place v) ≡ Some result → IsResult heap result
put_result heap place v result is e =
    let (new, put_is, same) = map_from Some (put heap place v) result e in
    subst (IsResult heap) (sym same) (value_of_place heap place new (put_fits heap place v new is put_is))

returned_is : (heap : Heap) (place : Place) (stack : List Value) (result : Option Value) → AllByRecursion (IsValue heap) stack → result_of heap place stack ≡ Some result → IsResult heap result
returned_is heap places.Void [] result values e = subst (IsResult heap) (same_Some None result e) tt
returned_is heap places.Bool [] result values e = absurd (none-some result e)
returned_is heap places.Int [] result values e = absurd (none-some result e)
returned_is heap places.Bools [] result values e = absurd (none-some result e)
returned_is heap places.Ints [] result values e = absurd (none-some result e)
returned_is heap place (v ∷ []) result values e = put_result heap place v result values.0 e
returned_is heap place (v ∷ w ∷ stack) result values e = absurd (none-some result e)

no_caller : (outer : List Frame) (caller : Frame) → [] ≡ outer ++ caller ∷ [] → ⊥
no_caller outer caller e = let lengths : 0 ≡ length (outer ++ caller ∷ []) = ap length e in omega (arith, length-append outer (caller ∷ []))

-- ---- a step of one frame

-- What a step of one frame by itself comes to: the frame went on, or the run ended.
abbrev pub KeepsFrame : MethodUnit → Frame → Heap → Config → Type 0
KeepsFrame unit f heap (configs.Live (g ∷ []) after) = IsHeap after × IsFrameOf unit after g × (g.unit ≡ f.unit) × KeepsForms heap after
KeepsFrame unit f heap (configs.Live _ after) = ⊥
KeepsFrame unit f heap _ = Unit {0}

module _ (unit : MethodUnit) (f : Frame) (heap : Heap) (is : IsHeap heap) (frame : IsFrameOf unit heap f) where
  continues_keeps : (new : Frame) (after : Heap) → Continues unit f heap f.stack new after → KeepsFrame unit f heap (configs.Live (new ∷ []) after)
  continues_keeps new after on =
      let holds = on.holds (record { heap_is = is; args_fit = frame.args; locals_fit = frame.locals; values = frame.stack }) in
      let entry : KeepsForms new.entry_heap heap = subst (λ (h : Heap). KeepsForms h heap) (sym on.entry_heap_is) frame.kept in (
        holds.heap_is,
        record {
          args = holds.args_fit;
          locals = holds.locals_fit;
          stack = holds.values;
          entry_heap_is = subst IsHeap (sym on.entry_heap_is) frame.entry_heap_is;
          entry_args = subst (λ (h : Heap). FitPlaces h unit.args new.entry_args) (sym on.entry_heap_is)
              (subst (λ (vs : List Value). FitPlaces f.entry_heap unit.args vs) (sym on.entry_args_are) frame.entry_args);
          kept = keeps_on new.entry_heap heap after entry on.kept;
        },
        on.unit_is,
        on.kept,
      )

  effect_keeps_frame : (i : Instr) (effect : Effect) → EffectKeeps unit f heap f.stack effect → KeepsFrame unit f heap (config_after [] f i effect)
  effect_keeps_frame i (GoesOn new after) on = continues_keeps new after on
  effect_keeps_frame i (Faults kind) on = tt
  effect_keeps_frame i Assumes on = tt
  effect_keeps_frame i FindsNoRoom on = tt

  row_of_effects : (i : Instr) (new : Config) → OperandFits i.op → EffectRow [] unit i f heap new → KeepsFrame unit f heap new
  row_of_effects i new fits (effect, has, to) = subst (KeepsFrame unit f heap) (sym to) (effect_keeps_frame i effect (effect_keeps unit i f heap effect fits has))

  freely_called : (callee : CalleeInfo) (args : List Value) (i : Instr) (fault : Option ℕ) (new : Config) → FreelyCalled callee args i f heap fault new → KeepsFrame unit f heap new
  freely_called callee args i (Some k) new to = subst (KeepsFrame unit f heap) (sym to) tt
  freely_called callee args i None new (inl ends) = subst (KeepsFrame unit f heap) (sym ends) tt
  freely_called callee args i None new (inr (after, result, free, to)) =
      let kept = free.keeps.forms in
      let behind = behind_call i (length callee.args) f in
      let went = behind_call_is unit after i (length callee.args) f (frame_kept unit heap after f kept frame) in
      subst (KeepsFrame unit f heap) (sym to) (
        free.heap_is,
        pushed_is unit after behind result went (fits_result after callee.result result free.fits),
        pushed_unit behind result,
        kept,
      )

  call_keeps : (call : Option UnitCall) (i : Instr) (new : Config) → OperandFits i.op → CallsBy (FreeCall unit) call [] unit i f heap new → KeepsFrame unit f heap new
  call_keeps (Some (calls.Callee number)) i new fits row = freely_called row.callee row.args i (false_requires row.callee.clauses row.args heap) new row.freely
  call_keeps _ i new fits row = row_of_effects i new fits row

  returns_keeps : (result : Option Value) (new : Config) → Returns [] result heap new → KeepsFrame unit f heap new
  returns_keeps result new (inl ends) = subst (KeepsFrame unit f heap) (sym ends.1) tt
  returns_keeps result new (inr (outer, caller, none, to)) = absurd (no_caller outer caller none)

  returned_keeps : (i : Instr) (result : Option Value) (fault : Option ℕ) (new : Config) → Returned [] i f heap result fault new → KeepsFrame unit f heap new
  returned_keeps i result (Some k) new to = subst (KeepsFrame unit f heap) (sym to) tt
  returned_keeps i result None new to = returns_keeps result new to

  row_keeps : (op : Op) (i : Instr) (new : Config) → OperandFits i.op → Row (FreeCall unit) op [] unit i f heap new → KeepsFrame unit f heap new
  row_keeps ops.Return i new fits (result, is_result, returned) = returned_keeps i result (ensures_fault unit f heap result) new returned
  row_keeps (ops.Call number) i new fits row = call_keeps (unit_call number) i new fits row
  row_keeps _ i new fits row = row_of_effects i new fits row

  -- A step of one frame by itself keeps what it is.
  pub local_step_keeps : (new : Config) → MakesValues unit → LocalStep unit (configs.Live (f ∷ []) heap) new → KeepsFrame unit f heap new
  local_step_keeps new makes (i, found, row) = row_keeps i.op i new (of_found (λ j. OperandFits j.op) unit.instrs f.at i makes.constants found) row

-- ---- a step of a world

-- Each unit of the world makes values.
abbrev pub AllMakeValues : World → Type 0
AllMakeValues w = (m : ℕ) (unit : MethodUnit) → slice_get w.units m ≡ Some unit → MakesValues unit

module _ (w : World) (heap : Heap) where
  -- A configuration that comes after one over this heap.
  abbrev ComesAfter : Config → Type 0
  ComesAfter new = IsConfig w.units new × ArraysKept (configs.Live [] heap) new

  frame_is : (unit : MethodUnit) (f : Frame) → slice_get w.units f.unit ≡ Some unit → IsFrame w.units heap f → IsFrameOf unit heap f
  frame_is unit f of frame = subst (λ (u : MethodUnit). IsFrameOf u heap f) (same_Some frame.unit unit (sym frame.of ∙ of)) frame.is

  local_above : (callers : List Frame) (unit : MethodUnit) (f : Frame) (local : Config) → slice_get w.units f.unit ≡ Some unit
      → AllByRecursion (IsFrame w.units heap) callers → KeepsFrame unit f heap local → ComesAfter (above callers local)
  local_above callers unit f (configs.Live (g ∷ []) after) of below (after_is, frame, same, kept) =
      let last : IsFrame w.units after g = record { unit = unit; of = ap (slice_get w.units) same ∙ of; is = frame } in
      ((after_is, all_append (IsFrame w.units after) callers (g ∷ []) (frames_kept w.units heap after callers kept below) (last, tt)), kept)
  local_above callers unit f (configs.Live [] after) of below kept = absurd kept
  local_above callers unit f (configs.Live (g ∷ h ∷ frames) after) of below kept = absurd kept
  local_above callers unit f _ of below kept = (tt, tt)

  called_comes : (callers : List Frame) (unit callee : MethodUnit) (index : ℕ) (args : List Value) (i : Instr) (f : Frame) (fault : Option ℕ)
      → IsHeap heap → AllByRecursion (IsFrame w.units heap) callers → slice_get w.units f.unit ≡ Some unit → IsFrameOf unit heap f
      → slice_get w.units index ≡ Some callee → HoldValues callee.locals → FitPlaces heap callee.args args
      → ComesAfter (called callers callee index args i f heap fault)
  called_comes callers unit callee index args i f (Some k) is below of frame callee_is hold fit = (tt, tt)
  called_comes callers unit callee index args i f None is below of frame callee_is hold fit =
      let caller = behind_call i (length callee.args) f in
      let entry = entry_frame callee index args heap in
      let first : IsFrame w.units heap caller = record { unit = unit; of = of; is = behind_call_is unit heap i (length callee.args) f frame } in
      let second : IsFrame w.units heap entry = record { unit = callee; of = callee_is; is = entry_frame_is callee index args heap hold is fit } in
      ((is, all_append (IsFrame w.units heap) callers (caller ∷ entry ∷ []) below (first, (second, tt))), keeps_itself heap)

  returns_come : (callers : List Frame) (result : Option Value) (new : Config) → IsHeap heap → AllByRecursion (IsFrame w.units heap) callers
      → IsResult heap result → Returns callers result heap new → ComesAfter new
  returns_come callers result new is below value (inl ends) = subst ComesAfter (sym ends.1) (tt, tt)
  returns_come callers result new is below value (inr (outer, caller, are, to)) =
      let parts = all_split (IsFrame w.units heap) outer (caller ∷ []) (subst (AllByRecursion (IsFrame w.units heap)) are below) in
      let resumed : IsFrame w.units heap (pushed caller result) = record {
        unit = parts.1.0.unit;
        of = ap (slice_get w.units) (pushed_unit caller result) ∙ parts.1.0.of;
        is = pushed_is parts.1.0.unit heap caller result parts.1.0.is value;
      } in
      subst ComesAfter (sym to) ((is, all_append (IsFrame w.units heap) outer (pushed caller result ∷ []) parts.0 (resumed, tt)), keeps_itself heap)

  returned_comes : (callers : List Frame) (i : Instr) (f : Frame) (result : Option Value) (fault : Option ℕ) (new : Config) → IsHeap heap
      → AllByRecursion (IsFrame w.units heap) callers → IsResult heap result → Returned callers i f heap result fault new → ComesAfter new
  returned_comes callers i f result (Some k) new is below value to = subst ComesAfter (sym to) (tt, tt)
  returned_comes callers i f result None new is below value to = returns_come callers result new is below value to

  -- A step of a world comes to a configuration again, and no array changes its type or its length.
  step_comes : (frames : List Frame) (new : Config) → AllMakeValues w → IsConfig w.units (configs.Live frames heap) → StepKind w frames heap new → ComesAfter new
  step_comes frames new make (is, are) kind =
      let f = kind.last in
      let of = kind.about.of in
      let parts = all_split (IsFrame w.units heap) kind.callers (f ∷ []) (subst (AllByRecursion (IsFrame w.units heap)) kind.frames_are are) in
      let frame = frame_is kind.unit f of parts.1.0 in
      elim kind.kind [
        | inl (local, step, same) ↦
            subst ComesAfter (sym same) (local_above kind.callers kind.unit f local of parts.0 (local_step_keeps kind.unit f heap is frame local (make f.unit kind.unit of) step))
        | inr (inl (return, (result, is_result, returned))) ↦
            returned_comes kind.callers kind.instr f result (ensures_fault kind.unit f heap result) new is parts.0 (returned_is heap kind.unit.result f.stack result frame.stack is_result) returned
        | inr (inr (number, call, row)) ↦
            let fit = args_fit heap row.callee.args f.stack row.args frame.stack row.args_are in
            subst ComesAfter (sym row.new_is)
            (called_comes kind.callers kind.unit row.callee row.index row.args kind.instr f (false_requires row.callee.clauses row.args heap)
            is parts.0 of frame row.callee_is (make row.index row.callee row.callee_is).locals fit)
      ]

live_keeps : (w : World) (frames : List Frame) (heap : Heap) (new : Config) → ComesAfter w heap new → IsConfig w.units new × ArraysKept (configs.Live frames heap) new
live_keeps w frames heap (configs.Live others after) comes = comes
live_keeps w frames heap _ comes = comes

pub step_keeps : (w : World) (c new : Config) → AllMakeValues w → IsConfig w.units c → Step w c new → IsConfig w.units new × ArraysKept c new
step_keeps w (configs.Live frames heap) new make is step = live_keeps w frames heap new (step_comes w heap frames new make is (step_kind w frames heap new step))
step_keeps w _ new make is step = absurd step

-- So is whatever a run of the world comes to.
pub steps_keep : (w : World) (start : Config) (n : ℕ) (c : Config) → AllMakeValues w → IsConfig w.units start → StepsTo (Step w) start n c → IsConfig w.units c
steps_keep w start zero c make is same = subst (IsConfig w.units) (sym same) is
steps_keep w start (suc n) c make is (mid, steps, step) = (step_keeps w mid c make (steps_keep w start n mid make is steps) step).0

-- And so is whatever a run of one of its methods comes to.
pub runs_keep : (w : World) (m : ℕ) (args : List Value) (heap : Heap) (n : ℕ) (c : Config) → AllMakeValues w → Runs w m args heap n c → IsConfig w.units c
runs_keep w m args heap n c make runs =
    let frame = entry_frame_is runs.unit m args heap (make m runs.unit runs.unit_is).locals runs.begins.heap_is runs.begins.fit in
    steps_keep w (entry_config runs.unit m args heap) n c make (runs.begins.heap_is, (record { unit = runs.unit; of = runs.unit_is; is = frame }, tt)) runs.steps
