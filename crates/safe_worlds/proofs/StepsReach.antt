-- A run of a unit by itself keeps within the reach of its frame.
use Rattle.std.proofs.Common.{◌≡◌, ℕ, zero, suc, ◌<◌, ◌≤◌, Contains, List, [], ◌∷◌, ◌++◌, length, map, reverse, take, Option, Some, None, option_map, slice_get, refl, sym, ap, subst, ◌∙◌, arith, length-append, inl, inr}
use Rattle.std.specs.List.{AllByRecursion}
use Rattle.std.proofs.lemmas.List.Elements.{All-contains, All-from_recursion}
use Rattle.std.proofs.lemmas.Option.{none-some, same_Some}
use Rattle.cil_model.specs.Calls.{FitsResult, FreeCall, FreelyCalled, FreeReturn, IsPassedOrNew, KeepsArrays, Returned, Returns, args_of, behind_call, ensures_fault, entry_frame, pushed, result_of}
use Rattle.cil_model.specs.Clauses.{false_requires}
use Rattle.cil_model.specs.Configs.{IsFrameOf}
use Rattle.cil_model.specs.Effects.{Effect, GoesOn, Faults, Assumes, FindsNoRoom}
use Rattle.cil_model.specs.Runs.{CallsBy, EffectRow, LocalRuns, LocalStep, MayBegin, Row, StepsTo, config_after, entry_config}
use Rattle.cil_model.specs.UnitCalls.{unit_call}
use Rattle.cil_model.specs.Values.{FitPlaces, FitsPlace, Heap, IsHeap, IsValue, KeepsForms, put, zero_of}
use Rattle.cil_model.specs.Worlds.{info_of}
use Rattle.cil_model.specs.declared.instruction.Instr.{Instr}
use Rattle.cil_model.specs.declared.instruction.Op.{Op}
use Rattle.cil_model.specs.declared.instruction.Op.TheVariants as ops
use Rattle.cil_model.specs.declared.machine.Config.{Config}
use Rattle.cil_model.specs.declared.machine.Config.TheVariants as configs
use Rattle.cil_model.specs.declared.machine.Frame.{Frame}
use Rattle.cil_model.specs.declared.machine.Value.{Value}
use Rattle.cil_model.specs.declared.machine.Value.TheVariants.{Array, Addr}
use Rattle.cil_model.specs.declared.place.Place.{Place}
use Rattle.cil_model.specs.declared.place.Place.TheVariants as places
use Rattle.cil_model.specs.declared.unit.CalleeInfo.{CalleeInfo}
use Rattle.cil_model.specs.declared.unit.Unit.{Unit as MethodUnit}
use Rattle.cil_model.specs.declared.unit_numbers.UnitCall.{UnitCall}
use Rattle.cil_model.specs.declared.unit_numbers.UnitCall.TheVariants as calls
use Rattle.cil_model.proofs.HeapsKept.{keeps_itself, keeps_on, put_fits}
use Rattle.cil_model.proofs.Lists.{all_drop, all_reverse, all_take}
use Rattle.cil_model.proofs.Options.{map_from}
use Rattle.cil_model.proofs.StepsKeep.{KeepsFrame, MakesValues, entry_frame_is, local_step_keeps}
use Rattle.safe_worlds.specs.Frames.{IsInReach, KeepsItsReach, entry_of}
use Rattle.safe_worlds.specs.declared.entry.Entry.{Entry}
use Rattle.safe_worlds.proofs.EffectsReach.{EffectInReach, GoesOnInReach, effect_in_reach, put_all_reach, put_reach}

-- ---- values and heaps

no_shorter : (old new : Heap) → KeepsForms old new → length old ≤ length new
no_shorter [] new kept = omega arith
no_shorter (cell ∷ old) [] kept = absurd kept
no_shorter (cell ∷ old) (now ∷ new) kept = let rest = no_shorter old new kept.2 in omega arith

pub each_contained : (P : Value → Type 0) (vs : List Value) (v : Value) → AllByRecursion P vs → Contains vs v → P v
each_contained P vs v all contained = All-contains P vs v (All-from_recursion P vs all) contained

-- What is passed on, or made later, is in reach.
passed_on : (entry : Entry) (heap : Heap) (args : List Value) (v : Value) → length entry.heap ≤ length heap
    → AllByRecursion (IsInReach entry) args
    → IsPassedOrNew heap args (Some v) → IsInReach entry v
passed_on entry heap args (Array a) more are (inl contained) =
    each_contained (IsInReach entry) args (Array a) are contained
passed_on entry heap args (Array a) more are (inr new) = inr (omega arith)
passed_on entry heap args (Addr a n) more are (inl contained) =
    each_contained (IsInReach entry) args (Array a) are contained
passed_on entry heap args (Addr a n) more are (inr new) = inr (omega arith)
passed_on entry heap args _ more are is = tt

-- An array that was there and was not passed is out of reach.
out_of_reach : (entry : Entry) (a : ℕ) → a < length entry.heap → (Contains entry.args (Array a) → ⊥)
    → IsInReach entry (Array a) → ⊥
out_of_reach entry a below apart (inl contained) = apart contained
out_of_reach entry a below apart (inr new) = omega arith

-- Arrays that keep to an entry, over a heap in which nothing changes but what is in reach.
pub keeps_in_reach : (entry : Entry) (heap after : Heap) → KeepsArrays entry.heap heap entry.args
    → KeepsForms heap after
    → ((a : ℕ) → a < length heap → (IsInReach entry (Array a) → ⊥) → slice_get after a ≡ slice_get heap a)
    → KeepsArrays entry.heap after entry.args
keeps_in_reach entry heap after keeps kept items = record {
  forms = keeps_on entry.heap heap after keeps.forms kept;
  items = λ a below apart.
      let more = no_shorter entry.heap heap keeps.forms in
      items a (omega arith) (out_of_reach entry a below apart) ∙ keeps.items a below apart;
}

-- A call whose arguments are in reach changes nothing else.
pub keeps_call : (entry : Entry) (heap after : Heap) (args : List Value) → KeepsArrays entry.heap heap entry.args
    → AllByRecursion (IsInReach entry) args
    → KeepsArrays heap after args → KeepsArrays entry.heap after entry.args
keeps_call entry heap after args keeps are call =
    keeps_in_reach entry heap after keeps call.forms
    (λ a below apart. call.items a below
    (λ contained. apart (each_contained (IsInReach entry) args (Array a) are contained)))

pub args_in_reach : (entry : Entry) (heap : Heap) (types : List Place) (stack args : List Value)
    → AllByRecursion (IsInReach entry) stack
    → args_of heap types stack ≡ Some args → AllByRecursion (IsInReach entry) args
args_in_reach entry heap types stack args are e =
    let P = IsInReach entry in
    put_all_reach entry heap types (reverse (take (length types) stack)) args
    (all_reverse P (take (length types) stack) (all_take P (length types) stack are)) e

-- ---- a step of one frame

-- What a step of a frame comes to: it went on within its reach, or the run ended.
abbrev StepInReach : Entry → Frame → Heap → Config → Type 0
StepInReach entry f heap (configs.Live (g ∷ []) after) = GoesOnInReach entry f heap g after
StepInReach entry f heap (configs.Live _ after) = ⊥
StepInReach entry f heap _ = Unit {0}

pub no_caller : (outer : List Frame) (caller : Frame) → [] ≡ outer ++ caller ∷ [] → ⊥
no_caller outer caller e =
    let lengths : 0 ≡ length (outer ++ caller ∷ []) = ap length e in omega (arith, length-append outer (caller ∷ []))

module _ (entry : Entry) (unit : MethodUnit) (f : Frame) (heap : Heap) (reach : KeepsItsReach entry f heap) where
  more : length entry.heap ≤ length heap
  more = no_shorter entry.heap heap reach.keeps.forms

  effect_steps : (i : Instr) (effect : Effect) → EffectInReach entry f heap effect
      → StepInReach entry f heap (config_after [] f i effect)
  effect_steps i (GoesOn new after) on = on
  effect_steps i (Faults kind) on = tt
  effect_steps i Assumes on = tt
  effect_steps i FindsNoRoom on = tt

  row_of_effects : (i : Instr) (new : Config) → EffectRow [] unit i f heap new → StepInReach entry f heap new
  row_of_effects i new (effect, has, to) =
      subst (StepInReach entry f heap) (sym to)
      (effect_steps i effect
      (effect_in_reach entry unit i f heap more reach.args reach.locals effect reach.stack has))

  -- The frame after a call, with its result.
  resumed : (i : Instr) (count : ℕ) (args : List Value) (after : Heap) (result : Option Value)
      → AllByRecursion (IsInReach entry) args
      → KeepsArrays heap after args → IsPassedOrNew heap args result
      → GoesOnInReach entry f heap (pushed (behind_call i count f) result) after
  resumed i count args after None are keeps is = record {
    same = refl;
    args = reach.args;
    locals = reach.locals;
    stack = all_drop (IsInReach entry) count f.stack reach.stack;
    items =
        λ a below apart. keeps.items a below
        (λ contained. apart (each_contained (IsInReach entry) args (Array a) are contained));
  }
  resumed i count args after (Some v) are keeps is = record {
    same = refl;
    args = reach.args;
    locals = reach.locals;
    stack = (passed_on entry heap args v more are is, all_drop (IsInReach entry) count f.stack reach.stack);
    items =
        λ a below apart. keeps.items a below
        (λ contained. apart (each_contained (IsInReach entry) args (Array a) are contained));
  }

  freely_called : (callee : CalleeInfo) (args : List Value) (i : Instr) (fault : Option ℕ) (new : Config)
      → AllByRecursion (IsInReach entry) args
      → FreelyCalled callee args i f heap fault new → StepInReach entry f heap new
  freely_called callee args i (Some k) new are to = subst (StepInReach entry f heap) (sym to) tt
  freely_called callee args i None new are (inl ends) = subst (StepInReach entry f heap) (sym ends) tt
  freely_called callee args i None new are (inr (after, result, free, to)) =
      subst (StepInReach entry f heap) (sym to)
      (resumed i (length callee.args) args after result are free.keeps free.passed_or_new)

  call_steps : (call : Option UnitCall) (i : Instr) (new : Config) → CallsBy (FreeCall unit) call [] unit i f heap new
      → StepInReach entry f heap new
  call_steps (Some (calls.Callee number)) i new row =
      freely_called row.callee row.args i (false_requires row.callee.clauses row.args heap) new
      (args_in_reach entry heap row.callee.args f.stack row.args reach.stack row.args_are) row.freely
  call_steps _ i new row = row_of_effects i new row

  returns_step : (result : Option Value) (new : Config) → Returns [] result heap new → StepInReach entry f heap new
  returns_step result new (inl ends) = subst (StepInReach entry f heap) (sym ends.1) tt
  returns_step result new (inr (outer, caller, none, to)) = absurd (no_caller outer caller none)

  returned_steps : (i : Instr) (result : Option Value) (fault : Option ℕ) (new : Config)
      → Returned [] i f heap result fault new → StepInReach entry f heap new
  returned_steps i result (Some k) new to = subst (StepInReach entry f heap) (sym to) tt
  returned_steps i result None new to = returns_step result new to

  row_steps : (op : Op) (i : Instr) (new : Config) → Row (FreeCall unit) op [] unit i f heap new
      → StepInReach entry f heap new
  row_steps ops.Return i new (result, is_result, returned) =
      returned_steps i result (ensures_fault unit f heap result) new returned
  row_steps (ops.Call number) i new row = call_steps (unit_call number) i new row
  row_steps _ i new row = row_of_effects i new row

  pub local_step_in_reach : (new : Config) → LocalStep unit (configs.Live (f ∷ []) heap) new
      → StepInReach entry f heap new
  local_step_in_reach new (i, found, row) = row_steps i.op i new row

-- ---- runs of one unit

-- A frame of this unit and this entry, which has kept within its reach.
pub record IsUnderWay (unit : MethodUnit) (entry : Entry) (f : Frame) (heap : Heap) : Type 0 where
  pub began : entry_of f ≡ entry
  pub heap_is : IsHeap heap
  pub frame : IsFrameOf unit heap f
  pub reach : KeepsItsReach entry f heap

abbrev pub ConfigUnderWay : MethodUnit → Entry → Config → Type 0
ConfigUnderWay unit entry (configs.Live (f ∷ []) heap) = IsUnderWay unit entry f heap
ConfigUnderWay unit entry (configs.Live _ heap) = ⊥
ConfigUnderWay unit entry _ = Unit {0}

went_on : (unit : MethodUnit) (entry : Entry) (f : Frame) (heap : Heap) (new : Config) → IsUnderWay unit entry f heap
    → KeepsFrame unit f heap new
    → StepInReach entry f heap new → ConfigUnderWay unit entry new
went_on unit entry f heap (configs.Live (g ∷ []) after) is kept on = record {
  began = on.same ∙ is.began;
  heap_is = kept.0;
  frame = kept.1;
  reach =
      record {
        args = on.args;
        locals = on.locals;
        stack = on.stack;
        keeps = keeps_in_reach entry heap after is.reach.keeps kept.3 on.items;
      };
}
went_on unit entry f heap (configs.Live [] after) is kept on = absurd kept
went_on unit entry f heap (configs.Live (g ∷ h ∷ frames) after) is kept on = absurd kept
went_on unit entry f heap _ is kept on = tt

one_step : (unit : MethodUnit) (entry : Entry) (c new : Config) → MakesValues unit → ConfigUnderWay unit entry c
    → LocalStep unit c new
    → ConfigUnderWay unit entry new
one_step unit entry (configs.Live (f ∷ []) heap) new makes is step =
    went_on unit entry f heap new is (local_step_keeps unit f heap is.heap_is is.frame new makes step)
    (local_step_in_reach entry unit f heap is.reach new step)
one_step unit entry (configs.Live [] heap) new makes is step = absurd is
one_step unit entry (configs.Live (f ∷ g ∷ frames) heap) new makes is step = absurd is
one_step unit entry _ new makes is step = absurd step

steps : (unit : MethodUnit) (entry : Entry) (start : Config) (n : ℕ) (c : Config) → MakesValues unit
    → ConfigUnderWay unit entry start
    → StepsTo (LocalStep unit) start n c → ConfigUnderWay unit entry c
steps unit entry start zero c makes is same = subst (ConfigUnderWay unit entry) (sym same) is
steps unit entry start (suc n) c makes is (mid, before, step) =
    one_step unit entry mid c makes (steps unit entry start n mid makes is before) step

-- Each argument was passed. None is an address, since no place holds one.
passed_from : (heap : Heap) (args : List Value) (types : List Place) (vs : List Value) → FitPlaces heap types vs
    → ((v : Value) → Contains vs v → Contains args v)
    → AllByRecursion (λ v. IsPassedOrNew heap args (Some v)) vs
passed_from heap args [] [] fit within = tt
passed_from heap args (place ∷ types) (v ∷ vs) fit within = (
  one place v fit.0 (within v (zero, omega arith, refl)),
  passed_from heap args types vs fit.1 (λ u contained. within u (later u contained)),
)
  where
    one : (place : Place) (v : Value) → FitsPlace heap place v → Contains args v → IsPassedOrNew heap args (Some v)
    one place (Array a) fits among = inl among
    one places.Void (Addr a n) fits among = absurd fits
    one places.Bool (Addr a n) fits among = absurd fits
    one places.Int (Addr a n) fits among = absurd fits
    one places.Bools (Addr a n) fits among = absurd fits
    one places.Ints (Addr a n) fits among = absurd fits
    one place _ fits among = tt

    later : (u : Value) → Contains vs u → Contains (v ∷ vs) u
    later u (k, below, same) = (suc k, omega arith, same)
passed_from heap args [] (v ∷ vs) fit within = absurd fit
passed_from heap args (place ∷ types) [] fit within = absurd fit

nothing_held : (entry : Entry) (types : List Place) → AllByRecursion (IsInReach entry) (map zero_of types)
nothing_held entry [] = tt
nothing_held entry (places.Void ∷ types) = (tt, nothing_held entry types)
nothing_held entry (places.Bool ∷ types) = (tt, nothing_held entry types)
nothing_held entry (places.Int ∷ types) = (tt, nothing_held entry types)
nothing_held entry (places.Bools ∷ types) = (tt, nothing_held entry types)
nothing_held entry (places.Ints ∷ types) = (tt, nothing_held entry types)

pub begun : (unit : MethodUnit) (entry : Entry) → MakesValues unit → MayBegin unit entry.args entry.heap
    → IsUnderWay unit entry (entry_frame unit entry.unit entry.args entry.heap) entry.heap
begun unit entry makes begins = record {
  began = refl;
  heap_is = begins.heap_is;
  frame = entry_frame_is unit entry.unit entry.args entry.heap makes.locals begins.heap_is begins.fit;
  reach = record {
    args = passed_from entry.heap entry.args unit.args entry.args begins.fit (λ v contained. contained);
    locals = nothing_held entry unit.locals;
    stack = tt;
    keeps = record { forms = keeps_itself entry.heap; items = λ a below apart. refl };
  };
}

-- Whatever a run of a unit by itself comes to keeps within its reach.
pub local_runs_under_way : (unit : MethodUnit) (entry : Entry) (n : ℕ) (c : Config) → MakesValues unit
    → LocalRuns unit entry.unit entry.args entry.heap n c → ConfigUnderWay unit entry c
local_runs_under_way unit entry n c makes runs =
    steps unit entry (entry_config unit entry.unit entry.args entry.heap) n c makes
    (begun unit entry makes runs.begins) runs.steps

-- ---- returns

place_fits_result : (heap : Heap) (place : Place) (v : Value) → FitsPlace heap place v → FitsResult heap place (Some v)
place_fits_result heap places.Void v fits = absurd fits
place_fits_result heap places.Bool v fits = fits
place_fits_result heap places.Int v fits = fits
place_fits_result heap places.Bools v fits = fits
place_fits_result heap places.Ints v fits = fits

-- A result fits its place and is in reach.
put_given : (entry : Entry) (heap : Heap) (place : Place) (v : Value) (result : Option Value) → IsValue heap v
    → IsInReach entry v
    → option_map Some (put heap place v) ≡ Some result
    → FitsResult heap place result × IsPassedOrNew entry.heap entry.args result
put_given entry heap place v result is reach e =
    let (new, put_is, same) = map_from Some (put heap place v) result e in
    subst (λ (r : Option Value). FitsResult heap place r × IsPassedOrNew entry.heap entry.args r) (sym same) (
      place_fits_result heap place new (put_fits heap place v new is put_is),
      put_reach entry heap place v new reach put_is,
    )

result_given : (entry : Entry) (heap : Heap) (place : Place) (stack : List Value) (result : Option Value)
    → AllByRecursion (IsValue heap) stack
    → AllByRecursion (IsInReach entry) stack → result_of heap place stack ≡ Some result
    → FitsResult heap place result × IsPassedOrNew entry.heap entry.args result
result_given entry heap places.Void [] result values reach e =
    subst (λ (r : Option Value). FitsResult heap places.Void r × IsPassedOrNew entry.heap entry.args r)
    (same_Some None result e) (tt, tt)
result_given entry heap places.Bool [] result values reach e = absurd (none-some result e)
result_given entry heap places.Int [] result values reach e = absurd (none-some result e)
result_given entry heap places.Bools [] result values reach e = absurd (none-some result e)
result_given entry heap places.Ints [] result values reach e = absurd (none-some result e)
result_given entry heap place (v ∷ []) result values reach e = put_given entry heap place v result values.0 reach.0 e
result_given entry heap place (v ∷ w ∷ stack) result values reach e = absurd (none-some result e)

-- What a frame may return is what a free call of its unit may give.
pub returns_freely : (unit : MethodUnit) (f : Frame) (heap : Heap) (result : Option Value)
    → IsUnderWay unit (entry_of f) f heap
    → result_of heap unit.result f.stack ≡ Some result → ensures_fault unit f heap result ≡ None
    → FreeReturn (info_of unit) f.entry_args f.entry_heap heap result
returns_freely unit f heap result is is_result ensured =
    let given = result_given (entry_of f) heap unit.result f.stack result is.frame.stack is.reach.stack is_result in
    record { heap_is = is.heap_is; keeps = is.reach.keeps; fits = given.0; passed_or_new = given.1; ensured = ensured }
