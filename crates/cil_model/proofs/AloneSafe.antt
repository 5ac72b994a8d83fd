-- A unit that is safe by itself and calls no method is safe in every world that has it.
use Rattle.std.proofs.Common.{◌≡◌, ℕ, zero, suc, ◌+◌, ◌<◌, List, [], ◌∷◌, length, Option, Some, None, slice_get, refl, sym, ap, subst, ◌∙◌, arith, inl, inr}
use Rattle.std.specs.List.{AllByRecursion, cons_option, filter_map}
use Rattle.std.proofs.lemmas.Option.{same_Some}
use Rattle.cil_model.specs.Configs.{IsFrameOf}
use Rattle.cil_model.specs.Runs.{IsDefined, LocalSafe, LocalStep, MayBegin, Safe, Step, StepsTo, entry_config}
use Rattle.cil_model.specs.Values.{Heap, IsHeap}
use Rattle.cil_model.specs.WellFormed.{InOrderOfUse, IsWellFormed, called_by}
use Rattle.cil_model.specs.declared.instruction.Instr.{Instr}
use Rattle.cil_model.specs.declared.machine.Config.{Config}
use Rattle.cil_model.specs.declared.machine.Config.TheVariants as configs
use Rattle.cil_model.specs.declared.machine.Frame.{Frame}
use Rattle.cil_model.specs.declared.machine.World.{World}
use Rattle.cil_model.specs.declared.unit.CalleeInfo.{CalleeInfo}
use Rattle.cil_model.specs.declared.unit.Unit.{Unit as MethodUnit}
use Rattle.cil_model.proofs.Alone.{CallsNoMethod, step_is_local, local_is_step}
use Rattle.cil_model.proofs.Lists.{of_found}
use Rattle.cil_model.proofs.StepsKeep.{KeepsFrame, MakesValues, entry_frame_is, local_step_keeps}

-- The configuration is one frame of this unit, of this index, or an end.
abbrev IsAlone : MethodUnit → ℕ → Config → Type 0
IsAlone unit m (configs.Live (f ∷ []) heap) = (f.unit ≡ m) × IsHeap heap × IsFrameOf unit heap f
IsAlone unit m (configs.Live _ heap) = ⊥
IsAlone unit m _ = Unit {0}

kept_alone : (unit : MethodUnit) (m : ℕ) (f : Frame) (heap : Heap) (c : Config) → f.unit ≡ m → KeepsFrame unit f heap c → IsAlone unit m c
kept_alone unit m f heap (configs.Live (g ∷ []) after) of (is, frame, same, kept) = (same ∙ of, is, frame)
kept_alone unit m f heap (configs.Live [] after) of kept = kept
kept_alone unit m f heap (configs.Live (g ∷ h ∷ frames) after) of kept = kept
kept_alone unit m f heap _ of kept = tt

module _ (w : World) (unit : MethodUnit) (m : ℕ) (of : slice_get w.units m ≡ Some unit) (calls : CallsNoMethod unit) (makes : MakesValues unit) where
  -- A step of it in the world is a step of it by itself, and comes to such a configuration.
  alone_step : (c new : Config) → IsAlone unit m c → Step w c new → LocalStep unit c new × IsAlone unit m new
  alone_step (configs.Live (f ∷ []) heap) new (here, is, frame) step =
      let local = step_is_local w unit f heap new (ap (slice_get w.units) here ∙ of) calls step in
      (local, kept_alone unit m f heap new here (local_step_keeps unit f heap is frame new makes local))
  alone_step (configs.Live [] heap) new alone step = absurd alone
  alone_step (configs.Live (f ∷ g ∷ frames) heap) new alone step = absurd alone
  alone_step _ new alone step = absurd step

  alone_steps : (start : Config) (n : ℕ) (c : Config) → IsAlone unit m start → StepsTo (Step w) start n c → StepsTo (LocalStep unit) start n c × IsAlone unit m c
  alone_steps start zero c alone same = (same, subst (IsAlone unit m) (sym same) alone)
  alone_steps start (suc n) c alone (mid, steps, step) =
      let before = alone_steps start n mid alone steps in
      let last = alone_step mid c before.1 step in
      ((mid, before.0, last.0), last.1)

  alone_defined : (c : Config) → IsAlone unit m c → IsDefined (LocalStep unit) c → IsDefined (Step w) c
  alone_defined (configs.Live (f ∷ []) heap) (here, is, frame) (next, step) =
      (next, local_is_step w unit f heap next (ap (slice_get w.units) here ∙ of) calls step)
  alone_defined (configs.Live [] heap) alone defined = absurd alone
  alone_defined (configs.Live (f ∷ g ∷ frames) heap) alone defined = absurd alone
  alone_defined _ alone defined = tt

-- Safe by itself is safe in the world.
pub alone_is_safe : (w : World) (m : ℕ) (unit : MethodUnit) → slice_get w.units m ≡ Some unit → CallsNoMethod unit → MakesValues unit → LocalSafe unit → Safe w m
alone_is_safe w m unit of calls makes safe args heap n c runs =
    let same : runs.unit ≡ unit = same_Some runs.unit unit (sym runs.unit_is ∙ of) in
    let begins : MayBegin unit args heap = subst (λ (u : MethodUnit). MayBegin u args heap) same runs.begins in
    let steps : StepsTo (Step w) (entry_config unit m args heap) n c = subst (λ (u : MethodUnit). StepsTo (Step w) (entry_config u m args heap) n c) same runs.steps in
    let first : IsAlone unit m (entry_config unit m args heap) = (refl, begins.heap_is, entry_frame_is unit m args heap makes.locals begins.heap_is begins.fit) in
    let alone = alone_steps w unit m of calls makes (entry_config unit m args heap) n c first steps in
    let good = safe m args heap n c (record { begins = begins; steps = alone.0 }) in
    (good.0, alone_defined w unit m of calls makes c alone.1 good.1)

-- ---- units without callees

none_in_order : (numbers : List ℕ) → InOrderOfUse 0 0 numbers → numbers ≡ []
none_in_order [] order = refl
none_in_order (number ∷ numbers) (inl earlier) = absurd (let below = earlier.0 in omega arith)
none_in_order (number ∷ numbers) (inr next) = absurd (past numbers 1 0 (omega arith) next.1)
  where
    past : (numbers : List ℕ) (first all : ℕ) → all < first → InOrderOfUse first all numbers → ⊥
    past [] first all below order = omega arith
    past (number ∷ numbers) first all below (inl earlier) = past numbers first all below earlier.1
    past (number ∷ numbers) first all below (inr next) = past numbers (first + 1) all (omega arith) next.1

nothing_put : (callee : Option ℕ) (others : List ℕ) → cons_option callee others ≡ [] → (callee ≡ None) × (others ≡ [])
nothing_put None others e = (refl, e)
nothing_put (Some number) others e = absurd cc

none_called : (is : List Instr) → filter_map (λ i. called_by i.op) is ≡ [] → AllByRecursion (λ i. called_by i.op ≡ None) is
none_called [] none = tt
none_called (i ∷ is) none =
    let both = nothing_put (called_by i.op) (filter_map (λ i. called_by i.op) is) none in (both.0, none_called is both.1)

-- A well formed unit without callees calls no method.
pub no_callee_no_call : (unit : MethodUnit) → IsWellFormed unit → unit.callees ≡ [] → CallsNoMethod unit
no_callee_no_call unit formed none at i found =
    let order = subst (λ (callees : List CalleeInfo). InOrderOfUse 0 (length callees) (filter_map (λ i. called_by i.op) unit.instrs)) none formed.order in
    of_found (λ j. called_by j.op ≡ None) unit.instrs at i (none_called unit.instrs (none_in_order (filter_map (λ i. called_by i.op) unit.instrs) order)) found
