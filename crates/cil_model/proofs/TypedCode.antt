-- Settled kinds are what typing is for: a frame that fits them has a step, and fits them where it goes on.
use Rattle.std.proofs.Common.{◌≡◌, ◌⊎◌, ℕ, zero, suc, ◌+◌, ◌≤◌, true, List, [], ◌∷◌, ◌++◌, length, slice_get, Option, Some, None, refl, sym, ap, subst, subst₂, ◌∙◌, arith, length-append, inl, inr}
use Rattle.std.specs.List.{AllByRecursion}
use Rattle.std.proofs.lemmas.List.{append_cancel_left}
use Rattle.std.proofs.lemmas.Option.{same_Some}
use Rattle.cil_model.specs.Blocks.{branch_targets}
use Rattle.cil_model.specs.Calls.{FreeCall, ReturnRow, Returned, WorldCall, args_of, behind_call, called, ensures_fault, entry_frame, pushed}
use Rattle.cil_model.specs.Clauses.{false_requires}
use Rattle.cil_model.specs.Bodies.{HasBody, is_executed}
use Rattle.cil_model.specs.FitKinds.{FrameFits, HasCode, AreDecoded, OperandFits, IsExecutedAt, NeverStuck, TypedCodeSteps}
use Rattle.cil_model.specs.Passes.{KindsOf, Stacks, stack_at, successors}
use Rattle.cil_model.specs.Runs.{CallRow, IsDefined, LocalStep, Row, Step, StepsTo, entry_config, instr_at}
use Rattle.cil_model.specs.Shapes.{shape_of}
use Rattle.cil_model.specs.Values.{Heap, FitPlaces}
use Rattle.cil_model.specs.WellFormed.{HoldValues, IsWellFormed, called_by}
use Rattle.cil_model.specs.Worlds.{Agree}
use Rattle.cil_model.specs.declared.instruction.Instr.{Instr}
use Rattle.cil_model.specs.declared.instruction.Op.{Op}
use Rattle.cil_model.specs.declared.instruction.Op.TheVariants as ops
use Rattle.cil_model.specs.declared.instruction.Test.TheVariants as tests
use Rattle.cil_model.specs.declared.machine.Config.{Config}
use Rattle.cil_model.specs.declared.machine.Config.TheVariants as configs
use Rattle.cil_model.specs.declared.machine.Frame.{Frame}
use Rattle.cil_model.specs.declared.machine.Value.{Value}
use Rattle.cil_model.specs.declared.machine.World.{World}
use Rattle.cil_model.specs.declared.place.Kind.{Kind}
use Rattle.cil_model.specs.declared.place.Place.{Place}
use Rattle.cil_model.specs.declared.place.Place.TheVariants as places
use Rattle.cil_model.specs.declared.shape.Shape.{Shape}
use Rattle.cil_model.specs.declared.unit.CalleeInfo.{CalleeInfo}
use Rattle.cil_model.specs.declared.unit.Unit.{Unit as MethodUnit}
use Rattle.cil_model.proofs.CallsDefined.{free_call_defined, world_call_defined}
use Rattle.cil_model.proofs.EffectsFit.{IsOneOf}
use Rattle.cil_model.proofs.KindForms.{HaveForms, HaveForms-merged, fit_of, forms_of}
use Rattle.cil_model.proofs.KindsSettle.{Absorbs, found_at, Settled, reached_begins, settled}
use Rattle.cil_model.proofs.StepKinds.{StepKind, above, step_kind}
use Rattle.cil_model.proofs.StepsFit.{comes, defined}
use Rattle.cil_model.proofs.StepsKeep.{KeepsFrame, entry_frame_is, local_step_keeps}
use Rattle.cil_model.proofs.Lists.{all_append, of_found}
use Rattle.cil_model.proofs.Rows.{code_is_decoded}

-- ---- what is known of a unit

constant_fits : (op : Op) → OperandFits op → OperandFits op
constant_fits (ops.Const n) is = is
constant_fits _ is = tt

constants_fit : (is : List Instr) → AllByRecursion (λ i. OperandFits i.op) is → AllByRecursion (λ i. OperandFits i.op) is
constants_fit [] all = tt
constants_fit (i ∷ is) all = (constant_fits i.op all.0, constants_fit is all.1)

-- Places that hold something hold values.
hold_values : (heap : Heap) (types : List Place) (vs : List Value) → FitPlaces heap types vs → HoldValues types
hold_values heap [] vs fit = tt
hold_values heap (places.Void ∷ types) (v ∷ vs) fit = absurd fit.0
hold_values heap (place ∷ types) (v ∷ vs) fit = (λ e. cc, hold_values heap types vs fit.1)
hold_values heap (place ∷ types) [] fit = absurd fit

at_one : (P : ℕ → Type 0) (ats : List ℕ) (at : ℕ) → AllByRecursion P ats → IsOneOf ats at → P at
at_one P [] at all one = absurd one
at_one P (a ∷ ats) at all (inl same) = subst P (sym same) all.0
at_one P (a ∷ ats) at all (inr others) = at_one P ats at all.1 others

same_last : (xs ys : List Frame) (x y : Frame) → xs ++ x ∷ [] ≡ ys ++ y ∷ [] → (xs ≡ ys) × (x ≡ y)
same_last [] [] x y e = (refl, cc)
same_last (a ∷ xs) (b ∷ ys) x y e =
    let first : a ≡ b = cc in
    let others : xs ++ x ∷ [] ≡ ys ++ y ∷ [] = cc in
    let both = same_last xs ys x y others in
    (cc (both.0), both.1)
same_last [] (b ∷ ys) x y e = absurd (let long = ap length e in omega (arith, length-append ys (y ∷ [])))
same_last (a ∷ xs) [] x y e = absurd (let long = ap length e in omega (arith, length-append xs (x ∷ [])))

module _ (unit : MethodUnit) (stacks : Stacks) (decoded : AreDecoded unit.instrs) (kinds : KindsOf (shape_of unit) unit.instrs stacks) where
  -- The instruction before which a frame is that fits.
  record Before (f : Frame) (before : List Kind) : Type 0 where
    instr : Instr
    found : instr_at unit.instrs f.at ≡ Some instr
    typed : Settled (shape_of unit) unit.instrs stacks instr before

  before : (f : Frame) (heap : Heap) (fits : FrameFits unit stacks heap f) → Before f fits.kinds
  before f heap fits =
      let (i, found) = reached_begins unit.instrs stacks f.at fits.kinds fits.before in
      record { instr = i; found = found; typed = settled (shape_of unit) unit.instrs stacks f.at i fits.kinds decoded kinds found fits.before }

  row_defined : (A : CallRow) (callers : List Frame) (f : Frame) (heap : Heap) → FrameFits unit stacks heap f → IsExecutedAt unit.instrs f.at
      → ((number : ℕ) (callee : CalleeInfo) (args : List Value) (i : Instr) → slice_get unit.callees number ≡ Some callee → args_of heap callee.args f.stack ≡ Some args
      → (new : Config) × A number i f heap new)
      → (i : Instr) × (instr_at unit.instrs f.at ≡ Some i) × ((new : Config) × Row A i.op callers unit i f heap new)
  row_defined A callers f heap fits executed calls =
      let b = before f heap fits in
      let i = b.instr in (
        i,
        b.found,
        defined unit i f heap fits.kinds b.typed.after b.typed.typed fits.frame.args fits.frame.locals
            (forms_of heap fits.kinds f.stack fits.fit) A callers
            (executed i b.found) (λ number callee args is are. calls number callee args i is are),
      )

  step_defined : (f : Frame) (heap : Heap) → FrameFits unit stacks heap f → IsExecutedAt unit.instrs f.at
      → (new : Config) × LocalStep unit (configs.Live (f ∷ []) heap) new
  step_defined f heap fits executed =
      let (i, found, (new, row)) = row_defined (FreeCall unit) [] f heap fits executed
      (λ number callee args i is are. free_call_defined unit number callee args i f heap is are) in
      (new, (i, found, row))

  world_step_defined : (w : World) (callers : List Frame) (f : Frame) (heap : Heap) → Agree w → slice_get w.units f.unit ≡ Some unit
      → FrameFits unit stacks heap f
      → IsExecutedAt unit.instrs f.at → (new : Config) × Step w (configs.Live (callers ++ f ∷ []) heap) new
  world_step_defined w callers f heap agree of fits executed =
      let (i, found, (new, row)) = row_defined (WorldCall w callers) callers f heap fits executed
      (λ number callee args i is are.
      let named = agree.entries f.unit unit number callee of is in
      let same : args_of heap named.named.args f.stack ≡ Some args = ap (λ (c : CalleeInfo). args_of heap c.args f.stack) (sym named.same) ∙ are in
      world_call_defined w callers number named.index named.named args i f heap named.index_is named.named_is same) in
      (new, (callers, f, unit, i, refl, record { of = of; to = found }, row))

  -- What a step keeps of any frame.
  keeps : (f : Frame) (heap : Heap) → FrameFits unit stacks heap f → (new : Config) → LocalStep unit (configs.Live (f ∷ []) heap) new
      → KeepsFrame unit f heap new
  keeps f heap fits new step =
      local_step_keeps unit f heap fits.heap_is fits.frame new
      (record { locals = hold_values heap unit.locals f.locals fits.frame.locals; constants = constants_fit unit.instrs decoded.constants }) step

  -- A step that goes on goes to one of the instruction's successors, with values of the kinds after it.
  record GoesOn (i : Instr) (g : Frame) (after : Heap) : Type 0 where
    left : List Kind
    onward : AllByRecursion (λ at. Absorbs (stack_at unit.instrs stacks at) left) (successors i.op (i.at + i.size))
    place : IsOneOf (successors i.op (i.at + i.size)) g.at
    forms : HaveForms after left g.stack

  goes_on : (f g : Frame) (heap after : Heap) → FrameFits unit stacks heap f
      → LocalStep unit (configs.Live (f ∷ []) heap) (configs.Live (g ∷ []) after)
      → (i : Instr) × (instr_at unit.instrs f.at ≡ Some i) × GoesOn i g after
  goes_on f g heap after fits (i, found, row) =
      let typed = settled (shape_of unit) unit.instrs stacks f.at i fits.kinds decoded kinds found fits.before in
      let went = comes unit i f heap fits.kinds typed.after typed.typed fits.frame.args fits.frame.locals
      (forms_of heap fits.kinds f.stack fits.fit) (configs.Live (g ∷ []) after) row in
      (i, found, record { left = typed.after; onward = typed.onward; place = went.0; forms = went.1 })

  step_kept : (f g : Frame) (heap after : Heap) → FrameFits unit stacks heap f
      → LocalStep unit (configs.Live (f ∷ []) heap) (configs.Live (g ∷ []) after)
      → FrameFits unit stacks after g
  step_kept f g heap after fits step =
      let (i, found, on) = goes_on f g heap after fits step in
      let absorbs = at_one (λ at. Absorbs (stack_at unit.instrs stacks at) on.left) (successors i.op (i.at + i.size)) g.at on.onward on.place in
      let kept = keeps f heap fits (configs.Live (g ∷ []) after) step in
      let forms = HaveForms-merged after absorbs.kinds on.left absorbs.kinds g.stack absorbs.merge on.forms in
      record { heap_is = kept.0; frame = kept.1; kinds = absorbs.kinds; before = absorbs.reached; fit = fit_of after absorbs.kinds g.stack forms kept.1.stack }

  -- ---- runs of the unit by itself

  -- A frame in the body that fits, or an end.
  abbrev Runs : Config → Type 0
  Runs (configs.Live (f ∷ []) heap) = FrameFits unit stacks heap f × (unit.body_start ≤ f.at)
  Runs (configs.Live _ heap) = ⊥
  Runs _ = Unit {0}

  successors_inside : (start : ℕ) (op : Op) (next : ℕ) → start ≤ next → AllByRecursion (λ at. start ≤ at) (branch_targets op)
      → AllByRecursion (λ at. start ≤ at) (successors op next)
  successors_inside start ops.Return next behind inside = tt
  successors_inside start (ops.Branch tests.Always target) next behind inside = inside
  successors_inside start (ops.Branch test target) next behind inside = (inside.0, (behind, tt))
  successors_inside start (ops.Switch targets) next behind inside = all_append (λ at. start ≤ at) targets (next ∷ []) inside (behind, tt)
  successors_inside start _ next behind inside = (behind, tt)

  module _ (body : HasBody unit.instrs stacks unit.body_start) where
    stays_inside : (f g : Frame) (heap after : Heap) → FrameFits unit stacks heap f → unit.body_start ≤ f.at
        → LocalStep unit (configs.Live (f ∷ []) heap) (configs.Live (g ∷ []) after) → unit.body_start ≤ g.at
    stays_inside f g heap after fits inside step =
        let (i, found, on) = goes_on f g heap after fits step in
        let here : i.at ≡ f.at = found_at unit.instrs f.at i found in
        let targets = of_found
        (λ j. unit.body_start ≤ j.at → AllByRecursion (λ at. unit.body_start ≤ at) (branch_targets j.op)) unit.instrs f.at i body.inside found
        (omega arith) in
        at_one (λ at. unit.body_start ≤ at) (successors i.op (i.at + i.size)) g.at
        (successors_inside unit.body_start i.op (i.at + i.size) (omega arith) targets) on.place

    runs_on : (c new : Config) → Runs c → LocalStep unit c new → Runs new
    runs_on (configs.Live (f ∷ []) heap) (configs.Live (g ∷ []) after) (fits, inside) step =
        (step_kept f g heap after fits step, stays_inside f g heap after fits inside step)
    runs_on (configs.Live (f ∷ []) heap) (configs.Live [] after) (fits, inside) step = absurd (keeps f heap fits (configs.Live [] after) step)
    runs_on (configs.Live (f ∷ []) heap) (configs.Live (g ∷ h ∷ frames) after) (fits, inside) step =
        absurd (keeps f heap fits (configs.Live (g ∷ h ∷ frames) after) step)
    runs_on (configs.Live (f ∷ []) heap) _ runs step = tt
    runs_on (configs.Live [] heap) new runs step = absurd runs
    runs_on (configs.Live (f ∷ g ∷ frames) heap) new runs step = absurd runs
    runs_on _ new runs step = absurd step

    run_defined : (c : Config) → Runs c → IsDefined (LocalStep unit) c
    run_defined (configs.Live (f ∷ []) heap) (fits, inside) =
        step_defined f heap fits
        (λ i found. let here : i.at ≡ f.at = found_at unit.instrs f.at i found in
        of_found (λ j. unit.body_start ≤ j.at → is_executed j.op ≡ true) unit.instrs f.at i body.executed found (omega arith))
    run_defined (configs.Live [] heap) runs = absurd runs
    run_defined (configs.Live (f ∷ g ∷ frames) heap) runs = absurd runs
    run_defined _ runs = tt

    runs_defined : HoldValues unit.locals → NeverStuck unit
    runs_defined hold index args heap n c runs = run_defined c (to n c runs.steps)
      where
        begins : Runs (entry_config unit index args heap)
        begins = (
          record { heap_is = runs.begins.heap_is; frame = entry_frame_is unit index args heap hold runs.begins.heap_is runs.begins.fit; kinds = []; before = body.empty; fit = tt },
          omega arith,
        )

        to : (n : ℕ) (c : Config) → StepsTo (LocalStep unit) (entry_config unit index args heap) n c → Runs c
        to zero c same = subst Runs (sym same) begins
        to (suc n) c (mid, steps, step) = runs_on mid c (to n mid steps) step

  -- ---- a step of a world that stays in its frame

  -- No call and no return goes on with as many frames.
  no_return : (callers : List Frame) (i : Instr) (f g : Frame) (heap after : Heap) (result : Option Value) (fault : Option ℕ)
      → Returned callers i f heap result fault (configs.Live (callers ++ g ∷ []) after) → ⊥
  no_return callers i f g heap after result (Some k) to = cc
  no_return callers i f g heap after result None (inl ends) = let to = ends.1 in cc
  no_return callers i f g heap after result None (inr (outer, caller, are, to)) =
      let frames : callers ++ g ∷ [] ≡ outer ++ pushed caller result ∷ [] = cc in
      let longer = ap length are in
      let long = ap length frames in
      omega (arith, length-append callers (g ∷ []), length-append outer (caller ∷ []), length-append outer (pushed caller result ∷ []))

  no_call : (callers : List Frame) (callee : MethodUnit) (index : ℕ) (args : List Value) (i : Instr) (f g : Frame) (heap after : Heap) (fault : Option ℕ)
      → configs.Live (callers ++ g ∷ []) after ≡ called callers callee index args i f heap fault → ⊥
  no_call callers callee index args i f g heap after (Some k) to = cc
  no_call callers callee index args i f g heap after None to =
      let caller = behind_call i (length callee.args) f in
      let entry = entry_frame callee index args heap in
      let frames : callers ++ g ∷ [] ≡ callers ++ caller ∷ entry ∷ [] = cc in
      let long = ap length frames in
      omega (arith, length-append callers (g ∷ []), length-append callers (caller ∷ entry ∷ []))

  -- A step of the frame by itself that comes to this with the callers below.
  local_of : (callers : List Frame) (g : Frame) (after : Heap) (local : Config) → configs.Live (callers ++ g ∷ []) after ≡ above callers local
      → local ≡ configs.Live (g ∷ []) after
  local_of callers g after (configs.Live frames heap) same =
      let all : callers ++ g ∷ [] ≡ callers ++ frames = cc in
      let heaps : after ≡ heap = cc in
      let last : g ∷ [] ≡ frames = append_cancel_left callers (g ∷ []) frames all in cc
  local_of callers g after _ same = absurd cc

  -- What a step is, by its kind.
  abbrev IsStep : World → List Frame → MethodUnit → Instr → Frame → Heap → Config → Type 0
  IsStep w callers other i f heap new =
      ((local : Config) × LocalStep other (configs.Live (f ∷ []) heap) local × (new ≡ above callers local))
      ⊎ (((i.op ≡ ops.Return) × ReturnRow callers other i f heap new) ⊎ ((number : ℕ) × (called_by i.op ≡ Some number) × WorldCall w callers number i f heap new))

  stays_local : (w : World) (callers : List Frame) (other : MethodUnit) (i : Instr) (f g : Frame) (heap after : Heap)
      → IsStep w callers other i f heap (configs.Live (callers ++ g ∷ []) after)
      → LocalStep other (configs.Live (f ∷ []) heap) (configs.Live (g ∷ []) after)
  stays_local w callers other i f g heap after (inl (local, step, same)) =
      subst (LocalStep other (configs.Live (f ∷ []) heap)) (local_of callers g after local same) step
  stays_local w callers other i f g heap after (inr (inl (return, (result, is, returned)))) =
      absurd (no_return callers i f g heap after result (ensures_fault other f heap result) returned)
  stays_local w callers other i f g heap after (inr (inr (number, call, row))) =
      absurd (no_call callers row.callee row.index row.args i f g heap after (false_requires row.callee.clauses row.args heap) row.new_is)

  world_step_kept : (w : World) (callers : List Frame) (f g : Frame) (heap after : Heap) → slice_get w.units f.unit ≡ Some unit
      → FrameFits unit stacks heap f → Step w (configs.Live (callers ++ f ∷ []) heap) (configs.Live (callers ++ g ∷ []) after)
      → FrameFits unit stacks after g
  world_step_kept w callers f g heap after of fits step =
      let s : StepKind w (callers ++ f ∷ []) heap (configs.Live (callers ++ g ∷ []) after) = step_kind w (callers ++ f ∷ []) heap
      (configs.Live (callers ++ g ∷ []) after) step in
      let (below, last) = same_last callers s.callers f s.last s.frames_are in
      let one : s.unit ≡ unit = same_Some s.unit unit (sym s.about.of ∙ ap (λ (h : Frame). slice_get w.units h.unit) (sym last) ∙ of) in
      let local : LocalStep s.unit (configs.Live (s.last ∷ []) heap) (configs.Live (g ∷ []) after) =
      stays_local w s.callers s.unit s.instr s.last g heap after
      (subst (λ (fs : List Frame). IsStep w s.callers s.unit s.instr s.last heap (configs.Live (fs ++ g ∷ []) after)) below s.kind) in
      step_kept f g heap after fits
      (subst₂ (λ (u : MethodUnit) (h : Frame). LocalStep u (configs.Live (h ∷ []) heap) (configs.Live (g ∷ []) after)) one (sym last) local)

-- ---- what typing is for

pub typed_code_steps : (shape : Shape) (is : List Instr) (stacks : Stacks) → AreDecoded is → KindsOf shape is stacks → TypedCodeSteps shape is stacks
typed_code_steps shape is stacks decoded kinds = record {
  defined =
      λ unit f heap has fits executed. step_defined unit stacks (decoded_of unit has) (kinds_of unit has) f heap fits
      (executed_of unit f has executed);
  defined_in_worlds = λ w callers unit f heap agree of has fits executed.
      world_step_defined unit stacks (decoded_of unit has) (kinds_of unit has) w callers f heap agree of fits (executed_of unit f has executed);
  kept = λ unit f g heap after has fits step. step_kept unit stacks (decoded_of unit has) (kinds_of unit has) f g heap after fits step;
  kept_in_worlds = λ w callers unit f g heap after of has fits step.
      world_step_kept unit stacks (decoded_of unit has) (kinds_of unit has) w callers f g heap after of fits step;
  runs = λ unit has hold body. runs_defined unit stacks (decoded_of unit has) (kinds_of unit has) (body_of unit has body) hold;
}
  where
    decoded_of : (unit : MethodUnit) → HasCode shape is unit → AreDecoded unit.instrs
    decoded_of unit has = subst AreDecoded (sym has.instrs_are) decoded

    kinds_of : (unit : MethodUnit) → HasCode shape is unit → KindsOf (shape_of unit) unit.instrs stacks
    kinds_of unit has = subst₂ (λ (s : Shape) (js : List Instr). KindsOf s js stacks) (sym has.shape_is) (sym has.instrs_are) kinds

    executed_of : (unit : MethodUnit) (f : Frame) → HasCode shape is unit → IsExecutedAt is f.at → IsExecutedAt unit.instrs f.at
    executed_of unit f has executed = subst (λ (js : List Instr). IsExecutedAt js f.at) (sym has.instrs_are) executed

    body_of : (unit : MethodUnit) → HasCode shape is unit → HasBody is stacks unit.body_start → HasBody unit.instrs stacks unit.body_start
    body_of unit has body = subst (λ (js : List Instr). HasBody js stacks unit.body_start) (sym has.instrs_are) body

-- A well formed unit is never stuck.
pub formed_never_stuck : (unit : MethodUnit) → IsWellFormed unit → NeverStuck unit
formed_never_stuck unit formed =
    let runs = formed.runs in
    let steps = typed_code_steps (shape_of unit) unit.instrs runs.stacks (code_is_decoded unit.instrs unit.code formed.code) runs.kinds in
    steps.runs unit (record { shape_is = refl; instrs_are = refl }) formed.locals runs.body
