-- In a world whose units are well formed and agree, frames keep within their reach, runs are cut, no run is stuck, and
-- where each unit is safe by itself, each method is safe.
use Rattle.std.proofs.Common.{◌≡◌, ℕ, zero, suc, List, [], ◌∷◌, ◌++◌, length, Option, Some, None, slice_get, refl, sym, ap, subst, ◌∙◌}
use Rattle.std.specs.List.{AllByRecursion}
use Rattle.std.proofs.lemmas.Option.{none-some, same_Some}
use Rattle.cil_model.specs.Calls.{FreeCall, FreeReturn, KeepsArrays, WorldCall, args_of, behind_call, ensures_fault, result_of}
use Rattle.cil_model.specs.FitKinds.{NeverStuck}
use Rattle.cil_model.specs.Runs.{CallsBy, IsDefined, IsNoFault, LocalSafe, LocalStep, Row, Step, config_after}
use Rattle.cil_model.specs.UnitCalls.{unit_call}
use Rattle.cil_model.specs.Values.{Heap}
use Rattle.cil_model.specs.WellFormed.{IsWellFormed}
use Rattle.cil_model.specs.Worlds.{Agree, info_of}
use Rattle.cil_model.specs.declared.instruction.Instr.{Instr}
use Rattle.cil_model.specs.declared.instruction.Op.{Op}
use Rattle.cil_model.specs.declared.instruction.Op.TheVariants as ops
use Rattle.cil_model.specs.declared.machine.Config.{Config}
use Rattle.cil_model.specs.declared.machine.Config.TheVariants as configs
use Rattle.cil_model.specs.declared.machine.Frame.{Frame}
use Rattle.cil_model.specs.declared.machine.Value.{Value}
use Rattle.cil_model.specs.declared.machine.World.{World}
use Rattle.cil_model.specs.declared.unit.CalleeInfo.{CalleeInfo}
use Rattle.cil_model.specs.declared.unit.Unit.{Unit as MethodUnit}
use Rattle.cil_model.specs.declared.unit_numbers.UnitCall.{UnitCall}
use Rattle.cil_model.specs.declared.unit_numbers.UnitCall.TheVariants as calls
use Rattle.cil_model.proofs.CallsDefined.{return_defined, world_call_defined}
use Rattle.cil_model.proofs.Lists.{all_drop}
use Rattle.cil_model.proofs.StepsKeep.{AllMakeValues, code_makes_values}
use Rattle.cil_model.proofs.TypedCode.{formed_never_stuck}
use Rattle.safe_worlds.specs.Cuts.{AllWait, AreCut, ComesTo, IsCut, Waits, first_entry}
use Rattle.safe_worlds.specs.Frames.{IsInReach, KeepsItsReach, entry_of}
use Rattle.safe_worlds.specs.Worlds.{AreSafe, FaultsAreLocal, FramesKeep, LastIsLocal, ReturnsAreFree, RunsAreCut, RunsAreDefined, RunsGiveFreely}
use Rattle.safe_worlds.specs.declared.entry.Entry.{Entry}
use Rattle.safe_worlds.proofs.CutLemmas.{comes_under_way, runs_cut, same_last}
use Rattle.safe_worlds.proofs.StepsReach.{IsUnderWay, args_in_reach, keeps_call, returns_freely}

-- ---- what holds of each unit

of_unit : (P : MethodUnit → Type 0) (units : List MethodUnit) (m : ℕ) (unit : MethodUnit) → AllByRecursion P units
    → slice_get units m ≡ Some unit → P unit
of_unit P [] m unit all e = absurd (none-some unit e)
of_unit P (u ∷ units) zero unit all e = subst P (same_Some u unit e) all.0
of_unit P (u ∷ units) (suc m) unit all e = of_unit P units m unit all.1 e

pub all_make_values : (w : World) → AllByRecursion IsWellFormed w.units → AllMakeValues w
all_make_values w formed m unit is =
    let one = of_unit IsWellFormed w.units m unit formed is in code_makes_values unit one.code one.locals

-- ---- frames

module _ (w : World) (make : AllMakeValues w) (after : Heap) where
  abbrev Keeps : Frame → Type 0
  Keeps f = KeepsItsReach (entry_of f) f after

  -- A frame that waits, where what was entered there keeps to its own arguments.
  waiting_keeps : (f : Frame) (entry : Entry) → Waits w f entry → KeepsArrays entry.heap after entry.args → Keeps f
  waiting_keeps f entry waits keeps =
      let calling = waits.calling in
      let is : IsUnderWay waits.comes.unit (entry_of calling) calling entry.heap =
      comes_under_way w make (entry_of calling) (configs.Live (calling ∷ []) entry.heap) waits.comes in
      let passed =
      args_in_reach (entry_of calling) entry.heap waits.callee.args calling.stack entry.args is.reach.stack
      waits.args_are in
      let resumed = behind_call waits.instr (length waits.callee.args) calling in
      let behind : KeepsItsReach (entry_of calling) resumed after = record {
        args = is.reach.args;
        locals = is.reach.locals;
        stack = all_drop (IsInReach (entry_of calling)) (length waits.callee.args) calling.stack is.reach.stack;
        keeps = keeps_call (entry_of calling) entry.heap after entry.args is.reach.keeps passed keeps;
      } in
      subst Keeps (sym waits.behind) behind

  first_keeps : (callers : List Frame) (f : Frame) → AllByRecursion Keeps (callers ++ f ∷ [])
      → KeepsArrays (first_entry callers (entry_of f)).heap after (first_entry callers (entry_of f)).args
  first_keeps [] f all = all.0.keeps
  first_keeps (g ∷ callers) f all = all.0.keeps

  all_keep : (callers : List Frame) (f : Frame) → AllWait w callers (entry_of f) → Keeps f
      → AllByRecursion Keeps (callers ++ f ∷ [])
  all_keep [] f waiting keeps = (keeps, tt)
  all_keep (g ∷ callers) f waiting keeps =
      let others = all_keep callers f waiting.1 keeps in
      (waiting_keeps g (first_entry callers (entry_of f)) waiting.0 (first_keeps callers f others), others)

  frames_keep : (start : Entry) (frames : List Frame) → AreCut w start frames after → AllByRecursion Keeps frames
  frames_keep start frames cut =
      let is = comes_under_way w make (entry_of cut.last) (configs.Live (cut.last ∷ []) after) cut.comes in
      subst (AllByRecursion Keeps) (sym cut.are) (all_keep cut.callers cut.last cut.waiting is.reach)

  last_comes : (start : Entry) (callers : List Frame) (f : Frame) → AreCut w start (callers ++ f ∷ []) after
      → ComesTo w (entry_of f) (configs.Live (f ∷ []) after)
  last_comes start callers f cut =
      let (below, last) = same_last cut.callers callers cut.last f (sym cut.are) in
      subst (λ (g : Frame). ComesTo w (entry_of g) (configs.Live (g ∷ []) after)) last cut.comes

  frame_returns : (f : Frame) (unit : MethodUnit) (result : Option Value)
      → ComesTo w (entry_of f) (configs.Live (f ∷ []) after)
      → slice_get w.units f.unit ≡ Some unit → result_of after unit.result f.stack ≡ Some result
      → ensures_fault unit f after result ≡ None → FreeReturn (info_of unit) f.entry_args f.entry_heap after result
  frame_returns f unit result comes of is ensured =
      let way : IsUnderWay comes.unit (entry_of f) f after =
      comes_under_way w make (entry_of f) (configs.Live (f ∷ []) after) comes in
      let same : comes.unit ≡ unit = same_Some comes.unit unit (sym comes.unit_is ∙ of) in
      returns_freely unit f after result
      (subst (λ (u : MethodUnit). IsUnderWay u (entry_of f) f after) same way) is ensured

-- ---- steps

-- Where an instruction has a row with its calls free, it has one in a world.
module _ (w : World) (agree : Agree w) (callers : List Frame) (unit : MethodUnit) (i : Instr) (f : Frame) (heap : Heap)
    (of : slice_get w.units f.unit ≡ Some unit) where
  call_in_world : (call : Option UnitCall) (next : Config) → CallsBy (FreeCall unit) call [] unit i f heap next
      → (new : Config) × CallsBy (WorldCall w callers) call callers unit i f heap new
  call_in_world (Some (calls.Callee number)) next row =
      let named = agree.entries f.unit unit number row.callee of row.callee_is in
      let are : args_of heap named.named.args f.stack ≡ Some row.args =
      ap (λ (c : CalleeInfo). args_of heap c.args f.stack) (sym named.same) ∙ row.args_are in
      world_call_defined w callers number named.index named.named row.args i f heap named.index_is named.named_is are
  call_in_world _ next (effect, has, to) = (config_after callers f i effect, (effect, has, refl))

  row_in_world : (op : Op) (next : Config) → Row (FreeCall unit) op [] unit i f heap next
      → (new : Config) × Row (WorldCall w callers) op callers unit i f heap new
  row_in_world ops.Return next (result, is, returned) = return_defined callers unit result i f heap is
  row_in_world (ops.Call number) next row = call_in_world (unit_call number) next row
  row_in_world _ next (effect, has, to) = (config_after callers f i effect, (effect, has, refl))

-- Frames that are cut have a step where the last one has one by itself.
live_defined : (w : World) (start : Entry) (frames : List Frame) (heap : Heap) → Agree w
    → (cut : AreCut w start frames heap)
    → IsDefined (LocalStep cut.comes.unit) (configs.Live (cut.last ∷ []) heap)
    → IsDefined (Step w) (configs.Live frames heap)
live_defined w start frames heap agree cut (next, (i, found, row)) =
    let comes = cut.comes in
    let (new, there) = row_in_world w agree cut.callers comes.unit i cut.last heap comes.unit_is i.op next row in
    (new, (cut.callers, cut.last, comes.unit, i, cut.are, record { of = comes.unit_is; to = found }, there))

-- ---- runs of a world whose units make values and agree

module _ (w : World) (agree : Agree w) (make : AllMakeValues w) where
  cut : RunsAreCut w
  cut m args heap n c runs = runs_cut w make agree m args heap n c runs

  keep : FramesKeep w
  keep m args heap n frames after runs =
      frames_keep w make after (record { unit = m; args = args; heap = heap }) frames
      (cut m args heap n (configs.Live frames after) runs)

  last_is_local : LastIsLocal w
  last_is_local m args heap n callers f after runs =
      last_comes w make after (record { unit = m; args = args; heap = heap }) callers f
      (cut m args heap n (configs.Live (callers ++ f ∷ []) after) runs)

  return_freely : ReturnsAreFree w
  return_freely m args heap n callers f after unit result runs of is ensured =
      frame_returns w make after f unit result (last_is_local m args heap n callers f after runs) of is ensured

  defined : ((m : ℕ) (unit : MethodUnit) → slice_get w.units m ≡ Some unit → NeverStuck unit) → RunsAreDefined w
  defined stuck m args heap n c runs = config_defined c (cut m args heap n c runs)
    where
      config_defined : (c : Config) → IsCut w (record { unit = m; args = args; heap = heap }) c → IsDefined (Step w) c
      config_defined (configs.Live frames after) is =
          let f = is.last in
          let comes = is.comes in
          live_defined w (record { unit = m; args = args; heap = heap }) frames after agree is
          (stuck f.unit comes.unit comes.unit_is f.unit f.entry_args f.entry_heap comes.count
          (configs.Live (f ∷ []) after) comes.runs)
      config_defined _ is = tt

  -- Units that are safe by themselves are safe in the world.
  pub safe : AllByRecursion LocalSafe w.units → AreSafe w
  safe all m args heap n c runs = (
    no_fault c (cut m args heap n c runs),
    defined (λ k unit is index vs h count d local. (of_unit LocalSafe w.units k unit all is index vs h count d local).1)
        m args heap n c runs,
  )
    where
      no_fault : (c : Config) → IsCut w (record { unit = m; args = args; heap = heap }) c → IsNoFault c
      no_fault (configs.Fault kind unit at) is =
          let comes = is.comes in
          (of_unit LocalSafe w.units unit comes.unit all comes.unit_is unit is.args is.heap comes.count
          (configs.Fault kind unit at) comes.runs).0
      no_fault _ is = tt

-- ---- worlds of well formed units

module _ (w : World) (agree : Agree w) (formed : AllByRecursion IsWellFormed w.units) where
  pub runs_are_cut : RunsAreCut w
  runs_are_cut = cut w agree (all_make_values w formed)

  pub last_comes_locally : LastIsLocal w
  last_comes_locally = last_is_local w agree (all_make_values w formed)

  -- From a call to its return.
  pub frames_keep_reach : FramesKeep w
  frames_keep_reach = keep w agree (all_make_values w formed)

  pub returns_are_free : ReturnsAreFree w
  returns_are_free = return_freely w agree (all_make_values w formed)

  pub runs_give_freely : RunsGiveFreely w
  runs_give_freely m args heap n result runs = runs_are_cut m args heap n (configs.Returned result) runs

  pub faults_are_local : FaultsAreLocal w
  faults_are_local m args heap n kind unit at runs = runs_are_cut m args heap n (configs.Fault kind unit at) runs

  pub runs_are_defined : RunsAreDefined w
  runs_are_defined =
      defined w agree (all_make_values w formed)
      (λ m unit is. formed_never_stuck unit (of_unit IsWellFormed w.units m unit formed is))

  -- Where each unit is safe by itself, each method is safe, recursion included.
  pub world_is_safe : AllByRecursion LocalSafe w.units → AreSafe w
  world_is_safe all = safe w agree (all_make_values w formed) all
