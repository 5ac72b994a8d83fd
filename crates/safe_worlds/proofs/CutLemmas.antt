-- Each step of a world keeps its frames cut into runs of their units by themselves.
use Rattle.std.proofs.Common.{◌≡◌, ℕ, zero, suc, ◌<◌, List, [], ◌∷◌, ◌++◌, length, Option, Some, None, slice_get, refl, sym, ap, subst, subst₂, ◌∙◌, arith, length-append, inl, inr}
use Rattle.std.proofs.lemmas.List.{append_assoc}
use Rattle.std.proofs.lemmas.Option.{none-some, same_Some, slice_get_within}
use Rattle.cil_model.specs.Calls.{FreeCall, FreelyCalled, FreeReturn, Returned, Returns, ReturnRow, WorldCall, args_of, behind_call, callee_index, called, clauses_in_force, ensures_fault, entry_frame, pushed, result_of}
use Rattle.cil_model.specs.Clauses.{false_requires}
use Rattle.cil_model.specs.Effects.{Effect, GoesOn, Faults, Assumes, FindsNoRoom}
use Rattle.cil_model.specs.Runs.{CallRow, CallsBy, EffectRow, LocalStep, Row, Runs, Step, StepsTo, config_after, entry_config, instr_at}
use Rattle.cil_model.specs.UnitCalls.{callee_of, unit_call}
use Rattle.cil_model.specs.Values.{Heap}
use Rattle.cil_model.specs.WellFormed.{called_by}
use Rattle.cil_model.specs.Worlds.{Agree, info_of}
use Rattle.cil_model.specs.declared.instruction.Instr.{Instr}
use Rattle.cil_model.specs.declared.instruction.Op.{Op}
use Rattle.cil_model.specs.declared.instruction.Op.TheVariants as ops
use Rattle.cil_model.specs.declared.machine.Config.{Config}
use Rattle.cil_model.specs.declared.machine.Config.TheVariants as configs
use Rattle.cil_model.specs.declared.machine.FaultKind.{FaultKind}
use Rattle.cil_model.specs.declared.machine.FaultKind.TheVariants as faults
use Rattle.cil_model.specs.declared.machine.Frame.{Frame}
use Rattle.cil_model.specs.declared.machine.Value.{Value}
use Rattle.cil_model.specs.declared.machine.World.{World}
use Rattle.cil_model.specs.declared.unit.CalleeInfo.{CalleeInfo}
use Rattle.cil_model.specs.declared.unit.Unit.{Unit as MethodUnit}
use Rattle.cil_model.specs.declared.unit_numbers.UnitCall.{UnitCall}
use Rattle.cil_model.specs.declared.unit_numbers.UnitCall.TheVariants as calls
use Rattle.cil_model.proofs.Options.{and_then_from}
use Rattle.cil_model.proofs.StepsKeep.{AllMakeValues, args_fit}
use Rattle.safe_worlds.specs.Cuts.{AllWait, ComesTo, FaultsAlone, GivesFreely, IsCut, Waits, first_entry}
use Rattle.safe_worlds.specs.Frames.{entry_of}
use Rattle.safe_worlds.specs.declared.entry.Entry.{Entry}
use Rattle.safe_worlds.proofs.StepsReach.{ConfigUnderWay, IsUnderWay, local_runs_under_way, returns_freely}

-- ---- lists of frames

pub same_last : (xs ys : List Frame) (x y : Frame) → xs ++ x ∷ [] ≡ ys ++ y ∷ [] → (xs ≡ ys) × (x ≡ y)
same_last [] [] x y e = (refl, cc)
same_last (a ∷ xs) (b ∷ ys) x y e =
    let first : a ≡ b = cc in
    let others : xs ++ x ∷ [] ≡ ys ++ y ∷ [] = cc in
    let both = same_last xs ys x y others in
    (cc (both.0), both.1)
same_last [] (b ∷ ys) x y e = absurd (let long = ap length e in omega (arith, length-append ys (y ∷ [])))
same_last (a ∷ xs) [] x y e = absurd (let long = ap length e in omega (arith, length-append xs (x ∷ [])))

first_of_more : (callers : List Frame) (caller : Frame) (entry : Entry)
    → first_entry (callers ++ caller ∷ []) entry ≡ first_entry callers (entry_of caller)
first_of_more [] caller entry = refl
first_of_more (f ∷ callers) caller entry = refl

-- ---- rows of calls

row_of_called : (A : CallRow) (call : Option UnitCall) (number : ℕ) (callers : List Frame) (unit : MethodUnit)
    (i : Instr) (f : Frame) (heap : Heap) (new : Config)
    → callee_of call ≡ Some number → A number i f heap new → CallsBy A call callers unit i f heap new
row_of_called A (Some (calls.Callee other)) number callers unit i f heap new e row =
    subst (λ (k : ℕ). A k i f heap new) (sym (same_Some other number e)) row
row_of_called A _ number callers unit i f heap new e row = absurd (none-some number e)

row_of_call : (A : CallRow) (op : Op) (number : ℕ) (callers : List Frame) (unit : MethodUnit) (i : Instr) (f : Frame)
    (heap : Heap) (new : Config)
    → called_by op ≡ Some number → A number i f heap new → Row A op callers unit i f heap new
row_of_call A (ops.Call code) number callers unit i f heap new e row =
    row_of_called A (unit_call code) number callers unit i f heap new e row
row_of_call A _ number callers unit i f heap new e row = absurd (none-some number e)

-- ---- runs of one unit in a world

module _ (w : World) (make : AllMakeValues w) where
  pub comes_under_way : (entry : Entry) (c : Config) (comes : ComesTo w entry c) → ConfigUnderWay comes.unit entry c
  comes_under_way entry c comes =
      local_runs_under_way comes.unit entry comes.count c (make entry.unit comes.unit comes.unit_is) comes.runs

  -- One step more.
  pub comes_on : (entry : Entry) (c new : Config) (comes : ComesTo w entry c) → LocalStep comes.unit c new
      → ComesTo w entry new
  comes_on entry c new comes step = record {
    unit = comes.unit;
    unit_is = comes.unit_is;
    count = suc comes.count;
    runs = record { begins = comes.runs.begins; steps = (c, comes.runs.steps, step) };
  }

  -- ---- frames that wait

  -- One more frame waits above the callers.
  one_more_waits : (callers : List Frame) (caller : Frame) (entry : Entry) → AllWait w callers (entry_of caller)
      → Waits w caller entry
      → AllWait w (callers ++ caller ∷ []) entry
  one_more_waits [] caller entry waiting waits = (waits, tt)
  one_more_waits (f ∷ callers) caller entry waiting waits = (
    subst (Waits w f) (sym (first_of_more callers caller entry)) waiting.0,
    one_more_waits callers caller entry waiting.1 waits,
  )

  -- The last of them is no longer there.
  last_waits : (callers : List Frame) (caller : Frame) (entry : Entry) → AllWait w (callers ++ caller ∷ []) entry
      → AllWait w callers (entry_of caller) × Waits w caller entry
  last_waits [] caller entry waiting = (tt, waiting.0)
  last_waits (f ∷ callers) caller entry waiting =
      let below = last_waits callers caller entry waiting.1 in
      ((subst (Waits w f) (first_of_more callers caller entry) waiting.0, below.0), below.1)

  -- ---- a step of the last frame

  module _ (agree : Agree w) (start : Entry) (callers : List Frame) (f : Frame) (heap : Heap)
      (first : first_entry callers (entry_of f) ≡ start)
      (waiting : AllWait w callers (entry_of f)) (comes : ComesTo w (entry_of f) (configs.Live (f ∷ []) heap))
      (i : Instr)
      (found : instr_at comes.unit.instrs f.at ≡ Some i) where
    under_way : IsUnderWay comes.unit (entry_of f) f heap
    under_way = comes_under_way (entry_of f) (configs.Live (f ∷ []) heap) comes

    faults_alone : (kind : FaultKind) → ComesTo w (entry_of f) (configs.Fault kind f.unit i.at)
        → FaultsAlone w kind f.unit i.at
    faults_alone kind on = record { args = f.entry_args; heap = f.entry_heap; comes = on }

    effect_cut : (effect : Effect) → ComesTo w (entry_of f) (config_after [] f i effect)
        → IsCut w start (config_after callers f i effect)
    effect_cut (GoesOn g after) on =
        let same : entry_of g ≡ entry_of f = (comes_under_way (entry_of f) (configs.Live (g ∷ []) after) on).began in
        record {
          callers = callers;
          last = g;
          are = refl;
          first = ap (first_entry callers) same ∙ first;
          waiting = subst (AllWait w callers) (sym same) waiting;
          comes = subst (λ (e : Entry). ComesTo w e (configs.Live (g ∷ []) after)) (sym same) on;
        }
    effect_cut (Faults kind) on = faults_alone kind on
    effect_cut Assumes on = tt
    effect_cut FindsNoRoom on = tt

    effects_cut : (new : Config)
        → ((local : Config) → EffectRow [] comes.unit i f heap local → ComesTo w (entry_of f) local)
        → EffectRow callers comes.unit i f heap new → IsCut w start new
    effects_cut new on (effect, has, to) =
        subst (IsCut w start) (sym to) (effect_cut effect (on (config_after [] f i effect) (effect, has, refl)))

    -- ---- a call

    -- What the unit knows of the callee that is called is what the callee says of itself.
    known_callee : (number index : ℕ) (callee : MethodUnit) → callee_index w f.unit number ≡ Some index
        → slice_get w.units index ≡ Some callee
        → slice_get comes.unit.callees number ≡ Some (info_of callee)
    known_callee number index callee index_is callee_is =
        let list = and_then_from (λ callees. slice_get callees number) (slice_get w.callee f.unit) index index_is in
        let within : number < length list.value = slice_get_within list.value number index list.gave in
        let counts : length list.value ≡ length comes.unit.callees =
        agree.counts f.unit comes.unit list.value comes.unit_is list.is in
        let (info, there) = there_is comes.unit.callees number (omega arith) in
        let names = agree.entries f.unit comes.unit number info comes.unit_is there in
        let same : names.index ≡ index = same_Some names.index index (sym names.index_is ∙ index_is) in
        let one : names.named ≡ callee =
        same_Some names.named callee (sym names.named_is ∙ ap (slice_get w.units) same ∙ callee_is) in
        there ∙ ap Some (names.same ∙ ap info_of one)
      where
        there_is : (infos : List CalleeInfo) (k : ℕ) → k < length infos
            → (info : CalleeInfo) × (slice_get infos k ≡ Some info)
        there_is [] k below = absurd (omega arith)
        there_is (info ∷ infos) zero below = (info, refl)
        there_is (info ∷ infos) (suc k) below = there_is infos k (omega arith)

    entered : (number index : ℕ) (callee : MethodUnit) (args : List Value) (fault : Option ℕ)
        → called_by i.op ≡ Some number
        → slice_get w.units index ≡ Some callee → slice_get comes.unit.callees number ≡ Some (info_of callee)
        → args_of heap callee.args f.stack ≡ Some args
        → false_requires (clauses_in_force callee) args heap ≡ fault
        → ((local : Config) → FreeCall comes.unit number i f heap local → ComesTo w (entry_of f) local)
        → IsCut w start (called callers callee index args i f heap fault)
    entered number index callee args (Some k) calls callee_is known args_are broken on =
        let fault = configs.Fault (faults.Requires k) f.unit i.at in
        faults_alone (faults.Requires k)
        (on fault (record {
          callee = info_of callee;
          args = args;
          callee_is = known;
          args_are = args_are;
          freely = subst (λ (o : Option ℕ). FreelyCalled (info_of callee) args i f heap o fault) (sym broken) refl;
        }))
    entered number index callee args None calls callee_is known args_are required on =
        let caller = behind_call i (length callee.args) f in
        let entry = entry_frame callee index args heap in
        let fit = args_fit heap callee.args f.stack args under_way.frame.stack args_are in
        let waits : Waits w caller (entry_of entry) = record {
          calling = f;
          comes = comes;
          instr = i;
          instr_is = found;
          number = number;
          calls = calls;
          callee = callee;
          callee_is = callee_is;
          known = known;
          args_are = args_are;
          required = required;
          behind = refl;
        } in
        record {
          callers = callers ++ caller ∷ [];
          last = entry;
          are = sym (append_assoc callers (caller ∷ []) (entry ∷ []));
          first = first_of_more callers caller (entry_of entry) ∙ first;
          waiting = one_more_waits callers caller (entry_of entry) waiting waits;
          comes = record {
            unit = callee;
            unit_is = callee_is;
            count = 0;
            runs =
                record {
                  begins = record { heap_is = under_way.heap_is; fit = fit; required = required };
                  steps = refl;
                };
          };
        }

    call_cut : (call : Option UnitCall) (new : Config) → called_by i.op ≡ callee_of call
        → ((local : Config) → CallsBy (FreeCall comes.unit) call [] comes.unit i f heap local
        → ComesTo w (entry_of f) local)
        → CallsBy (WorldCall w callers) call callers comes.unit i f heap new → IsCut w start new
    call_cut (Some (calls.Callee number)) new calls on row =
        subst (IsCut w start) (sym row.new_is)
        (entered number row.index row.callee row.args (false_requires (clauses_in_force row.callee) row.args heap)
        calls row.callee_is
        (known_callee number row.index row.callee row.index_is row.callee_is) row.args_are refl on)
    call_cut _ new calls on row = effects_cut new on row

    -- ---- a return

    pushed_entry : (caller : Frame) (result : Option Value) → entry_of (pushed caller result) ≡ entry_of caller
    pushed_entry caller None = refl
    pushed_entry caller (Some v) = refl

    -- The caller goes on as after a free call.
    caller_on : (caller : Frame) (result : Option Value) → Waits w caller (entry_of f)
        → FreeReturn (info_of comes.unit) f.entry_args f.entry_heap heap result
        → ComesTo w (entry_of caller) (configs.Live (pushed caller result ∷ []) heap)
    caller_on caller result waits free =
        let calling = waits.calling in
        let callee = info_of waits.callee in
        let resumed = pushed (behind_call waits.instr (length waits.callee.args) calling) result in
        let new = configs.Live (resumed ∷ []) heap in
        let same : waits.callee ≡ comes.unit =
        same_Some waits.callee comes.unit (sym waits.callee_is ∙ comes.unit_is) in
        let freed : FreeReturn callee f.entry_args f.entry_heap heap result =
        subst (λ (u : MethodUnit). FreeReturn (info_of u) f.entry_args f.entry_heap heap result) (sym same) free in
        let call : FreeCall waits.comes.unit waits.number waits.instr calling f.entry_heap new = record {
          callee = callee;
          args = f.entry_args;
          callee_is = waits.known;
          args_are = waits.args_are;
          freely =
              subst (λ (o : Option ℕ). FreelyCalled callee f.entry_args waits.instr calling f.entry_heap o new)
              (sym waits.required)
              (inr (heap, result, freed, refl));
        } in
        let row =
        row_of_call (FreeCall waits.comes.unit) waits.instr.op waits.number [] waits.comes.unit waits.instr calling
        f.entry_heap new waits.calls call in
        let on =
        comes_on (entry_of calling) (configs.Live (calling ∷ []) f.entry_heap) new waits.comes
        (waits.instr, waits.instr_is, row) in
        subst (λ (g : Frame). ComesTo w (entry_of g) (configs.Live (pushed g result ∷ []) heap)) (sym waits.behind) on

    returns_cut : (result : Option Value) (new : Config)
        → FreeReturn (info_of comes.unit) f.entry_args f.entry_heap heap result
        → Returns callers result heap new → IsCut w start new
    returns_cut result new free (inl (none, to)) =
        let here : entry_of f ≡ start = ap (λ (cs : List Frame). first_entry cs (entry_of f)) (sym none) ∙ first in
        let gives : GivesFreely w (entry_of f) result =
        record { unit = comes.unit; unit_is = comes.unit_is; after = heap; free = free } in
        subst (IsCut w start) (sym to) (subst (λ (e : Entry). GivesFreely w e result) here gives)
    returns_cut result new free (inr (outer, caller, are, to)) =
        let (below, waits) =
        last_waits outer caller (entry_of f) (subst (λ (cs : List Frame). AllWait w cs (entry_of f)) are waiting) in
        let same : entry_of (pushed caller result) ≡ entry_of caller = pushed_entry caller result in
        let at_start : first_entry outer (entry_of caller) ≡ start =
        sym (first_of_more outer caller (entry_of f))
        ∙ ap (λ (cs : List Frame). first_entry cs (entry_of f)) (sym are) ∙ first in
        subst (IsCut w start) (sym to)
        (record {
          callers = outer;
          last = pushed caller result;
          are = refl;
          first = ap (first_entry outer) same ∙ at_start;
          waiting = subst (AllWait w outer) (sym same) below;
          comes =
              subst (λ (e : Entry). ComesTo w e (configs.Live (pushed caller result ∷ []) heap)) (sym same)
              (caller_on caller result waits free);
        })

    return_cut : (result : Option Value) (fault : Option ℕ) (new : Config)
        → result_of heap comes.unit.result f.stack ≡ Some result
        → ensures_fault comes.unit f heap result ≡ fault
        → ((local : Config) → ReturnRow [] comes.unit i f heap local → ComesTo w (entry_of f) local)
        → Returned callers i f heap result fault new → IsCut w start new
    return_cut result (Some k) new is broken on to =
        let fault = configs.Fault (faults.Ensures k) f.unit i.at in
        subst (IsCut w start) (sym to)
        (faults_alone (faults.Ensures k)
        (on fault (result, is, subst (λ (o : Option ℕ). Returned [] i f heap result o fault) (sym broken) refl)))
    return_cut result None new is ensured on to =
        returns_cut result new (returns_freely comes.unit f heap result under_way is ensured) to

    -- ---- any instruction

    row_cut : (op : Op) (new : Config) → i.op ≡ op
        → ((local : Config) → Row (FreeCall comes.unit) op [] comes.unit i f heap local → ComesTo w (entry_of f) local)
        → Row (WorldCall w callers) op callers comes.unit i f heap new → IsCut w start new
    row_cut ops.Return new is on (result, result_is, returned) =
        return_cut result (ensures_fault comes.unit f heap result) new result_is refl on returned
    row_cut (ops.Call number) new is on row = call_cut (unit_call number) new (ap called_by is) on row
    row_cut _ new is on row = effects_cut new on row

    pub frame_cut : (new : Config) → Row (WorldCall w callers) i.op callers comes.unit i f heap new → IsCut w start new
    frame_cut new row =
        row_cut i.op new refl
        (λ local local_row. comes_on (entry_of f) (configs.Live (f ∷ []) heap) local comes (i, found, local_row)) row

  -- ---- a step of a world

  module _ (agree : Agree w) (start : Entry) where
    -- Frames that are cut, with the last of them.
    abbrev CutAt : Heap → List Frame → Frame → Type 0
    CutAt heap callers f =
        (first_entry callers (entry_of f) ≡ start) × AllWait w callers (entry_of f)
        × ComesTo w (entry_of f) (configs.Live (f ∷ []) heap)

    step_cut : (c new : Config) → IsCut w start c → Step w c new → IsCut w start new
    step_cut (configs.Live frames heap) new cut (callers, f, unit, i, are, about, row) =
        let (below, last) = same_last cut.callers callers cut.last f (sym cut.are ∙ are) in
        let at : CutAt heap callers f = subst₂ (CutAt heap) below last (cut.first, cut.waiting, cut.comes) in
        let comes = at.2 in
        let same : unit ≡ comes.unit = same_Some unit comes.unit (sym about.of ∙ comes.unit_is) in
        let found : instr_at comes.unit.instrs f.at ≡ Some i =
        subst (λ (u : MethodUnit). instr_at u.instrs f.at ≡ Some i) same about.to in
        frame_cut agree start callers f heap at.0 at.1 comes i found new
        (subst (λ (u : MethodUnit). Row (WorldCall w callers) i.op callers u i f heap new) same row)
    step_cut _ new cut step = absurd step

    steps_cut : (begin : Config) (n : ℕ) (c : Config) → IsCut w start begin → StepsTo (Step w) begin n c
        → IsCut w start c
    steps_cut begin zero c cut same = subst (IsCut w start) (sym same) cut
    steps_cut begin (suc n) c cut (mid, before, step) = step_cut mid c (steps_cut begin n mid cut before) step

  -- Whatever a run of the world comes to is cut.
  pub runs_cut : (agree : Agree w) (m : ℕ) (args : List Value) (heap : Heap) (n : ℕ) (c : Config)
      → Runs w m args heap n c
      → IsCut w (record { unit = m; args = args; heap = heap }) c
  runs_cut agree m args heap n c runs =
      steps_cut agree (record { unit = m; args = args; heap = heap }) (entry_config runs.unit m args heap) n c
      (record {
        callers = [];
        last = entry_frame runs.unit m args heap;
        are = refl;
        first = refl;
        waiting = tt;
        comes =
            record {
              unit = runs.unit;
              unit_is = runs.unit_is;
              count = 0;
              runs = record { begins = runs.begins; steps = refl };
            };
      }) runs.steps
