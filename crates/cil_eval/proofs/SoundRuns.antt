-- Runs of typed methods go on: memory was taken for each of their states, and none is stuck.
use Rattle.std.proofs.Common.{◌≡◌, ℕ, zero, suc, ◌≤◌, List, [], ◌∷◌, length, reverse, Option, Some, None, slice_get, sym, ap, subst, ◌∙◌, arith}
use Rattle.std.specs.List.{AllByRecursion}
use Rattle.std.proofs.lemmas.List.{reverse-reverse}
use Rattle.std.proofs.lemmas.Option.{same_Some}
use Rattle.cil_model.specs.Calls.{clauses_in_force}
use Rattle.cil_model.specs.Configs.{IsFrame, IsFrameOf}
use Rattle.cil_model.specs.Kinds.{kind_of, pushed_kind}
use Rattle.cil_model.specs.Runs.{MayBegin}
use Rattle.cil_model.specs.Values.{Heap, IsValue}
use Rattle.cil_model.specs.WellFormed.{IsWellFormed}
use Rattle.cil_model.specs.declared.machine.Frame.{Frame}
use Rattle.cil_model.specs.declared.machine.Value.{Value}
use Rattle.cil_model.specs.declared.machine.Value.TheVariants as values
use Rattle.cil_model.specs.declared.machine.World.{World}
use Rattle.cil_model.specs.declared.place.Kind.{Kind}
use Rattle.cil_model.specs.declared.place.Place.{Place}
use Rattle.cil_model.specs.declared.unit.Unit.{Unit as MethodUnit}
use Rattle.cil_model.proofs.Lists.{all_reverse, all_split}
use Rattle.cil_model.proofs.StepsKeep.{entry_frame_is}
use Rattle.cil_eval.specs.Held.{olds_of, olds_of_unit}
use Rattle.cil_eval.specs.Machines.{Fits, GoesOn, IsSmall, Leads}
use Rattle.cil_eval.specs.Outcome.{State, Turn, To, Ends, Stuck, entry_state, turn}
use Rattle.cil_eval.specs.RunWorlds.{CanBeRun}
use Rattle.cil_eval.specs.StackRows.{IsLength}
use Rattle.cil_eval.specs.declared.limits.Limits.{Limits}
use Rattle.cil_eval.specs.declared.stop.Stop.TheVariants as stops
use Rattle.clause_eval.proofs.ClauseTests.{length_of_all_olds}
use Rattle.cil_eval.proofs.GivenValues.{as_many}
use Rattle.cil_eval.proofs.RunnableUnits.{can_run}
use Rattle.cil_eval.proofs.SoundStates.{AllWait, IsSound, Stands, Waits, many_forms, sound_leads}
use Rattle.cil_eval.proofs.TurnLemmas.{unit_can}

-- ---- lengths

is_length : (heap : Heap) (v : Value) → IsValue heap v → IsLength v
is_length heap (values.Native n) is = is
is_length heap (values.Int n) is = tt
is_length heap values.Null is = tt
is_length heap (values.Array a) is = tt
is_length heap (values.Addr a n) is = tt
is_length heap values.Text is = tt

are_lengths : (heap : Heap) (vs : List Value) → AllByRecursion (IsValue heap) vs → AllByRecursion IsLength vs
are_lengths heap [] are = tt
are_lengths heap (v ∷ vs) are = (is_length heap v are.0, are_lengths heap vs are.1)

all_turned : (P : Frame → Type 0) (fs : List Frame) → AllByRecursion P (reverse fs) → AllByRecursion P fs
all_turned P fs h = subst (AllByRecursion P) (reverse-reverse fs) (all_reverse P (reverse fs) h)

pushed_longer : (kind : Option Kind) (rest : List Kind) → length rest ≤ length (pushed_kind kind rest)
pushed_longer None rest = omega arith
pushed_longer (Some kind) rest = omega arith

leads_on : (P Q : State → Type 0) (t : Turn) → ((s : State) → P s → Q s) → Leads P t → Leads Q t
leads_on P Q (To next) on h = on next h
leads_on P Q (Ends stops.Steps) on h = absurd h
leads_on P Q (Ends _) on h = tt
leads_on P Q Stuck on h = absurd h

module _ (w : World) (limits : Limits) (can : CanBeRun w) where
  -- ---- frames

  small : (heap : Heap) (f : Frame) (stands : Stands w limits can f) → IsFrame w.units heap f → length f.stack ≤ stands.unit.max_stack → IsSmall w f
  small heap f stands is few =
      let unit = stands.unit in
      let frame : IsFrameOf unit heap f = subst (λ (u : MethodUnit). IsFrameOf u heap f) (same_Some is.unit unit (sym is.of ∙ stands.of)) is.is in
      let runs = can_run unit stands.formed in
      let variables = stands.formed.limits.variables in
      record {
        stack = omega (arith, few, variables);
        args = omega (arith, as_many heap unit.args f.args frame.args, runs.args);
        locals = omega (arith, as_many heap unit.locals f.locals frame.locals, runs.locals);
        entry_args = omega (arith, as_many f.entry_heap unit.args f.entry_args frame.entry_args, runs.args);
        olds =
            let all = length_of_all_olds (clauses_in_force unit) f.entry_args f.entry_heap in
            let are : length (olds_of w f) ≡ length (olds_of_unit (Some unit) f.entry_args f.entry_heap) = ap (λ (u : Option MethodUnit). length (olds_of_unit u f.entry_args f.entry_heap)) stands.of in
            omega (arith, all, are, runs.few_olds);
      }

  waiting_few : (heap : Heap) (result : Place) (f : Frame) (h : Waits w limits can heap result f) → length f.stack ≤ h.stands.unit.max_stack
  waiting_few heap result f h = omega (arith, many_forms heap h.rest f.stack h.forms, pushed_longer (kind_of result) h.rest, h.few)

  waiting_small : (heap : Heap) (result : Place) (fs : List Frame) → AllWait w limits can heap result fs → AllByRecursion (IsFrame w.units heap) fs → AllByRecursion (IsSmall w) fs
  waiting_small heap result [] waits are = tt
  waiting_small heap result (f ∷ fs) (h, others) are = (small heap f h.stands are.0 (waiting_few heap result f h), waiting_small heap h.stands.unit.result fs others are.1)

  -- ---- states

  fits : (s : State) → IsSound w limits can s → Fits w limits s
  fits s sound =
      let parts = all_split (IsFrame w.units s.heap) (reverse s.below) (s.running ∷ []) sound.config.1 in
      let running = sound.typed_is.running in
      record {
        frames = (
          small s.heap s.running running.stands parts.1.0 running.few,
          waiting_small s.heap running.stands.unit.result s.below sound.typed_is.below (all_turned (IsFrame w.units s.heap) s.below parts.0),
        );
        deep = sound.typed_is.deep;
        lengths = are_lengths s.heap s.running.stack parts.1.0.is.stack;
      }

  goes_on : (n : ℕ) (s : State) → IsSound w limits can s → GoesOn w limits n s
  goes_on zero s sound = tt
  goes_on (suc n) s sound =
      (fits s sound, leads_on (IsSound w limits can) (GoesOn w limits n) (turn w limits s) (λ s sound. goes_on n s sound) (sound_leads w limits can s sound))

  -- ---- starts

  begins : (unit : MethodUnit) (index : ℕ) (args : List Value) (heap : Heap) → slice_get w.units index ≡ Some unit → MayBegin unit args heap → 1 ≤ limits.depth
      → IsSound w limits can (entry_state unit index args heap)
  begins unit index args heap of may deep =
      let formed = unit_can IsWellFormed w index unit of can.units in
      record {
        config = (may.heap_is, (record { unit = unit; of = of; is = entry_frame_is unit index args heap formed.locals may.heap_is may.fit }, tt));
        typed_is = record {
          running = record {
            stands = record { unit = unit; of = of; formed = formed; inside = omega arith; kinds = []; before = formed.runs.body.empty };
            forms = tt;
            few = omega arith;
          };
          below = tt;
          deep = omega (arith, deep);
        };
      }

  pub start_goes_on : (unit : MethodUnit) (index : ℕ) (args : List Value) (heap : Heap) → slice_get w.units index ≡ Some unit → MayBegin unit args heap → 1 ≤ limits.depth
      → (n : ℕ) → GoesOn w limits n (entry_state unit index args heap)
  start_goes_on unit index args heap of may deep n = goes_on n (entry_state unit index args heap) (begins unit index args heap of may deep)
