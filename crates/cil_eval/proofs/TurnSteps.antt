-- What comes of a state is a step of the machine, or a limit that the step would pass.
use Rattle.std.proofs.Common.{◌≡◌, ℕ, ◌+◌, ◌<◌, nat_le, length-append, arith, List, [], ◌∷◌, ◌++◌, length, reverse, Option, Some, None, slice_get, refl, sym, ap, subst, ◌∙◌, inl, inr, append_assoc}
use Rattle.std.proofs.lemmas.Bool.{cond_both, leb-false}
use Rattle.std.proofs.lemmas.List.{length-reverse, reverse-append}
use Rattle.cil_model.specs.Calls.{ReturnRow, Returned, Returns, WorldCall, args_of, behind_call, callee_index, called, clauses_in_force, ensures_fault, entry_frame, result_of}
use Rattle.cil_model.specs.Clauses.{false_requires}
use Rattle.cil_model.specs.Effects.{Effect, GoesOn, Faults, Assumes, FindsNoRoom, HasEffect, effects}
use Rattle.cil_model.specs.Runs.{CallsBy, Row, Step, config_after, instr_at}
use Rattle.cil_model.specs.UnitCalls.{unit_call}
use Rattle.cil_model.specs.declared.instruction.Instr.{Instr}
use Rattle.cil_model.specs.declared.instruction.Op.{Op}
use Rattle.cil_model.specs.declared.instruction.Op.TheVariants as ops
use Rattle.cil_model.specs.declared.machine.Config.{Config}
use Rattle.cil_model.specs.declared.machine.Config.TheVariants as configs
use Rattle.cil_model.specs.declared.machine.FaultKind.TheVariants as faults
use Rattle.cil_model.specs.declared.machine.Frame.{Frame}
use Rattle.cil_model.specs.declared.machine.Value.{Value}
use Rattle.cil_model.specs.declared.machine.World.{World}
use Rattle.cil_model.specs.declared.unit.Unit.{Unit as MethodUnit}
use Rattle.cil_model.specs.declared.unit_numbers.UnitCall.{UnitCall}
use Rattle.cil_model.specs.declared.unit_numbers.UnitCall.TheVariants as calls
use Rattle.clause_eval.specs.Stores.{cells_of}
use Rattle.cil_eval.specs.MachineSteps.{EndsBy}
use Rattle.cil_eval.specs.Outcome.{State, Turn, To, Ends, Stuck, after_args, after_array, after_call, after_callee, after_effect, after_effects, after_ensures, after_index, after_instr, after_op, after_requires, after_result, after_unit, config_of, resumed, turn}
use Rattle.cil_eval.specs.declared.limits.Limits.{Limits}
use Rattle.cil_eval.specs.declared.stop.Stop.{Stop}
use Rattle.cil_eval.specs.declared.stop.Stop.TheVariants as stops

-- What comes is one of these configurations, or the stop tells one, where the machine is not stuck.
abbrev pub Comes : Limits → (Config → Type 0) → Turn → Type 0
Comes limits R (To next) = R (config_of next)
Comes limits R (Ends stop) = EndsBy limits R stop
Comes limits R Stuck = Unit {0}

ends_on : (limits : Limits) (R S : Config → Type 0) (stop : Stop) → ((c : Config) → R c → S c) → EndsBy limits R stop → EndsBy limits S stop
ends_on limits R S (stops.Returned result) on h = on (configs.Returned result) h
ends_on limits R S (stops.Fault kind unit at) on h = on (configs.Fault kind unit at) h
ends_on limits R S (stops.Assumed unit at) on h = on (configs.Assumed unit at) h
ends_on limits R S stops.Cells on h = on configs.NoRoom h
ends_on limits R S stops.Depth on h = record { frames = h.frames; heap = h.heap; next = on (configs.Live h.frames h.heap) h.next; deep = h.deep }
ends_on limits R S stops.Steps on h = absurd h

comes_on : (limits : Limits) (R S : Config → Type 0) (t : Turn) → ((c : Config) → R c → S c) → Comes limits R t → Comes limits S t
comes_on limits R S (To next) on h = on (config_of next) h
comes_on limits R S (Ends stop) on h = ends_on limits R S stop on h
comes_on limits R S Stuck on h = tt

turned : (f : Frame) (below : List Frame) → reverse (f ∷ below) ≡ reverse below ++ f ∷ []
turned f below = reverse-append (f ∷ []) below

module _ (w : World) (limits : Limits) (s : State) (unit : MethodUnit) (i : Instr) where
  abbrev callers : List Frame
  callers = reverse s.below

  abbrev f : Frame
  f = s.running

  -- ---- effects

  abbrev IsOneOf : List Effect → Config → Type 0
  IsOneOf es new = (effect : Effect) × HasEffect es effect × (new ≡ config_after callers f i effect)

  later : (first : Effect) (es : List Effect) (c : Config) → IsOneOf es c → IsOneOf (first ∷ es) c
  later first es c (effect, has, is) = (effect, inr has, is)

  one_effect : (e : Effect) (es : List Effect) → Comes limits (IsOneOf (e ∷ es)) (after_effect s i e)
  one_effect (GoesOn new heap) es = (GoesOn new heap, inl refl, refl)
  one_effect (Faults kind) es = (Faults kind, inl refl, refl)
  one_effect Assumes es = (Assumes, inl refl, refl)
  one_effect FindsNoRoom es = (FindsNoRoom, inl refl, refl)

  no_room : (es : List Effect) → IsOneOf (FindsNoRoom ∷ es) configs.NoRoom
  no_room es = (FindsNoRoom, inl refl, refl)

  second_effect : (e : Effect) (es : List Effect) → Comes limits (IsOneOf (FindsNoRoom ∷ e ∷ es)) (after_effect s i e)
  second_effect e es = comes_on limits (IsOneOf (e ∷ es)) (IsOneOf (FindsNoRoom ∷ e ∷ es)) (after_effect s i e) (later FindsNoRoom (e ∷ es)) (one_effect e es)

  array_effect : (e : Effect) (es : List Effect) → Comes limits (IsOneOf (FindsNoRoom ∷ e ∷ es)) (after_array limits.cells s i e)
  array_effect (GoesOn new heap) es =
      cond_both (nat_le (cells_of heap) limits.cells) _ _ (λ (t : Turn). Comes limits (IsOneOf (FindsNoRoom ∷ GoesOn new heap ∷ es)) t)
      (λ _. second_effect (GoesOn new heap) es) (λ _. no_room (GoesOn new heap ∷ es))
  array_effect (Faults kind) es = second_effect (Faults kind) es
  array_effect Assumes es = second_effect Assumes es
  array_effect FindsNoRoom es = second_effect FindsNoRoom es

  effect_comes : (es : List Effect) → Comes limits (IsOneOf es) (after_effects limits.cells s i es)
  effect_comes [] = tt
  effect_comes (FindsNoRoom ∷ []) = no_room []
  effect_comes (FindsNoRoom ∷ e ∷ es) = array_effect e es
  effect_comes (GoesOn new heap ∷ es) = one_effect (GoesOn new heap) es
  effect_comes (Faults kind ∷ es) = one_effect (Faults kind) es
  effect_comes (Assumes ∷ es) = one_effect Assumes es

  -- ---- calls

  module _ (number : ℕ) where
    abbrev IsCall : Config → Type 0
    IsCall new = WorldCall w callers number i f s.heap new

    abbrev below_entry : ℕ → MethodUnit → List Value → List Frame
    below_entry index callee args = behind_call i (length callee.args) f ∷ entry_frame callee index args s.heap ∷ []

    deeper : (above : List Frame) → length above ≡ 2 → limits.depth < length s.below + 2 → limits.depth < length (callers ++ above)
    deeper above two more = omega (arith, length-append callers above, length-reverse s.below, two, more)

    laid : (index : ℕ) (callee : MethodUnit) (args : List Value) → reverse (behind_call i (length callee.args) f ∷ s.below) ++ entry_frame callee index args s.heap ∷ [] ≡ callers ++ below_entry index callee args
    laid index callee args =
        ap (λ (fs : List Frame). fs ++ entry_frame callee index args s.heap ∷ []) (turned (behind_call i (length callee.args) f) s.below)
        ∙ append_assoc callers (behind_call i (length callee.args) f ∷ []) (entry_frame callee index args s.heap ∷ [])

    requires_come : (index : ℕ) (callee : MethodUnit) (args : List Value) → callee_index w f.unit number ≡ Some index → slice_get w.units index ≡ Some callee
        → args_of s.heap callee.args f.stack ≡ Some args → (fault : Option ℕ) → false_requires (clauses_in_force callee) args s.heap ≡ fault
        → Comes limits IsCall (after_requires limits s i index callee args fault)
    requires_come index callee args named found are (Some k) e = record {
      index = index;
      callee = callee;
      args = args;
      index_is = named;
      callee_is = found;
      args_are = are;
      new_is = sym (ap (called callers callee index args i f s.heap) e);
    }
    requires_come index callee args named found are None e =
        cond_both (nat_le (length s.below + 2) limits.depth) _ _ (λ (t : Turn). Comes limits IsCall t)
        (λ _. record {
          index = index;
          callee = callee;
          args = args;
          index_is = named;
          callee_is = found;
          args_are = are;
          new_is = ap (λ (fs : List Frame). configs.Live fs s.heap) (laid index callee args) ∙ sym (ap (called callers callee index args i f s.heap) e);
        })
        (λ more. record {
          frames = callers ++ below_entry index callee args;
          heap = s.heap;
          next = record {
            index = index;
            callee = callee;
            args = args;
            index_is = named;
            callee_is = found;
            args_are = are;
            new_is = sym (ap (called callers callee index args i f s.heap) e);
          };
          deep = deeper (below_entry index callee args) refl (leb-false _ _ more);
        })

    args_come : (index : ℕ) (callee : MethodUnit) → callee_index w f.unit number ≡ Some index → slice_get w.units index ≡ Some callee
        → (args : Option (List Value)) → args_of s.heap callee.args f.stack ≡ args → Comes limits IsCall (after_args limits s i index callee args)
    args_come index callee named found None e = tt
    args_come index callee named found (Some args) e = requires_come index callee args named found e (false_requires (clauses_in_force callee) args s.heap) refl

    callee_comes : (index : ℕ) → callee_index w f.unit number ≡ Some index → (callee : Option MethodUnit) → slice_get w.units index ≡ callee
        → Comes limits IsCall (after_callee limits s i index callee)
    callee_comes index named None e = tt
    callee_comes index named (Some callee) e = args_come index callee named e (args_of s.heap callee.args f.stack) refl

    index_comes : (index : Option ℕ) → callee_index w f.unit number ≡ index → Comes limits IsCall (after_index w limits s i index)
    index_comes None e = tt
    index_comes (Some index) e = callee_comes index e (slice_get w.units index) refl

  -- ---- returns

  abbrev IsReturn : Config → Type 0
  IsReturn new = ReturnRow callers unit i f s.heap new

  resumes : (below : List Frame) (result : Option Value) → Comes limits (Returns (reverse below) result s.heap) (resumed below result s.heap)
  resumes [] result = inl (refl, refl)
  resumes (caller ∷ below) result = inr (reverse below, caller, turned caller below, refl)

  ensures_come : (result : Option Value) → result_of s.heap unit.result f.stack ≡ Some result → (fault : Option ℕ) → ensures_fault unit f s.heap result ≡ fault
      → Comes limits IsReturn (after_ensures s i result fault)
  ensures_come result is (Some k) e =
      (result, is, subst (λ (fault : Option ℕ). Returned callers i f s.heap result fault (configs.Fault (faults.Ensures k) f.unit i.at)) (sym e) refl)
  ensures_come result is None e =
      comes_on limits (Returns callers result s.heap) IsReturn (resumed s.below result s.heap)
      (λ c h. (result, is, subst (λ (fault : Option ℕ). Returned callers i f s.heap result fault c) (sym e) h)) (resumes s.below result)

  result_comes : (result : Option (Option Value)) → result_of s.heap unit.result f.stack ≡ result → Comes limits IsReturn (after_result s unit i result)
  result_comes None e = tt
  result_comes (Some result) e = ensures_come result e (ensures_fault unit f s.heap result) refl

  -- ---- one step

  call_comes : (call : Option UnitCall) → Comes limits (CallsBy (WorldCall w callers) call callers unit i f s.heap) (after_call w limits s unit i call)
  call_comes (Some (calls.Callee number)) = index_comes number (callee_index w f.unit number) refl
  call_comes _ = effect_comes (effects unit i f s.heap)

  op_comes : (op : Op) → Comes limits (Row (WorldCall w callers) op callers unit i f s.heap) (after_op w limits s unit i op)
  op_comes ops.Return = result_comes (result_of s.heap unit.result f.stack) refl
  op_comes (ops.Call number) = call_comes (unit_call number)
  op_comes _ = effect_comes (effects unit i f s.heap)

instr_comes : (w : World) (limits : Limits) (s : State) (unit : MethodUnit) → slice_get w.units s.running.unit ≡ Some unit
    → (i : Option Instr) → instr_at unit.instrs s.running.at ≡ i → Comes limits (Step w (config_of s)) (after_instr w limits s unit i)
instr_comes w limits s unit of None e = tt
instr_comes w limits s unit of (Some i) e =
    comes_on limits (Row (WorldCall w (reverse s.below)) i.op (reverse s.below) unit i s.running s.heap) (Step w (config_of s)) (after_op w limits s unit i i.op)
    (λ c row. (reverse s.below, s.running, unit, i, refl, record { of = of; to = e }, row)) (op_comes w limits s unit i i.op)

unit_comes : (w : World) (limits : Limits) (s : State) (unit : Option MethodUnit) → slice_get w.units s.running.unit ≡ unit
    → Comes limits (Step w (config_of s)) (after_unit w limits s unit)
unit_comes w limits s None e = tt
unit_comes w limits s (Some unit) e = instr_comes w limits s unit e (instr_at unit.instrs s.running.at) refl

pub turn_steps : (w : World) (limits : Limits) (s : State) → Comes limits (Step w (config_of s)) (turn w limits s)
turn_steps w limits s = unit_comes w limits s (slice_get w.units s.running.unit) refl
