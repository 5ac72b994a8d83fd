-- One step of frames that hold a state is that of the state.
use Rattle.std.proofs.Common.{◌≡◌, ℕ, zero, suc, ◌+◌, ◌<◌, ◌^◌, Bool, nat_le, List, [], ◌∷◌, length, Option, Some, slice_get, refl, sym, ap, subst, ◌∙◌}
use Rattle.std.specs.List.{AllByRecursion}
use Rattle.std.proofs.lemmas.Option.{none-some, same_Some}
use Rattle.cil_model.proofs.Lists.{of_found}
use Rattle.cil_model.specs.Calls.{callee_index, result_of}
use Rattle.cil_model.specs.Effects.{effects}
use Rattle.cil_model.specs.Runs.{instr_at}
use Rattle.cil_model.specs.UnitCalls.{unit_call}
use Rattle.cil_model.specs.Values.{Heap}
use Rattle.cil_model.specs.declared.instruction.Instr.{Instr}
use Rattle.cil_model.specs.declared.instruction.Op.{Op}
use Rattle.cil_model.specs.declared.instruction.Op.TheVariants as ops
use Rattle.cil_model.specs.declared.machine.World.{World}
use Rattle.cil_model.specs.declared.unit.Unit.{Unit as MethodUnit}
use Rattle.cil_model.specs.declared.unit_numbers.UnitCall.{UnitCall}
use Rattle.cil_model.specs.declared.unit_numbers.UnitCall.TheVariants as calls
use Rattle.cil_eval.specs.Called.{Returns}
use Rattle.cil_eval.specs.Effect.{Effects}
use Rattle.cil_eval.specs.Flows.{AreRunnable, IsRunnable, flow_of, flow_of_call}
use Rattle.cil_eval.specs.Held.{Holds, Turned, position_of}
use Rattle.cil_eval.specs.Outcome.{State, Turn, after_call, after_effects, after_index, after_instr, after_op, after_result, after_unit, turn}
use Rattle.cil_eval.specs.StackRows.{IsLength}
use Rattle.cil_eval.specs.Turns.{CallsNumber}
use Rattle.cil_eval.specs.declared.flow.Flow.{Flow}
use Rattle.cil_eval.specs.declared.flow.Flow.TheVariants as flows
use Rattle.cil_eval.specs.declared.frames.Frames.{Frames}
use Rattle.cil_eval.specs.declared.frames.Position.{Position}
use Rattle.cil_eval.specs.declared.limits.Limits.{Limits}
use Rattle.cil_eval.specs.declared.stop.Stop.{Stop}

-- What holds of all holds of one.
of_one : {X : Type 0} (P : X → Type 0) (xs : List X) (k : ℕ) (x : X) → AllByRecursion P xs → slice_get xs k ≡ Some x → P x
of_one P [] k x h e = absurd (none-some x e)
of_one P (y ∷ ys) zero x h e = subst P (same_Some y x e) h.0
of_one P (y ∷ ys) (suc k) x h e = of_one P ys k x h.1 e

pub unit_can : (P : MethodUnit → Type 0) (w : World) (k : ℕ) (unit : MethodUnit) → slice_get w.units k ≡ Some unit → AllByRecursion P w.units → P unit
unit_can P w k unit e h = of_one P w.units k unit h e

pub runnable : (w : World) (k : ℕ) (unit : MethodUnit) → AreRunnable w → slice_get w.units k ≡ Some unit → IsRunnable unit
runnable w k unit h e = of_one IsRunnable w.units k unit h e

pub goes_behind : (unit : MethodUnit) (at : ℕ) (i : Instr) → instr_at unit.instrs at ≡ Some i → IsRunnable unit → i.at + i.size < 2 ^ 32
goes_behind unit at i e h = of_found (λ (j : Instr). j.at + j.size < 2 ^ 32) unit.instrs at i h.behind e

-- ---- by where the operation leads

module _ (w : World) (limits : Limits) (s : State) (unit : MethodUnit) (i : Instr) where
  abbrev after_flow : Flow → Turn
  after_flow flows.Back = after_result s unit i (result_of s.heap unit.result s.running.stack)
  after_flow (flows.Into number) = after_index w limits s i (callee_index w s.running.unit number)
  after_flow flows.Stays = after_effects limits.cells s i (effects unit i s.running s.heap)

  call_flows : (call : Option UnitCall) → after_call w limits s unit i call ≡ after_flow (flow_of_call call)
  call_flows (Some (calls.Callee number)) = refl
  call_flows _ = refl

  op_flows : (op : Op) → after_op w limits s unit i op ≡ after_flow (flow_of op)
  op_flows ops.Return = refl
  op_flows (ops.Call number) = call_flows (unit_call number)
  op_flows _ = refl

  -- The frame's unit and instruction were found where it is.
  turn_flows : (from : Position) → from ≡ position_of s.running → slice_get w.units from.unit ≡ Some unit → instr_at unit.instrs from.at ≡ Some i
      → turn w limits s ≡ after_flow (flow_of i.op)
  turn_flows from is found instr =
      ap (λ (p : Position). after_unit w limits s (slice_get w.units p.unit)) (sym is) ∙ ap (after_unit w limits s) found
      ∙ ap (λ (p : Position). after_instr w limits s unit (instr_at unit.instrs p.at)) (sym is) ∙ ap (after_instr w limits s unit) instr
      ∙ op_flows i.op

from_is : (w : World) (old : Frames) (heap : Heap) (s : State) (from : Position) → Holds w old heap s → Some from ≡ slice_get old.positions.top 0 → from ≡ position_of s.running
from_is w old heap s from h e = sym (same_Some (position_of s.running) from (sym (e ∙ ap (λ (ps : List Position). slice_get ps 0) h.positions)))

module _ (w : World) (limits : Limits) (s : State) (unit : MethodUnit) (i : Instr) (from : Position) (old new : Frames) (heap after : Heap) (stop : Option Stop)
    (h : Holds w old heap s) (top : Some from ≡ slice_get old.positions.top 0) (found : slice_get w.units from.unit ≡ Some unit)
    (instr : instr_at unit.instrs from.at ≡ Some i) (flow : Flow) (flows_to : flow ≡ flow_of i.op) where
  same : s.running.unit ≡ from.unit
  same = ap (λ (p : Position). p.unit) (sym (from_is w old heap s from h top))

  by_flow : Turned w (after_flow w limits s unit i flow) new after stop → Turned w (turn w limits s) new after stop
  by_flow turned =
      subst (λ (t : Turn). Turned w t new after stop)
      (ap (after_flow w limits s unit i) flows_to ∙ sym (turn_flows w limits s unit i from (from_is w old heap s from h top) found instr)) turned

  pub turned_back : flow ≡ flows.Back → AreRunnable w → after ≡ heap → Returns unit from.unit i old heap new stop → Turned w (turn w limits s) new after stop
  turned_back back runs stays returns =
      by_flow (rw (back, stays) (returns w s h found same (runnable w from.unit unit runs found).olds))

  pub turned_into : (number : ℕ) (deeper : Bool) → flow ≡ flows.Into number → after ≡ heap → deeper ≡ nat_le (length s.below + 2) limits.depth
      → CallsNumber w number from.unit i deeper old heap new stop → Turned w (turn w limits s) new after stop
  turned_into number deeper into stays depth calls =
      by_flow (rw (into, stays)
      (subst (λ n. Turned w (after_index w limits s i (callee_index w n number)) new heap stop) (sym same) (calls limits s h same depth)))

  pub turned_stays : (cells : ℕ) → flow ≡ flows.Stays → limits.cells ≡ cells → AllByRecursion IsLength s.running.stack
      → Effects cells unit from.unit i old heap new after stop → Turned w (turn w limits s) new after stop
  turned_stays cells stays limit lengths effects = by_flow (rw (stays, limit) (effects w s h same lengths))
