-- What is known behind a call of a method holds of the point where it came back.
use Rattle.std.proofs.Common.{◌≡◌, ℕ, List, [], ◌∷◌, length, slice_get, Option, Some, None, refl, sym, ap, subst, inl, inr}
use Rattle.std.specs.Option.{option_and_then}
use Rattle.std.proofs.lemmas.Option.{none-some, same_Some}
use Rattle.cil_model.specs.Calls.{FreeCall, FreeReturn, FreelyCalled, args_of, behind_call, pushed}
use Rattle.cil_model.specs.Clauses.{false_requires}
use Rattle.cil_model.specs.UnitCalls.{callee_of}
use Rattle.cil_model.specs.Values.{Heap}
use Rattle.cil_model.specs.WellFormed.{IsCallee}
use Rattle.cil_model.specs.declared.instruction.Instr.{Instr}
use Rattle.cil_model.specs.declared.machine.Config.TheVariants.{Live}
use Rattle.cil_model.specs.declared.machine.Frame.{Frame}
use Rattle.cil_model.specs.declared.machine.Value.{Value}
use Rattle.cil_model.specs.declared.unit.CalleeInfo.{CalleeInfo}
use Rattle.cil_model.specs.declared.unit.Unit.{Unit as MethodUnit}
use Rattle.cil_model.specs.declared.unit_numbers.UnitCall.{UnitCall}
use Rattle.cil_model.specs.declared.unit_numbers.UnitCall.TheVariants as calls
use Rattle.contract_calls.specs.CallForms.{CanCall}
use Rattle.contract_calls.specs.CallStates.{called}
use Rattle.contract_calls.proofs.WholeCalls.{whole_kept}
use Rattle.machine_points.specs.Points.{lives_at, point}
use Rattle.machine_points.specs.declared.point.Point.{Point}
use Rattle.state_facts.specs.Holds.{HoldsAt}
use Rattle.state_facts.specs.StateFacts.{StateFacts, State}
use Rattle.transfer_rules.specs.Acts.{after_callee}
use Rattle.transfer_rules.specs.Owed.{CanCallIt}

-- ---- what came back

-- No Requires was false, and the callee gave what its Ensures allow.
record CameBack (callee : CalleeInfo) (args : List Value) (i : Instr) (f g : Frame) (heap after : Heap)
    (fault : Option ℕ) : Type 0 where
  none : fault ≡ None
  result : Option Value
  free : FreeReturn callee args heap after result
  frame_is : pushed (behind_call i (length callee.args) f) result ≡ g

came_back : (callee : CalleeInfo) (args : List Value) (i : Instr) (f g : Frame) (heap after : Heap) (fault : Option ℕ)
    → FreelyCalled callee args i f heap fault (Live (g ∷ []) after) → CameBack callee args i f g heap after fault
came_back callee args i f g heap after (Some k) freely = absurd cc
came_back callee args i f g heap after None (inl ends) = absurd cc
came_back callee args i f g heap after None (inr (new, result, free, to)) =
    let heaps : new ≡ after = cc in
    let frames : pushed (behind_call i (length callee.args) f) result ≡ g = cc in
    record {
      none = refl;
      result = result;
      free = subst (λ (h : Heap). FreeReturn callee args heap h result) heaps free;
      frame_is = frames;
    }

-- ---- the point behind the call

back_there : (callee : CalleeInfo) (i : Instr) (p q : Point) (args : List Value) (known : StateFacts)
    → args_of p.heap callee.args p.frame.stack ≡ Some args → IsCallee callee → CanCall callee (Some known)
    → CameBack callee args i p.frame q.frame p.heap q.heap (false_requires callee.clauses args p.heap)
    → HoldsAt (Some known) p → HoldsAt (called callee (Some known)) q
back_there callee i p q args known are formed ready back at =
    subst (λ (g : Frame). HoldsAt (called callee (Some known)) (point g q.heap)) back.frame_is
    (whole_kept callee (Some known) formed ready i p args q.heap back.result are back.none back.free at)

pub call_there : (unit : MethodUnit) (number : ℕ) (i : Instr) (p q : Point) (state : State)
    → CanCallIt (slice_get unit.callees number) state → FreeCall unit number i p.frame p.heap (lives_at q)
    → HoldsAt state p → HoldsAt (option_and_then (after_callee (slice_get unit.callees number)) state) q
call_there unit number i p q None ready call at = absurd at.frame.holds
call_there unit number i p q (Some known) ready call at =
    let can = subst (λ (o : Option CalleeInfo). CanCallIt o (Some known)) call.callee_is ready in
    subst (λ (o : Option CalleeInfo). HoldsAt (after_callee o known) q) (sym call.callee_is)
    (back_there call.callee i p q call.args known call.args_are can.0 can.1
    (came_back call.callee call.args i p.frame q.frame p.heap q.heap
    (false_requires call.callee.clauses call.args p.heap) call.freely) at)

-- ---- the number of a callee

pub callee_is : (call : Option UnitCall) (number : ℕ) → callee_of call ≡ Some number
    → call ≡ Some (calls.Callee number)
callee_is None number is = absurd (none-some number is)
callee_is (Some (calls.Callee n)) number is = ap (λ (k : ℕ). Some (calls.Callee k)) (same_Some n number is)
callee_is (Some (calls.Requires message)) number is = absurd (none-some number is)
callee_is (Some (calls.Ensures message)) number is = absurd (none-some number is)
callee_is (Some (calls.Assert message)) number is = absurd (none-some number is)
callee_is (Some (calls.Assume message)) number is = absurd (none-some number is)
callee_is (Some calls.EndContractBlock) number is = absurd (none-some number is)
callee_is (Some (calls.Result place)) number is = absurd (none-some number is)
callee_is (Some (calls.OldValue place)) number is = absurd (none-some number is)
