-- What a call of a method takes and gives, and a return.
use Rattle.std.proofs.Common.{◌≡◌, Option, Some, None, refl, sym, ap, subst, ◌∙◌}
use Rattle.std.specs.Prelude.{Result, Ok, Err, OnOk}
use Rattle.std.specs.Option.{option_and_then}
use Rattle.cil_model.specs.WellFormed.{IsCallee, IsWellFormed}
use Rattle.cil_model.specs.declared.unit.CalleeInfo.{CalleeInfo}
use Rattle.cil_model.specs.declared.unit.Unit.{Unit as MethodUnit}
use Rattle.contract_calls.specs.CallForms.{CanCall, CanReturn}
use Rattle.contract_calls.specs.CallStates.{called}
use Rattle.state_facts.specs.StateFacts.{State}
use Rattle.transfer_rules.specs.Acts.{after_callee}
use Rattle.transfer_rules.specs.Owed.{CanCallIt, CanGiveBack}
use Rattle.transfer_rules.specs.Laws.CalledForms.{none_back}

-- ---- the callee of a number

pub formed_callee : (o : Option CalleeInfo) (callee : CalleeInfo) (state : State) → o ≡ Some callee → CanCallIt o state
    → IsCallee callee
formed_callee o callee state is ready = (subst (λ (c : Option CalleeInfo). CanCallIt c state) is ready).0

pub ready_callee : (o : Option CalleeInfo) (callee : CalleeInfo) (state : State) → o ≡ Some callee → CanCallIt o state
    → CanCall callee state
ready_callee o callee state is ready = (subst (λ (c : Option CalleeInfo). CanCallIt c state) is ready).1

callee_called : (o : Option CalleeInfo) (callee : CalleeInfo) (state : State) → o ≡ Some callee
    → called callee state ≡ option_and_then (after_callee o) state
callee_called o callee None is = none_back callee
callee_called o callee (Some known) is = ap (λ (c : Option CalleeInfo). after_callee c known) (sym is)

pub where_called : {E : Type 0} (result : Result (Unit {0}) E) (o : Option CalleeInfo) (callee : CalleeInfo)
    (old new : State) → o ≡ Some callee → OnOk result (new ≡ called callee old)
    → OnOk result (new ≡ option_and_then (after_callee o) old)
where_called (Ok u) o callee old new found is = is ∙ callee_called o callee old found
where_called (Err e) o callee old new found is = tt

pub none_called : (o : Option CalleeInfo) (state : State) → o ≡ None → None ≡ option_and_then (after_callee o) state
none_called o None is = refl
none_called o (Some known) is = ap (λ (c : Option CalleeInfo). after_callee c known) (sym is)

pub ruleset calling = (formed_callee, ready_callee)

-- ---- returns

pub formed_unit : (unit : MethodUnit) (state : State) → CanGiveBack unit state → IsWellFormed unit
formed_unit unit state ready = ready.0

pub ready_unit : (unit : MethodUnit) (state : State) → CanGiveBack unit state → CanReturn unit state
ready_unit unit state ready = ready.1

pub ruleset returning = (formed_unit, ready_unit)
