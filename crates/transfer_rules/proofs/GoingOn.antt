-- The rules of an instruction, one after another.
use Rattle.std.proofs.Common.{◌≡◌, ℕ, Option, Some, None, refl, sym, subst}
use Rattle.std.specs.Prelude.{Result, Ok, Err, IfOk}
use Rattle.std.specs.Option.{ForSome, option_and_then}
use Rattle.cil_model.specs.UnitCalls.{unit_call}
use Rattle.cil_model.specs.declared.instruction.Op.{Op}
use Rattle.cil_model.specs.declared.instruction.Op.TheVariants as ops
use Rattle.cil_model.specs.declared.unit.Unit.{Unit as MethodUnit}
use Rattle.cil_model.specs.declared.unit_numbers.UnitCall.{UnitCall}
use Rattle.cil_model.specs.declared.unit_numbers.UnitCall.TheVariants as calls
use Rattle.obligation_prover.specs.Avoiding.{avoid_all}
use Rattle.obligation_prover.specs.Operations.{operation_of}
use Rattle.state_facts.specs.Forms.{HasForm}
use Rattle.state_facts.specs.StateFacts.{State}
use Rattle.transfer_rules.specs.Choices.{chosen}
use Rattle.transfer_rules.specs.Owed.{CanCallBy, CanDo, CanGiveBack, IsReady}
use Rattle.transfer_rules.specs.Post.{along, post}
use Rattle.transfer_rules.specs.Steps.{HoldsAlong, HoldsBehind}
use Rattle.transfer_rules.specs.Laws.PostLaws.{along_holds, call_avoided, post_holds}
use Rattle.transfer_rules.specs.Laws.Ready.{avoided_ready, chosen_ready}
use Rattle.unit_flow.specs.Ways.{IsShortSwitch}

-- Operands are ready where no fault came, and still so along each way.
pub ready_behind : (op : Op) (old new : State) → ForSome old HasForm → new ≡ avoid_all op old
    → ForSome new (IsReady op)
ready_behind op old new form is = subst (λ (s : State). ForSome s (IsReady op)) (sym is) (avoided_ready op old form)

pub ready_along : (op : Op) (way : ℕ) (old between new : State) → ForSome old HasForm → between ≡ avoid_all op old
    → new ≡ option_and_then (chosen op way) between → ForSome new (IsReady op)
ready_along op way old between new form first is =
    subst (λ (s : State). ForSome s (IsReady op)) (sym is)
    (chosen_ready op way between (ready_behind op old between form first))

-- ---- calls and returns

named_still : (unit : MethodUnit) (number : ℕ) (old : State) (call : Option UnitCall) → unit_call number ≡ call
    → CanCallBy unit call old → CanCallBy unit call (avoid_all (ops.Call number) old)
named_still unit number old (Some (calls.Callee n)) is can =
    subst (CanCallBy unit (Some (calls.Callee n))) (sym (call_avoided n number old is)) can
named_still unit number old _ is can = tt

-- A return ends in no fault that is assumed away before its rule.
return_avoided : (state : State) → avoid_all ops.Return state ≡ state
unfolding operation_of
return_avoided None = refl
return_avoided (Some known) = refl

avoided_can : (unit : MethodUnit) (op : Op) (old : State) → CanDo unit op old → CanDo unit op (avoid_all op old)
avoided_can unit (ops.Call number) old can = named_still unit number old (unit_call number) refl can
avoided_can unit ops.Return old can = subst (CanGiveBack unit) (sym (return_avoided old)) can
avoided_can unit _ old can = tt

-- A call has one way, and a return has none.
chosen_can : (unit : MethodUnit) (op : Op) (way : ℕ) (old : State) → CanDo unit op old
    → CanDo unit op (option_and_then (chosen op way) old)
unfolding chosen
chosen_can unit (ops.Call number) way None can = can
chosen_can unit (ops.Call number) way (Some known) can = can
chosen_can unit ops.Return way None can = can
chosen_can unit ops.Return way (Some known) can = can
chosen_can unit _ way old can = tt

-- What a call takes is there, where no fault came, and still so along its way. So is what a return reads.
pub can_behind : (unit : MethodUnit) (op : Op) (old new : State) → CanDo unit op old → new ≡ avoid_all op old
    → CanDo unit op new
can_behind unit op old new can is = subst (CanDo unit op) (sym is) (avoided_can unit op old can)

pub can_along : (unit : MethodUnit) (op : Op) (way : ℕ) (old between new : State) → CanDo unit op old
    → between ≡ avoid_all op old → new ≡ option_and_then (chosen op way) between → CanDo unit op new
can_along unit op way old between new can first is =
    subst (CanDo unit op) (sym is) (chosen_can unit op way between (can_behind unit op old between can first))

-- ---- what holds

-- What a rule gives holds where the instruction leads.
pub holds_behind : {E : Type 0} (result : Result State E) (unit : MethodUnit) (op : Op) (old : State)
    → ForSome old HasForm → CanDo unit op old → IfOk result (λ new. new ≡ post unit op old)
    → IfOk result (λ new. HoldsBehind unit op old new)
holds_behind (Ok new) unit op old form can is =
    subst (HoldsBehind unit op old) (sym is) (post_holds unit op old form can)
holds_behind (Err e) unit op old form can is = tt

pub holds_along : {E : Type 0} (result : Result State E) (unit : MethodUnit) (op : Op) (way : ℕ) (old : State)
    → IsShortSwitch op → ForSome old HasForm → CanDo unit op old
    → IfOk result (λ new. new ≡ along unit op way old) → IfOk result (λ new. HoldsAlong unit op way old new)
holds_along (Ok new) unit op way old short form can is =
    subst (HoldsAlong unit op way old) (sym is) (along_holds unit op way old short form can)
holds_along (Err e) unit op way old short form can is = tt

pub ruleset going_on = (ready_behind, ready_along, can_behind, can_along)

pub ruleset holding = (holds_behind, holds_along)
