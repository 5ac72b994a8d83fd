-- What calls of contracts and branches take.
use Rattle.std.proofs.Common.{◌≡◌, ℕ, Bool, Option, Some, None, slice_get, refl, sym, ap, subst, ◌∙◌}
use Rattle.std.specs.Option.{option_and_then}
use Rattle.cil_model.specs.declared.instruction.CmpOp.{CmpOp}
use Rattle.cil_model.specs.declared.instruction.Test.{Test}
use Rattle.cil_model.specs.declared.instruction.Test.TheVariants as tests
use Rattle.cil_model.specs.declared.unit.Unit.{Unit as MethodUnit}
use Rattle.cil_model.specs.declared.unit_numbers.UnitCall.{UnitCall}
use Rattle.cil_model.specs.declared.unit_numbers.UnitCall.TheVariants as calls
use Rattle.domain_api.specs.declared.expr.Expr.{Expr}
use Rattle.frame_names.specs.declared.var.Var.{Var}
use Rattle.frame_names.specs.declared.var.Var.TheVariants as vars
use Rattle.state_facts.specs.StateFacts.{StateFacts, State}
use Rattle.state_facts.specs.States as states
use Rattle.state_obligations.specs.Assumed.{assume}
use Rattle.state_obligations.specs.declared.condition.Condition.TheVariants as conditions
use Rattle.transfer_rules.specs.Acts.{after_callee, behind_call, behind_test, left, with_condition}
use Rattle.transfer_rules.specs.Owed.{CanCallBy, CanCallIt}
use Rattle.transfer_rules.specs.Operands.{TookCondition, on_condition, over_one}

-- ---- conditions

over_condition : (e : Expr) (after : State) → assume (conditions.Assert e) after ≡ over_one with_condition (Some (vars.Number e)) after
over_condition e None = refl
over_condition e (Some known) = refl

pub condition_is : (message : Bool) (e : Expr) (state after : State) → TookCondition message (Some (vars.Number e)) state after
    → assume (conditions.Assert e) after ≡ option_and_then (on_condition message with_condition) state
condition_is message e state after took = over_condition e after ∙ sym (took with_condition)

over_none : (o : Option Var) (after : State) → ((e : Expr) → o ≡ Some (vars.Number e) → ⊥) → over_one with_condition o after ≡ None
over_none None after not = refl
over_none (Some v) None not = refl
over_none (Some (vars.Number e)) (Some known) not = absurd (not e refl)
over_none (Some _) (Some known) not = refl

pub no_condition : (message : Bool) (o : Option Var) (state after : State) → TookCondition message o state after
    → ((e : Expr) → o ≡ Some (vars.Number e) → ⊥) → None ≡ option_and_then (on_condition message with_condition) state
no_condition message o state after took not = sym (took with_condition ∙ over_none o after not)

over_left : (v : Var) (after : State) → after ≡ over_one left (Some v) after
over_left v None = refl
over_left v (Some known) = refl

pub left_is : (message : Bool) (v : Var) (state after : State) → TookCondition message (Some v) state after
    → after ≡ option_and_then (on_condition message left) state
left_is message v state after took = over_left v after ∙ sym (took left)

pub left_none : (message : Bool) (state after : State) → TookCondition message None state after → None ≡ option_and_then (on_condition message left) state
left_none message state after took = sym (took left)

-- ---- calls

module _ (unit : MethodUnit) where
  pub assert_passed : (call : UnitCall) (message : Bool) (state : State) → call ≡ calls.Assert message
      → option_and_then (on_condition message left) state ≡ option_and_then (behind_call unit (Some call)) state
  unfolding behind_call
  assert_passed call message None is = refl
  assert_passed call message (Some known) is = rw is refl

  pub assume_passed : (call : UnitCall) (message : Bool) (state : State) → call ≡ calls.Assume message
      → option_and_then (on_condition message with_condition) state
      ≡ option_and_then (behind_call unit (Some call)) state
  unfolding behind_call
  assume_passed call message None is = refl
  assume_passed call message (Some known) is = rw is refl

  pub callee_passed : (call : UnitCall) (number : ℕ) (state : State) → call ≡ calls.Callee number
      → option_and_then (after_callee (slice_get unit.callees number)) state
      ≡ option_and_then (behind_call unit (Some call)) state
  unfolding behind_call
  callee_passed call number None is = refl
  callee_passed call number (Some known) is = rw is refl

  pub callee_ready : (call : UnitCall) (number : ℕ) (state : State) → call ≡ calls.Callee number
      → CanCallBy unit (Some call) state → CanCallIt (slice_get unit.callees number) state
  callee_ready call number state is ready = subst (λ (c : UnitCall). CanCallBy unit (Some c) state) is ready

  pub other_passed : (call : UnitCall) (state : State)
      → ((known : StateFacts) → behind_call unit (Some call) known ≡ Some known)
      → state ≡ option_and_then (behind_call unit (Some call)) state
  other_passed call None same = refl
  other_passed call (Some known) same = sym (same known)

  pub none_passed : (call : Option UnitCall) (state : State) → call ≡ None
      → state ≡ option_and_then (behind_call unit call) state
  unfolding behind_call
  none_passed call None is = refl
  none_passed call (Some known) is = rw is refl

  pub some_passed : (call : Option UnitCall) (named : UnitCall) (state : State) → call ≡ Some named
      → option_and_then (behind_call unit (Some named)) state ≡ option_and_then (behind_call unit call) state
  some_passed call named state is =
      ap (λ (c : Option UnitCall). option_and_then (behind_call unit c) state) (sym is)

  pub some_ready : (call : Option UnitCall) (named : UnitCall) (state : State) → call ≡ Some named
      → CanCallBy unit call state → CanCallBy unit (Some named) state
  some_ready call named state is ready = subst (λ (c : Option UnitCall). CanCallBy unit c state) is ready

-- ---- tests

pub always_left : (test : Test) (state : State) → test ≡ tests.Always → state ≡ option_and_then (behind_test test) state
unfolding behind_test
always_left test None is = refl
always_left test (Some known) is = rw is refl

pub true_popped : (test : Test) (state : State) → test ≡ tests.True → states.pop state ≡ option_and_then (behind_test test) state
unfolding behind_test
true_popped test None is = refl
true_popped test (Some known) is = rw is refl

pub false_popped : (test : Test) (state : State) → test ≡ tests.False → states.pop state ≡ option_and_then (behind_test test) state
unfolding behind_test
false_popped test None is = refl
false_popped test (Some known) is = rw is refl

pub two_popped : (test : Test) (op : CmpOp) (state : State) → test ≡ tests.Cmp op → states.pop (states.pop state) ≡ option_and_then (behind_test test) state
unfolding behind_test
two_popped test op None is = refl
two_popped test op (Some known) is = rw is refl

pub ruleset passing = (condition_is, no_condition, left_is, left_none, assert_passed, assume_passed, callee_passed, callee_ready, other_passed, none_passed, some_passed, some_ready, always_left, true_popped, false_popped, two_popped)
