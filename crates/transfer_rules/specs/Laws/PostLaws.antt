-- The states after an instruction hold where it leads.
use Rattle.std.proofs.Common.{◌≡◌, ℕ, [], slice_get, Option, Some, None, refl, sym, ap, subst, ◌∙◌}
use Rattle.std.specs.Option.{ForSome, option_and_then, option_map_or}
use Rattle.std.proofs.lemmas.Option.{none-some, same_Some}
use Rattle.cil_model.specs.Calls.{FreeCall}
use Rattle.cil_model.specs.Effects.{GoesOn, HasEffect, effects}
use Rattle.cil_model.specs.Runs.{CallsBy, Row}
use Rattle.cil_model.specs.UnitCalls.{unit_call}
use Rattle.cil_model.specs.WellFormed.{called_by}
use Rattle.cil_model.specs.declared.instruction.Instr.{Instr}
use Rattle.cil_model.specs.declared.instruction.Op.{Op}
use Rattle.cil_model.specs.declared.instruction.Op.TheVariants as ops
use Rattle.cil_model.specs.declared.unit.Unit.{Unit as MethodUnit}
use Rattle.cil_model.specs.declared.unit_numbers.UnitCall.{UnitCall}
use Rattle.cil_model.specs.declared.unit_numbers.UnitCall.TheVariants as calls
use Rattle.flow_graph.proofs.StepsGo.{row_found}
use Rattle.machine_points.specs.MachineValues.{HasMachineValues}
use Rattle.machine_points.specs.Points.{IsPointOf, lives_at}
use Rattle.machine_points.specs.declared.point.Point.{Point}
use Rattle.obligation_prover.specs.Avoiding.{avoid_all}
use Rattle.obligation_prover.specs.Operations.{call_operation, conditions_after, operation_of}
use Rattle.obligation_prover.proofs.Operands.{assumed_there}
use Rattle.obligation_prover.proofs.RuledOut.{all_avoided}
use Rattle.state_facts.specs.Forms.{HasForm}
use Rattle.state_facts.specs.Holds.{HoldsAt}
use Rattle.state_facts.specs.StateFacts.{StateFacts, State}
use Rattle.state_obligations.proofs.JudgedLaws.{judged_follow}
use Rattle.state_obligations.specs.Conditions.{conditions_of}
use Rattle.state_obligations.specs.Following.{StaysThereIn}
use Rattle.state_obligations.specs.Judged.{judged}
use Rattle.transfer_rules.specs.Acts.{acted, after_callee, behind_call}
use Rattle.transfer_rules.specs.Choices.{chosen}
use Rattle.transfer_rules.specs.Owed.{CanCallBy, CanDo}
use Rattle.transfer_rules.specs.Post.{along, post}
use Rattle.transfer_rules.specs.Steps.{HoldsAlong, HoldsBehind}
use Rattle.transfer_rules.specs.Laws.Acting.{act_keeps}
use Rattle.transfer_rules.specs.Laws.Calling.{call_there, callee_is}
use Rattle.transfer_rules.specs.Laws.Choosing.{choose_keeps, chosen_stays}
use Rattle.unit_flow.proofs.StepRows.{effect_of}
use Rattle.unit_flow.specs.Flow.{Steps}
use Rattle.unit_flow.specs.Ways.{IsShortSwitch, way_of}

-- ---- what stays

-- Where an instruction did not end in a fault, what was there is there still.
pub avoided_stays : (op : Op) (known : StateFacts) → HasForm known → StaysThereIn known (avoid_all op (Some known))
avoided_stays op known form = judged_follow (conditions_after op known) known form (assumed_there op known form)

stays_formed : (known : StateFacts) (o : State) → StaysThereIn known o → ForSome o HasForm
stays_formed known None stays = λ x is. absurd (none-some x is)
stays_formed known (Some after) stays = λ x is. subst HasForm (same_Some after x is) stays.form

pub avoided_formed : (op : Op) (state : State) → ForSome state HasForm → ForSome (avoid_all op state) HasForm
avoided_formed op None form = λ x is. absurd (none-some x is)
avoided_formed op (Some known) form =
    stays_formed known (avoid_all op (Some known)) (avoided_stays op known (form known refl))

pub chosen_formed : (op : Op) (way : ℕ) (state : State) → ForSome state HasForm
    → ForSome (option_and_then (chosen op way) state) HasForm
chosen_formed op way None form = λ x is. absurd (none-some x is)
chosen_formed op way (Some known) form =
    stays_formed known (chosen op way known) (chosen_stays op way known (form known refl))

-- ---- one instruction

module _ (unit : MethodUnit) (i : Instr) (p q : Point) (of : IsPointOf unit p)
    (goes : HasEffect (effects unit i p.frame p.heap) (GoesOn q.frame q.heap))
    (values : HasMachineValues q) where
  avoided_there : (state : State) → ForSome state HasForm → HoldsAt state p → HoldsAt (avoid_all i.op state) p
  avoided_there state form at =
      all_avoided unit i.op state form i p (GoesOn q.frame q.heap) refl at goes (λ kind same. absurd cc)

  chosen_there : (state : State) → ForSome state HasForm → IsShortSwitch i.op → HoldsAt state p
      → HoldsAt (option_and_then (chosen i.op (way_of i.op p.frame.stack)) state) p
  chosen_there None form short at = absurd at.frame.holds
  chosen_there (Some known) form short at = record {
    machine = at.machine;
    frame = record {
      number = at.frame.number;
      array = at.frame.array;
      holds = choose_keeps unit i p q known at.frame.number at.frame.array (form known refl) short of at.frame.holds
          goes;
    };
  }

  acted_there : (state : State) → ForSome state HasForm → HoldsAt state p
      → HoldsAt (option_and_then (acted unit i.op) state) q
  acted_there None form at = absurd at.frame.holds
  acted_there (Some known) form at =
      let on = act_keeps unit i p q known at.frame.number at.frame.array (form known refl) of at.frame.holds goes in
      record { machine = values; frame = record { number = on.later; array = on.later_array; holds = on.holds } }

  post_there : (state : State) → ForSome state HasForm → HoldsAt state p → HoldsAt (post unit i.op state) q
  unfolding post
  post_there state form at =
      acted_there (avoid_all i.op state) (avoided_formed i.op state form) (avoided_there state form at)

  along_there : (state : State) → ForSome state HasForm → IsShortSwitch i.op → HoldsAt state p
      → HoldsAt (along unit i.op (way_of i.op p.frame.stack) state) q
  unfolding along
  along_there state form short at =
      let way = way_of i.op p.frame.stack in
      let avoided = avoid_all i.op state in
      let formed = avoided_formed i.op state form in
      acted_there (option_and_then (chosen i.op way) avoided) (chosen_formed i.op way avoided formed)
      (chosen_there avoided formed short (avoided_there state form at))

-- ---- a call of a method

-- It ends in no fault that is assumed away before its rule.
pub call_avoided : (number call : ℕ) (state : State) → unit_call call ≡ Some (calls.Callee number)
    → avoid_all (ops.Call call) state ≡ state
unfolding operation_of
call_avoided number call None is = refl
call_avoided number call (Some known) is =
    subst
    (λ (c : Option UnitCall). (judged (option_map_or conditions_of (call_operation c known) []) (Some known)).state ≡
    Some known) (sym is) refl

named_acts : (unit : MethodUnit) (number call : ℕ) (state : State) → unit_call call ≡ Some (calls.Callee number)
    → option_and_then (acted unit (ops.Call call)) state
    ≡ option_and_then (after_callee (slice_get unit.callees number)) state
unfolding acted behind_call
named_acts unit number call None is = refl
named_acts unit number call (Some known) is = ap (λ (c : Option UnitCall). behind_call unit c known) is

named_post : (unit : MethodUnit) (number call : ℕ) (state : State) → unit_call call ≡ Some (calls.Callee number)
    → post unit (ops.Call call) state ≡ option_and_then (after_callee (slice_get unit.callees number)) state
unfolding post
named_post unit number call state is =
    ap (option_and_then (acted unit (ops.Call call))) (call_avoided number call state is)
    ∙ named_acts unit number call state is

-- It has one way.
one_way : (call way : ℕ) (state : State) → option_and_then (chosen (ops.Call call) way) state ≡ state
unfolding chosen
one_way call way None = refl
one_way call way (Some known) = refl

named_along : (unit : MethodUnit) (number call way : ℕ) (state : State) → unit_call call ≡ Some (calls.Callee number)
    → along unit (ops.Call call) way state ≡ option_and_then (after_callee (slice_get unit.callees number)) state
unfolding along
named_along unit number call way state is =
    ap (λ (s : State). option_and_then (acted unit (ops.Call call)) (option_and_then (chosen (ops.Call call) way) s))
    (call_avoided number call state is)
    ∙ ap (option_and_then (acted unit (ops.Call call))) (one_way call way state) ∙ named_acts unit number call state is

module _ (unit : MethodUnit) (i : Instr) (p q : Point) (state : State) (number : ℕ) where
  called_there : (call : ℕ) → unit_call call ≡ Some (calls.Callee number) → CanCallBy unit (unit_call call) state
      → CallsBy (FreeCall unit) (unit_call call) [] unit i p.frame p.heap (lives_at q) → HoldsAt state p
      → HoldsAt (option_and_then (after_callee (slice_get unit.callees number)) state) q
  called_there call is ready row at =
      call_there unit number i p q state (subst (λ (c : Option UnitCall). CanCallBy unit c state) is ready)
      (subst (λ (c : Option UnitCall). CallsBy (FreeCall unit) c [] unit i p.frame p.heap (lives_at q)) is row) at

  post_called : (op : Op) → called_by op ≡ Some number → Row (FreeCall unit) op [] unit i p.frame p.heap (lives_at q)
      → CanDo unit op state → HoldsAt state p → HoldsAt (post unit op state) q
  post_called (ops.Call call) is row ready at =
      let named = callee_is (unit_call call) number is in
      subst (λ (s : State). HoldsAt s q) (sym (named_post unit number call state named))
      (called_there call named ready row at)
  post_called _ is row ready at = absurd (none-some number is)

  along_called : (op : Op) (way : ℕ) → called_by op ≡ Some number
      → Row (FreeCall unit) op [] unit i p.frame p.heap (lives_at q) → CanDo unit op state → HoldsAt state p
      → HoldsAt (along unit op way state) q
  along_called (ops.Call call) way is row ready at =
      let named = callee_is (unit_call call) number is in
      subst (λ (s : State). HoldsAt s q) (sym (named_along unit number call way state named))
      (called_there call named ready row at)
  along_called _ way is row ready at = absurd (none-some number is)

-- ---- one step

module _ (unit : MethodUnit) (i : Instr) (p q : Point) (step : Steps unit i p q) (values : HasMachineValues q)
    (state : State) (form : ForSome state HasForm) (ready : CanDo unit i.op state) (at : HoldsAt state p) where
  row : Row (FreeCall unit) i.op [] unit i p.frame p.heap (lives_at q)
  row = row_found unit i p.frame p.heap (lives_at q) step.to step.goes

  post_step : HoldsAt (post unit i.op state) q
  post_step = by (called_by i.op) refl
    where
      by : (o : Option ℕ) → called_by i.op ≡ o → HoldsAt (post unit i.op state) q
      by None is = post_there unit i p q step.of (effect_of unit i p q is step) values state form at
      by (Some number) is = post_called unit i p q state number i.op is row ready at

  along_step : IsShortSwitch i.op → HoldsAt (along unit i.op (way_of i.op p.frame.stack) state) q
  along_step short = by (called_by i.op) refl
    where
      by : (o : Option ℕ) → called_by i.op ≡ o → HoldsAt (along unit i.op (way_of i.op p.frame.stack) state) q
      by None is = along_there unit i p q step.of (effect_of unit i p q is step) values state form short at
      by (Some number) is =
          along_called unit i p q state number i.op (way_of i.op p.frame.stack) is row ready at

-- The state after an instruction holds of the points to which it leads.
pub post_holds : (unit : MethodUnit) (op : Op) (state : State) → ForSome state HasForm → CanDo unit op state
    → HoldsBehind unit op state (post unit op state)
post_holds unit op state form ready = λ p q goes.
    subst (λ (o : Op). HoldsAt (post unit o state) q) goes.does
    (post_step unit goes.instr p q goes.steps goes.values state form
    (subst (λ (o : Op). CanDo unit o state) (sym goes.does) ready) goes.holds)

-- So along the way that the machine takes.
pub along_holds : (unit : MethodUnit) (op : Op) (way : ℕ) (state : State) → IsShortSwitch op → ForSome state HasForm
    → CanDo unit op state → HoldsAlong unit op way state (along unit op way state)
along_holds unit op way state short form ready = λ p q goes taken.
    subst (λ (n : ℕ). HoldsAt (along unit op n state) q) taken
    (subst (λ (o : Op). HoldsAt (along unit o (way_of o p.frame.stack) state) q) goes.does
    (along_step unit goes.instr p q goes.steps goes.values state form
    (subst (λ (o : Op). CanDo unit o state) (sym goes.does) ready) goes.holds
    (subst IsShortSwitch (sym goes.does) short)))
