-- What is read of a state's stack is what the rules speak of.
use Rattle.std.proofs.Common.{◌≡◌, ℕ, Option, Some, None, [], refl, sym, ap, subst, ◌∙◌, slice_get}
use Rattle.std.specs.Prelude.{Result, Ok, Err, IfOk, IfSome, reverse}
use Rattle.std.specs.Option.{ForSome, option_and_then, option_map_or}
use Rattle.cil_model.specs.UnitCalls.{unit_call}
use Rattle.cil_model.specs.declared.instruction.BinOp.{BinOp}
use Rattle.cil_model.specs.declared.instruction.Op.{Op}
use Rattle.cil_model.specs.declared.instruction.Op.TheVariants as ops
use Rattle.cil_model.specs.declared.machine.FaultKind.{FaultKind}
use Rattle.cil_model.specs.declared.place.Place.{Place}
use Rattle.cil_model.specs.declared.unit.Unit.{Unit as MethodUnit}
use Rattle.frame_names.specs.declared.var.Var.{Var}
use Rattle.state_facts.specs.Forms.{HasForm}
use Rattle.state_facts.specs.StateFacts.{StateFacts, State, variables_in}
use Rattle.state_obligations.specs.Conditions.{AreThere, IsThere, conditions_of}
use Rattle.state_obligations.specs.declared.condition.Condition.{Condition}
use Rattle.state_obligations.specs.declared.condition.Operation.{Operation}
use Rattle.obligation_prover.specs.Entailed.{condition_of}
use Rattle.obligation_prover.specs.Meaning.{AssumesNoFault}
use Rattle.obligation_prover.specs.Operations.{array_of, assumed_operation, binary_of, call_operation, conditions_at, element_of, item_of, length_of, operation_of}
use Rattle.obligation_prover.proofs.Operands.{conditions_there}
use Rattle.obligation_prover.proofs.RuledOut.{found_is}

-- ---- operations

abbrev pub top_in : State → ℕ → Option Var
top_in state above = slice_get (reverse (variables_in state)) above

pub length_read : (op : Op) (state : State) → op ≡ ops.Length → length_of (top_in state 0) ≡ option_and_then (operation_of op) state
unfolding operation_of
length_read op None is = refl
length_read op (Some known) is = rw is refl

pub load_read : (op : Op) (place : Place) (state : State) → op ≡ ops.LoadElem place
    → element_of (top_in state 1) (top_in state 0) ≡ option_and_then (operation_of op) state
unfolding operation_of
load_read op place None is = refl
load_read op place (Some known) is = rw is refl

pub store_read : (op : Op) (place : Place) (state : State) → op ≡ ops.StoreElem place
    → element_of (top_in state 2) (top_in state 1) ≡ option_and_then (operation_of op) state
unfolding operation_of
store_read op place None is = refl
store_read op place (Some known) is = rw is refl

pub address_read : (op : Op) (number : ℕ) (state : State) → op ≡ ops.LoadAddr number
    → element_of (top_in state 1) (top_in state 0) ≡ option_and_then (operation_of op) state
unfolding operation_of
address_read op number None is = refl
address_read op number (Some known) is = rw is refl

pub array_read : (op : Op) (number : ℕ) (state : State) → op ≡ ops.NewArray number → array_of (top_in state 0) ≡ option_and_then (operation_of op) state
unfolding operation_of
array_read op number None is = refl
array_read op number (Some known) is = rw is refl

pub binary_read : (op : Op) (operator : BinOp) (state : State) → op ≡ ops.Bin operator
    → binary_of operator (top_in state 1) (top_in state 0) ≡ option_and_then (operation_of op) state
unfolding operation_of
binary_read op operator None is = refl
binary_read op operator (Some known) is = rw is refl

pub call_read : (op : Op) (number : ℕ) (state : State) → op ≡ ops.Call number
    → option_and_then (call_operation (unit_call number)) state ≡ option_and_then (operation_of op) state
unfolding operation_of
call_read op number None is = refl
call_read op number (Some known) is = rw is refl

-- Of two values that are read.
pub both_read : {X : Type 0} (f : Option Var → Option Var → X) (made : X) (v w x y : Option Var) → made ≡ f v w → v ≡ x → w ≡ y → made ≡ f x y
both_read f made v w x y is first second = is ∙ ap (λ (a : Option Var). f a w) first ∙ ap (λ (b : Option Var). f x b) second

-- Other operations end in no fault.
pub other_read : (op : Op) (state : State) → ((known : StateFacts) → operation_of op known ≡ None)
    → None ≡ option_and_then (operation_of op) state
other_read op None none = refl
other_read op (Some known) none = sym (none known)

-- ---- what is assumed

pub load_through_read : (op : Op) (place : Place) (state : State) → op ≡ ops.LoadInd place
    → item_of (top_in state 0) ≡ option_and_then (assumed_operation op) state
load_through_read op place None is = refl
load_through_read op place (Some known) is = rw is refl

pub store_through_read : (op : Op) (place : Place) (state : State) → op ≡ ops.StoreInd place
    → item_of (top_in state 1) ≡ option_and_then (assumed_operation op) state
store_through_read op place None is = refl
store_through_read op place (Some known) is = rw is refl

-- Of other operations that is what they are judged by.
pub judged_read : (op : Op) (state : State) (found : Option Operation) → found ≡ option_and_then (operation_of op) state
    → ((known : StateFacts) → assumed_operation op known ≡ operation_of op known)
    → found ≡ option_and_then (assumed_operation op) state
judged_read op None found is same = is
judged_read op (Some known) found is same = is ∙ sym (same known)

-- ---- conditions

operations_there : (known : StateFacts) (o : Option Operation) → AreThere known (option_map_or conditions_of o [])
    → IfSome o (λ operation. AreThere known (conditions_of operation))
operations_there known None there = tt
operations_there known (Some o) there = there

for_one : (known : StateFacts) (o : Option Operation) → IfSome o (λ operation. AreThere known (conditions_of operation))
    → IfSome o (λ operation. ForSome (Some known) (λ known. AreThere known (conditions_of operation)))
for_one known None there = tt
for_one known (Some o) there = λ x is. subst (λ (k : StateFacts). AreThere k (conditions_of o)) (same known x is) there
  where
    same : (a b : StateFacts) → Some a ≡ Some b → a ≡ b
    same a b e = cc

-- What the conditions of an operation name that is found is there.
pub operation_there : (find : StateFacts → Option Operation) (state : State) (o : Option Operation)
    → ForSome state HasForm
    → ((known : StateFacts) → HasForm known → AreThere known (option_map_or conditions_of (find known) []))
    → o ≡ option_and_then find state
    → IfSome o (λ operation. ForSome state (λ known. AreThere known (conditions_of operation)))
operation_there find None None form there is = tt
operation_there find None (Some o) form there is = absurd cc
operation_there find (Some known) o form there is =
    for_one known o (subst (λ (x : Option Operation). IfSome x (λ operation. AreThere known (conditions_of operation))) (sym is)
    (operations_there known (find known) (there known (form known refl))))

pub condition_there : (kind : FaultKind) (op : Op) (unit : MethodUnit) (state : State) (c : Option Condition) → ForSome state HasForm
    → c ≡ option_and_then (condition_of unit op kind) state → IfSome c (λ condition. ForSome state (λ known. IsThere known condition))
condition_there kind op unit None None form is = tt
condition_there kind op unit None (Some c) form is = absurd cc
condition_there kind op unit (Some known) None form is = tt
condition_there kind op unit (Some known) (Some c) form is = λ x same.
    subst (λ (k : StateFacts). IsThere k c) (the_same known x same)
    (found_is (IsThere known) kind (conditions_at op known) c (conditions_there op known (form known refl)) (sym is))
  where
    the_same : (a b : StateFacts) → Some a ≡ Some b → a ≡ b
    the_same a b e = cc

-- ---- what is made of them

pub avoided_where_ok : {E : Type 0} (result : Result State E) (unit : MethodUnit) (op : Op) (old made : State) → IfOk result (λ new. new ≡ made)
    → AssumesNoFault unit op old made → IfOk result (λ new. AssumesNoFault unit op old new)
avoided_where_ok (Ok new) unit op old made is sound = subst (AssumesNoFault unit op old) (sym is) sound
avoided_where_ok (Err e) unit op old made is sound = is
