-- The state that each operation leaves.
use Rattle.std.proofs.Common.{◌≡◌, ℕ, ℤ, Some, None, List, refl, sym}
use Rattle.std.specs.Option.{option_and_then}
use Rattle.cil_model.specs.UnitCalls.{array_place, unit_call}
use Rattle.cil_model.specs.declared.instruction.BinOp.{BinOp}
use Rattle.cil_model.specs.declared.instruction.Op.{Op}
use Rattle.cil_model.specs.declared.instruction.Op.TheVariants as ops
use Rattle.cil_model.specs.declared.instruction.Test.{Test}
use Rattle.cil_model.specs.declared.place.Place.{Place}
use Rattle.cil_model.specs.declared.unit.Unit.{Unit as MethodUnit}
use Rattle.contract_calls.specs.CallStates.{given_back}
use Rattle.contract_calls.proofs.WholeReturns.{none_given}
use Rattle.frame_names.specs.declared.var.Var.{Var}
use Rattle.frame_names.specs.declared.var.Var.TheVariants as vars
use Rattle.number_spans.specs.Constants.{constant}
use Rattle.state_facts.specs.Moves.{popped, pushed}
use Rattle.state_facts.specs.StateFacts.{StateFacts, State}
use Rattle.state_facts.specs.States as states
use Rattle.transfer_rules.specs.Acts.{act, acted, arg_place, behind_call, behind_test, complemented, duplicated, loaded, local_place, negated, operated, stored, type_of, with_address, with_item_at, with_item_of, with_item_put, with_length, with_new, with_put_at}
use Rattle.transfer_rules.specs.Operands.{on_one, on_three, on_two}

-- ---- a state that becomes another

done : (unit : MethodUnit) (op : Op) (f : StateFacts → State) (state : State) → ((known : StateFacts) → acted unit op known ≡ f known)
    → option_and_then f state ≡ act unit op state
done unit op f None is = refl
done unit op f (Some known) is = sym (is known)

pushes : (unit : MethodUnit) (op : Op) (v : Var) (state : State) → ((known : StateFacts) → acted unit op known ≡ Some (pushed known v))
    → states.push v state ≡ act unit op state
pushes unit op v None is = refl
pushes unit op v (Some known) is = sym (is known)

pops : (unit : MethodUnit) (op : Op) (state : State) → ((known : StateFacts) → acted unit op known ≡ Some (popped known)) → states.pop state ≡ act unit op state
pops unit op None is = refl
pops unit op (Some known) is = sym (is known)

left_alone : (unit : MethodUnit) (op : Op) (state : State) → ((known : StateFacts) → acted unit op known ≡ Some known) → state ≡ act unit op state
left_alone unit op None is = refl
left_alone unit op (Some known) is = sym (is known)

-- ---- each operation

pub arg_loaded : (unit : MethodUnit) (n : ℕ) (state : State) → option_and_then (loaded (arg_place unit n)) state ≡ act unit (ops.LoadArg n) state
unfolding acted
arg_loaded unit n state = done unit (ops.LoadArg n) (loaded (arg_place unit n)) state (λ known. refl)

pub local_loaded : (unit : MethodUnit) (n : ℕ) (state : State) → option_and_then (loaded (local_place unit n)) state ≡ act unit (ops.LoadLocal n) state
unfolding acted
local_loaded unit n state = done unit (ops.LoadLocal n) (loaded (local_place unit n)) state (λ known. refl)

pub arg_stored : (unit : MethodUnit) (n : ℕ) (state : State)
    → option_and_then (stored (arg_place unit n) (type_of unit.args n)) state ≡ act unit (ops.StoreArg n) state
unfolding acted
arg_stored unit n state = done unit (ops.StoreArg n) (stored (arg_place unit n) (type_of unit.args n)) state (λ known. refl)

pub local_stored : (unit : MethodUnit) (n : ℕ) (state : State)
    → option_and_then (stored (local_place unit n) (type_of unit.locals n)) state ≡ act unit (ops.StoreLocal n) state
unfolding acted
local_stored unit n state = done unit (ops.StoreLocal n) (stored (local_place unit n) (type_of unit.locals n)) state (λ known. refl)

pub null_pushed : (unit : MethodUnit) (state : State) → states.push (vars.Reference 0) state ≡ act unit ops.Null state
unfolding acted
null_pushed unit state = pushes unit ops.Null (vars.Reference 0) state (λ known. refl)

pub constant_pushed : (unit : MethodUnit) (n : ℤ) (state : State) → states.push (vars.Number (constant n)) state ≡ act unit (ops.Const n) state
unfolding acted
constant_pushed unit n state = pushes unit (ops.Const n) (vars.Number (constant n)) state (λ known. refl)

pub text_pushed : (unit : MethodUnit) (token : ℕ) (state : State) → states.push vars.Text state ≡ act unit (ops.Text token) state
unfolding acted
text_pushed unit token state = pushes unit (ops.Text token) vars.Text state (λ known. refl)

pub doubled : (unit : MethodUnit) (state : State) → option_and_then duplicated state ≡ act unit ops.Dup state
unfolding acted
doubled unit state = done unit ops.Dup duplicated state (λ known. refl)

pub top_popped : (unit : MethodUnit) (state : State) → states.pop state ≡ act unit ops.Pop state
unfolding acted
top_popped unit state = pops unit ops.Pop state (λ known. refl)

pub switched : (unit : MethodUnit) (targets : List ℕ) (state : State) → states.pop state ≡ act unit (ops.Switch targets) state
unfolding acted
switched unit targets state = pops unit (ops.Switch targets) state (λ known. refl)

pub called : (unit : MethodUnit) (number : ℕ) (state : State) → option_and_then (behind_call unit (unit_call number)) state ≡ act unit (ops.Call number) state
unfolding acted
called unit number state = done unit (ops.Call number) (behind_call unit (unit_call number)) state (λ known. refl)

pub put_back : (unit : MethodUnit) (state : State) → given_back unit state ≡ act unit ops.Return state
unfolding acted
put_back unit None = none_given unit
put_back unit (Some known) = refl

pub branched : (unit : MethodUnit) (test : Test) (target : ℕ) (state : State) → option_and_then (behind_test test) state ≡ act unit (ops.Branch test target) state
unfolding acted
branched unit test target state = done unit (ops.Branch test target) (behind_test test) state (λ known. refl)

pub operated_on : (unit : MethodUnit) (op : BinOp) (state : State) → option_and_then (operated op) state ≡ act unit (ops.Bin op) state
unfolding acted
operated_on unit op state = done unit (ops.Bin op) (operated op) state (λ known. refl)

pub turned : (unit : MethodUnit) (state : State) → option_and_then negated state ≡ act unit ops.Neg state
unfolding acted
turned unit state = done unit ops.Neg negated state (λ known. refl)

pub inverted : (unit : MethodUnit) (state : State) → option_and_then complemented state ≡ act unit ops.Not state
unfolding acted
inverted unit state = done unit ops.Not complemented state (λ known. refl)

pub array_made : (unit : MethodUnit) (number : ℕ) (state : State) → option_and_then (on_one (with_new (array_place number))) state ≡ act unit (ops.NewArray number) state
unfolding acted
array_made unit number state = done unit (ops.NewArray number) (on_one (with_new (array_place number))) state (λ known. refl)

pub length_pushed : (unit : MethodUnit) (state : State) → option_and_then (on_one with_length) state ≡ act unit ops.Length state
unfolding acted
length_pushed unit state = done unit ops.Length (on_one with_length) state (λ known. refl)

pub item_loaded : (unit : MethodUnit) (place : Place) (state : State) → option_and_then (on_two with_item_of) state ≡ act unit (ops.LoadElem place) state
unfolding acted
item_loaded unit place state = done unit (ops.LoadElem place) (on_two with_item_of) state (λ known. refl)

pub item_stored : (unit : MethodUnit) (place : Place) (state : State) → option_and_then (on_three with_item_put) state ≡ act unit (ops.StoreElem place) state
unfolding acted
item_stored unit place state = done unit (ops.StoreElem place) (on_three with_item_put) state (λ known. refl)

pub address_pushed : (unit : MethodUnit) (number : ℕ) (state : State)
    → option_and_then (on_two with_address) state ≡ act unit (ops.LoadAddr number) state
unfolding acted
address_pushed unit number state = done unit (ops.LoadAddr number) (on_two with_address) state (λ known. refl)

pub loaded_through : (unit : MethodUnit) (place : Place) (state : State)
    → option_and_then (on_one with_item_at) state ≡ act unit (ops.LoadInd place) state
unfolding acted
loaded_through unit place state = done unit (ops.LoadInd place) (on_one with_item_at) state (λ known. refl)

pub stored_through : (unit : MethodUnit) (place : Place) (state : State)
    → option_and_then (on_two with_put_at) state ≡ act unit (ops.StoreInd place) state
unfolding acted
stored_through unit place state = done unit (ops.StoreInd place) (on_two with_put_at) state (λ known. refl)

pub nothing_done : (unit : MethodUnit) (state : State) → state ≡ act unit ops.Nop state
unfolding acted
nothing_done unit state = left_alone unit ops.Nop state (λ known. refl)

pub converted : (unit : MethodUnit) (state : State) → state ≡ act unit ops.ConvI4 state
unfolding acted
converted unit state = left_alone unit ops.ConvI4 state (λ known. refl)

pub ruleset doing = (arg_loaded, local_loaded, arg_stored, local_stored, null_pushed, constant_pushed, text_pushed, doubled, top_popped, switched, called, put_back, branched, operated_on, turned, inverted, array_made, length_pushed, item_loaded, item_stored, address_pushed, loaded_through, stored_through, nothing_done, converted)
