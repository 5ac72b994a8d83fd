-- What an operation does to what is known of a point, where it ends in no fault (ECMA-335 III.3 and III.4). Where an
-- operand is missing, or has not the form that the operation takes, nothing is reached: the machine does not go on
-- there.
use Rattle.std.specs.Prelude.{ℕ, ◌+◌, ℤ, pos, negsuc, nat_lt, List, length, get_or, slice_get, Option, Some, None, if◌then◌else◌}
use Rattle.std.specs.Option.{option_and_then}
use Rattle.cil_model.specs.Comparisons.{comparison_of}
use Rattle.cil_model.specs.UnitCalls.{array_place, unit_call}
use Rattle.cil_model.specs.declared.instruction.BinOp.{BinOp}
use Rattle.cil_model.specs.declared.instruction.BinOp.TheVariants as operators
use Rattle.cil_model.specs.declared.instruction.CmpOp.{CmpOp}
use Rattle.cil_model.specs.declared.instruction.Op.{Op}
use Rattle.cil_model.specs.declared.instruction.Op.TheVariants as ops
use Rattle.cil_model.specs.declared.instruction.Test.{Test}
use Rattle.cil_model.specs.declared.instruction.Test.TheVariants as tests
use Rattle.cil_model.specs.declared.place.Place.{Place}
use Rattle.cil_model.specs.declared.place.Place.TheVariants as places
use Rattle.cil_model.specs.declared.unit.CalleeInfo.{CalleeInfo}
use Rattle.cil_model.specs.declared.unit.Unit.{Unit as MethodUnit}
use Rattle.cil_model.specs.declared.unit_numbers.UnitCall.{UnitCall}
use Rattle.cil_model.specs.declared.unit_numbers.UnitCall.TheVariants as calls
use Rattle.contract_calls.specs.CallStates.{called, given_back}
use Rattle.domain_api.specs.declared.expr.Expr.{Expr}
use Rattle.frame_names.specs.declared.var.Var.{Var}
use Rattle.frame_names.specs.declared.var.Var.TheVariants as vars
use Rattle.number_spans.specs.Constants.{constant}
use Rattle.obligation_prover.specs.Operations.{from_top}
use Rattle.state_facts.specs.Arithmetic.{with_result}
use Rattle.state_facts.specs.Comparing.{with_comparison}
use Rattle.state_facts.specs.Moves.{popped, pushed, with_array, with_item, with_put, with_stored}
use Rattle.state_facts.specs.StateFacts.{StateFacts, State, length_at}
use Rattle.state_obligations.specs.Assumed.{assumed_by}
use Rattle.state_obligations.specs.declared.condition.Condition.TheVariants as conditions
use Rattle.transfer_rules.specs.Operands.{on_condition, on_one, on_three, on_two, with_one}

-- ---- moves

-- Where an argument stands among the variables: after the arguments at the entry. The locals come next.
abbrev pub arg_place : MethodUnit → ℕ → ℕ
arg_place unit n = length unit.args + n

abbrev pub local_place : MethodUnit → ℕ → ℕ
local_place unit n = length unit.args + length unit.args + n

-- The type of a variable: void where there is none.
abbrev pub type_of : List Place → ℕ → Place
type_of types n = get_or types n places.Void

abbrev pub given : Var → StateFacts → State
given v known = Some (pushed known v)

-- A variable is copied to the top.
unfoldable pub loaded : ℕ → StateFacts → State
loaded i known = with_one given (slice_get known.variables i) known

-- The top goes into a variable of this type.
abbrev pub put_into : ℕ → Place → Var → StateFacts → State
put_into i place v known = if nat_lt i (length known.variables) then with_put i v place known else None

unfoldable pub stored : ℕ → Place → StateFacts → State
stored i place known = on_one (put_into i place) known

unfoldable pub duplicated : StateFacts → State
duplicated known = with_one given (from_top 0 known) known

-- ---- operators

-- Two values are compared. Other operators take two numbers.
abbrev pub calculated : BinOp → Option CmpOp → Var → Var → StateFacts → State
calculated op (Some comparison) v w known = with_comparison op v w known
calculated op None (vars.Number a) (vars.Number b) known = with_result op a b known
calculated op None (vars.Number a) (vars.Reference q) known = None
calculated op None (vars.Number a) vars.Text known = None
calculated op None (vars.Number a) (vars.Address q f) known = None
calculated op None (vars.Reference r) w known = None
calculated op None vars.Text w known = None
calculated op None (vars.Address r e) w known = None

unfoldable pub operated : BinOp → StateFacts → State
operated op known = on_two (calculated op (comparison_of op)) known

-- A number is taken from a constant.
abbrev pub taken_from : ℤ → Var → StateFacts → State
taken_from n (vars.Number e) known = with_result operators.Sub (constant n) e known
taken_from n (vars.Reference r) known = None
taken_from n vars.Text known = None
taken_from n (vars.Address r e) known = None

-- neg is 0 - e, and not is -1 - e.
unfoldable pub negated : StateFacts → State
negated known = on_one (taken_from (pos 0)) known

unfoldable pub complemented : StateFacts → State
complemented known = on_one (taken_from (negsuc 0)) known

-- ---- arrays

abbrev pub with_new : Option Place → Var → StateFacts → State
with_new (Some place) (vars.Number n) known = Some (with_array place n known)
with_new (Some place) (vars.Reference r) known = None
with_new (Some place) vars.Text known = None
with_new (Some place) (vars.Address r e) known = None
with_new None v known = None

abbrev pub with_length : Var → StateFacts → State
with_length (vars.Reference r) known = given (vars.Number (length_at known r)) known
with_length (vars.Number e) known = None
with_length vars.Text known = None
with_length (vars.Address r e) known = None

abbrev pub with_item_of : Var → Var → StateFacts → State
with_item_of (vars.Reference r) (vars.Number i) known = with_item r i known
with_item_of (vars.Reference r) (vars.Reference q) known = None
with_item_of (vars.Reference r) vars.Text known = None
with_item_of (vars.Reference r) (vars.Address q f) known = None
with_item_of (vars.Number e) w known = None
with_item_of vars.Text w known = None
with_item_of (vars.Address r e) w known = None

abbrev pub with_item_put : Var → Var → Var → StateFacts → State
with_item_put (vars.Reference r) (vars.Number i) (vars.Number value) known = with_stored r i value known
with_item_put (vars.Reference r) (vars.Number i) (vars.Reference q) known = None
with_item_put (vars.Reference r) (vars.Number i) vars.Text known = None
with_item_put (vars.Reference r) (vars.Number i) (vars.Address q f) known = None
with_item_put (vars.Reference r) (vars.Reference q) value known = None
with_item_put (vars.Reference r) vars.Text value known = None
with_item_put (vars.Reference r) (vars.Address q f) value known = None
with_item_put (vars.Number e) w value known = None
with_item_put vars.Text w value known = None
with_item_put (vars.Address r e) w value known = None

-- The same of a number that is there.
abbrev pub with_number_put : Expr → Var → Var → StateFacts → State
with_number_put value v w known = with_item_put v w (vars.Number value) known

-- ---- addresses

-- The address of an item of an array is given.
abbrev pub with_address : Var → Var → StateFacts → State
with_address (vars.Reference r) (vars.Number i) known = given (vars.Address r i) known
with_address (vars.Reference r) (vars.Reference q) known = None
with_address (vars.Reference r) vars.Text known = None
with_address (vars.Reference r) (vars.Address q f) known = None
with_address (vars.Number e) w known = None
with_address vars.Text w known = None
with_address (vars.Address r e) w known = None

-- The item at an address.
abbrev pub with_item_at : Var → StateFacts → State
with_item_at (vars.Address r i) known = with_item r i known
with_item_at (vars.Number e) known = None
with_item_at (vars.Reference r) known = None
with_item_at vars.Text known = None

-- A number is stored at an address.
abbrev pub with_put_at : Var → Var → StateFacts → State
with_put_at (vars.Address r i) (vars.Number value) known = with_stored r i value known
with_put_at (vars.Address r i) (vars.Reference q) known = None
with_put_at (vars.Address r i) vars.Text known = None
with_put_at (vars.Address r i) (vars.Address q f) known = None
with_put_at (vars.Number e) value known = None
with_put_at (vars.Reference r) value known = None
with_put_at vars.Text value known = None

-- ---- calls and branches

abbrev pub left : Var → StateFacts → State
left v known = Some known

-- The condition is another number than 0.
abbrev pub with_condition : Var → StateFacts → State
with_condition (vars.Number e) known = assumed_by (conditions.Assert e) known
with_condition (vars.Reference r) known = None
with_condition vars.Text known = None
with_condition (vars.Address r i) known = None

-- Behind a call of a callee its arguments were put, its Requires are true, and it came back as its Ensures allow.
-- Nothing is reached where there is none.
abbrev pub after_callee : Option CalleeInfo → StateFacts → State
after_callee (Some callee) known = called callee (Some known)
after_callee None known = None

-- Behind an Assume its condition is not 0. Behind an Assert that is assumed with its fault. The other calls of
-- contracts are no part of a body.
unfoldable pub behind_call : MethodUnit → Option UnitCall → StateFacts → State
behind_call unit (Some (calls.Assert message)) known = on_condition message left known
behind_call unit (Some (calls.Assume message)) known = on_condition message with_condition known
behind_call unit (Some (calls.Callee number)) known = after_callee (slice_get unit.callees number) known
behind_call unit (Some (calls.Requires message)) known = Some known
behind_call unit (Some (calls.Ensures message)) known = Some known
behind_call unit (Some calls.EndContractBlock) known = Some known
behind_call unit (Some (calls.Result place)) known = Some known
behind_call unit (Some (calls.OldValue place)) known = Some known
behind_call unit None known = Some known

-- A branch takes what it tests.
unfoldable pub behind_test : Test → StateFacts → State
behind_test tests.Always known = Some known
behind_test (tests.Cmp op) known = Some (popped (popped known))
behind_test tests.True known = Some (popped known)
behind_test tests.False known = Some (popped known)

-- ---- the rules

unfoldable pub acted : MethodUnit → Op → StateFacts → State
acted unit (ops.LoadArg n) known = loaded (arg_place unit n) known
acted unit (ops.StoreArg n) known = stored (arg_place unit n) (type_of unit.args n) known
acted unit (ops.LoadLocal n) known = loaded (local_place unit n) known
acted unit (ops.StoreLocal n) known = stored (local_place unit n) (type_of unit.locals n) known
acted unit ops.Null known = given (vars.Reference 0) known
acted unit (ops.Const n) known = given (vars.Number (constant n)) known
acted unit (ops.Text token) known = given vars.Text known
acted unit ops.Dup known = duplicated known
acted unit ops.Pop known = Some (popped known)
acted unit (ops.Call number) known = behind_call unit (unit_call number) known
acted unit ops.Return known = given_back unit (Some known)
acted unit (ops.Branch test target) known = behind_test test known
acted unit (ops.Switch targets) known = Some (popped known)
acted unit (ops.Bin op) known = operated op known
acted unit ops.Neg known = negated known
acted unit ops.Not known = complemented known
acted unit (ops.NewArray number) known = on_one (with_new (array_place number)) known
acted unit ops.Length known = on_one with_length known
acted unit (ops.LoadElem place) known = on_two with_item_of known
acted unit (ops.StoreElem place) known = on_three with_item_put known
acted unit (ops.LoadAddr number) known = on_two with_address known
acted unit (ops.LoadInd place) known = on_one with_item_at known
acted unit (ops.StoreInd place) known = on_two with_put_at known
acted unit ops.Nop known = Some known
acted unit ops.ConvI4 known = Some known

abbrev pub act : MethodUnit → Op → State → State
act unit op state = option_and_then (acted unit op) state
