-- What an instruction's operation does that may end in a fault, over its operands, which lie on top of the stack.
use Rattle.std.specs.Prelude.{ℕ, Bool, true, false, List, [], reverse, slice_get, Option, Some, None}
use Rattle.std.specs.Option.{option_map_or}
use Rattle.cil_model.specs.UnitCalls.{unit_call}
use Rattle.cil_model.specs.declared.instruction.BinOp.{BinOp}
use Rattle.cil_model.specs.declared.instruction.Op.{Op}
use Rattle.cil_model.specs.declared.instruction.Op.TheVariants as ops
use Rattle.cil_model.specs.declared.unit_numbers.UnitCall.{UnitCall}
use Rattle.cil_model.specs.declared.unit_numbers.UnitCall.TheVariants as calls
use Rattle.frame_names.specs.declared.var.Var.{Var}
use Rattle.frame_names.specs.declared.var.Var.TheVariants as vars
use Rattle.state_facts.specs.StateFacts.{StateFacts}
use Rattle.state_obligations.specs.Conditions.{conditions_of}
use Rattle.state_obligations.specs.declared.condition.Condition.{Condition}
use Rattle.state_obligations.specs.declared.condition.Operation.{Operation}
use Rattle.state_obligations.specs.declared.condition.Operation.TheVariants as operations

-- What the variable has on which so many others lie.
abbrev pub from_top : ℕ → StateFacts → Option Var
from_top above known = slice_get (reverse known.variables) above

-- ---- operands of the forms that an operation takes

abbrev pub length_of : Option Var → Option Operation
length_of (Some (vars.Reference r)) = Some (operations.Length r)
length_of (Some (vars.Number e)) = None
length_of (Some vars.Text) = None
length_of (Some (vars.Address r e)) = None
length_of None = None

abbrev pub element_of : Option Var → Option Var → Option Operation
element_of (Some (vars.Reference r)) (Some (vars.Number i)) = Some (operations.Element r i)
element_of (Some (vars.Reference r)) (Some (vars.Reference q)) = None
element_of (Some (vars.Reference r)) (Some vars.Text) = None
element_of (Some (vars.Reference r)) (Some (vars.Address q i)) = None
element_of (Some (vars.Reference r)) None = None
element_of (Some (vars.Number e)) index = None
element_of (Some vars.Text) index = None
element_of (Some (vars.Address r e)) index = None
element_of None index = None

abbrev pub array_of : Option Var → Option Operation
array_of (Some (vars.Number n)) = Some (operations.NewArray n)
array_of (Some (vars.Reference r)) = None
array_of (Some vars.Text) = None
array_of (Some (vars.Address r e)) = None
array_of None = None

abbrev pub binary_of : BinOp → Option Var → Option Var → Option Operation
binary_of op (Some (vars.Number a)) (Some (vars.Number b)) = Some (operations.Binary op a b)
binary_of op (Some (vars.Number a)) (Some (vars.Reference q)) = None
binary_of op (Some (vars.Number a)) (Some vars.Text) = None
binary_of op (Some (vars.Number a)) (Some (vars.Address q e)) = None
binary_of op (Some (vars.Number a)) None = None
binary_of op (Some (vars.Reference r)) second = None
binary_of op (Some vars.Text) second = None
binary_of op (Some (vars.Address r e)) second = None
binary_of op None second = None

abbrev pub assertion_of : Option Var → Option Operation
assertion_of (Some (vars.Number e)) = Some (operations.Assert e)
assertion_of (Some (vars.Reference r)) = None
assertion_of (Some vars.Text) = None
assertion_of (Some (vars.Address r e)) = None
assertion_of None = None

-- The item of an address.
abbrev pub item_of : Option Var → Option Operation
item_of (Some (vars.Address r e)) = Some (operations.Element r e)
item_of (Some (vars.Number e)) = None
item_of (Some (vars.Reference r)) = None
item_of (Some vars.Text) = None
item_of None = None

-- The condition of an Assert or an Assume lies on top of the stack, or below its message: how many values lie on it.
abbrev pub condition_depth : Bool → ℕ
condition_depth false = 0
condition_depth true = 1

abbrev pub call_operation : Option UnitCall → StateFacts → Option Operation
call_operation (Some (calls.Assert message)) known = assertion_of (from_top (condition_depth message) known)
call_operation (Some (calls.Requires message)) known = None
call_operation (Some (calls.Ensures message)) known = None
call_operation (Some (calls.Assume message)) known = None
call_operation (Some calls.EndContractBlock) known = None
call_operation (Some (calls.Result place)) known = None
call_operation (Some (calls.OldValue place)) known = None
call_operation (Some (calls.Callee number)) known = None
call_operation None known = None

-- ---- operations

-- None where it is one that ends in no fault, and where its operands are not there. References are compared without a
-- fault.
unfoldable pub operation_of : Op → StateFacts → Option Operation
operation_of ops.Length known = length_of (from_top 0 known)
operation_of (ops.LoadElem place) known = element_of (from_top 1 known) (from_top 0 known)
operation_of (ops.StoreElem place) known = element_of (from_top 2 known) (from_top 1 known)
operation_of (ops.LoadAddr number) known = element_of (from_top 1 known) (from_top 0 known)
operation_of (ops.NewArray number) known = array_of (from_top 0 known)
operation_of (ops.Bin op) known = binary_of op (from_top 1 known) (from_top 0 known)
operation_of (ops.Call number) known = call_operation (unit_call number) known
operation_of ops.Nop known = None
operation_of (ops.LoadArg n) known = None
operation_of (ops.StoreArg n) known = None
operation_of (ops.LoadLocal n) known = None
operation_of (ops.StoreLocal n) known = None
operation_of ops.Null known = None
operation_of (ops.Const n) known = None
operation_of ops.Dup known = None
operation_of ops.Pop known = None
operation_of ops.Return known = None
operation_of (ops.Branch test target) known = None
operation_of (ops.Switch targets) known = None
operation_of ops.Neg known = None
operation_of ops.Not known = None
operation_of ops.ConvI4 known = None
operation_of (ops.Text token) known = None
operation_of (ops.LoadInd place) known = None
operation_of (ops.StoreInd place) known = None

-- ---- what is judged, and what is assumed

-- The conditions that an instruction is judged by, in the order in which the machine tests them: its own obligations.
abbrev pub conditions_at : Op → StateFacts → List Condition
conditions_at op known = option_map_or conditions_of (operation_of op known) []

-- What is assumed to have ended in no fault once an instruction went on: what it is judged by. A load and a store
-- through an address end in no fault, so they are judged by nothing. That its item is there is assumed after them.
abbrev pub assumed_operation : Op → StateFacts → Option Operation
assumed_operation (ops.LoadInd place) known = item_of (from_top 0 known)
assumed_operation (ops.StoreInd place) known = item_of (from_top 1 known)
assumed_operation (ops.LoadAddr number) known = operation_of (ops.LoadAddr number) known
assumed_operation ops.Length known = operation_of ops.Length known
assumed_operation (ops.LoadElem place) known = operation_of (ops.LoadElem place) known
assumed_operation (ops.StoreElem place) known = operation_of (ops.StoreElem place) known
assumed_operation (ops.NewArray number) known = operation_of (ops.NewArray number) known
assumed_operation (ops.Bin op) known = operation_of (ops.Bin op) known
assumed_operation (ops.Call number) known = operation_of (ops.Call number) known
assumed_operation ops.Nop known = operation_of ops.Nop known
assumed_operation (ops.LoadArg n) known = operation_of (ops.LoadArg n) known
assumed_operation (ops.StoreArg n) known = operation_of (ops.StoreArg n) known
assumed_operation (ops.LoadLocal n) known = operation_of (ops.LoadLocal n) known
assumed_operation (ops.StoreLocal n) known = operation_of (ops.StoreLocal n) known
assumed_operation ops.Null known = operation_of ops.Null known
assumed_operation (ops.Const n) known = operation_of (ops.Const n) known
assumed_operation ops.Dup known = operation_of ops.Dup known
assumed_operation ops.Pop known = operation_of ops.Pop known
assumed_operation ops.Return known = operation_of ops.Return known
assumed_operation (ops.Branch test target) known = operation_of (ops.Branch test target) known
assumed_operation (ops.Switch targets) known = operation_of (ops.Switch targets) known
assumed_operation ops.Neg known = operation_of ops.Neg known
assumed_operation ops.Not known = operation_of ops.Not known
assumed_operation ops.ConvI4 known = operation_of ops.ConvI4 known
assumed_operation (ops.Text token) known = operation_of (ops.Text token) known

-- The conditions that a state after the instruction assumes.
abbrev pub conditions_after : Op → StateFacts → List Condition
conditions_after op known = option_map_or conditions_of (assumed_operation op known) []
