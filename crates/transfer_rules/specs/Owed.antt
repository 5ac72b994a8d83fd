-- What the rules ask of the state before an instruction: what an operator's second operand has to be, and the array of
-- an address, where the faults were assumed away, and what lies on the stack before a call and before a return.
use Rattle.std.specs.Prelude.{ℕ, ◌≤◌, Option, Some, None, slice_get}
use Rattle.cil_model.specs.declared.instruction.BinOp.{BinOp}
use Rattle.cil_model.specs.declared.instruction.Op.{Op}
use Rattle.cil_model.specs.declared.instruction.Op.TheVariants as ops
use Rattle.cil_model.specs.UnitCalls.{unit_call}
use Rattle.cil_model.specs.WellFormed.{IsCallee, IsWellFormed}
use Rattle.cil_model.specs.declared.unit.CalleeInfo.{CalleeInfo}
use Rattle.cil_model.specs.declared.unit.Unit.{Unit as MethodUnit}
use Rattle.cil_model.specs.declared.unit_numbers.UnitCall.{UnitCall}
use Rattle.cil_model.specs.declared.unit_numbers.UnitCall.TheVariants as calls
use Rattle.contract_calls.specs.CallForms.{CanCall, CanReturn}
use Rattle.frame_names.specs.declared.var.Var.{Var}
use Rattle.frame_names.specs.declared.var.Var.TheVariants as vars
use Rattle.number_spans.specs.Owed.{Divides, Shifts}
use Rattle.obligation_prover.specs.Operations.{from_top}
use Rattle.state_facts.specs.StateFacts.{StateFacts, State}

-- A constant that divides is not 0, and a constant to shift by is an amount.
abbrev pub IsReadyFor : BinOp → Var → Type 0
IsReadyFor op (vars.Number e) = Divides op e × Shifts op e
IsReadyFor op (vars.Reference r) = Unit {0}
IsReadyFor op vars.Text = Unit {0}
IsReadyFor op (vars.Address r i) = Unit {0}

-- Nothing is asked of a second operand where the first is no number.
abbrev pub AreReadyFor : BinOp → Option Var → Option Var → Type 0
AreReadyFor op (Some (vars.Number e)) (Some w) = IsReadyFor op w
AreReadyFor op (Some (vars.Number e)) None = Unit {0}
AreReadyFor op (Some (vars.Reference r)) w = Unit {0}
AreReadyFor op (Some vars.Text) w = Unit {0}
AreReadyFor op (Some (vars.Address r i)) w = Unit {0}
AreReadyFor op None w = Unit {0}

-- A reference is another one than 0, where what lies on it is an index.
abbrev pub IsArrayAt : ℕ → Option Var → Type 0
IsArrayAt r (Some (vars.Number i)) = 1 ≤ r
IsArrayAt r (Some (vars.Reference q)) = Unit {0}
IsArrayAt r (Some vars.Text) = Unit {0}
IsArrayAt r (Some (vars.Address q f)) = Unit {0}
IsArrayAt r None = Unit {0}

abbrev pub HasItems : Option Var → Option Var → Type 0
HasItems (Some (vars.Reference r)) w = IsArrayAt r w
HasItems (Some (vars.Number e)) w = Unit {0}
HasItems (Some vars.Text) w = Unit {0}
HasItems (Some (vars.Address r i)) w = Unit {0}
HasItems None w = Unit {0}

abbrev pub IsReady : Op → StateFacts → Type 0
IsReady (ops.Bin op) known = AreReadyFor op (from_top 1 known) (from_top 0 known)
IsReady (ops.LoadAddr number) known = HasItems (from_top 1 known) (from_top 0 known)
IsReady ops.Nop known = Unit {0}
IsReady (ops.LoadArg n) known = Unit {0}
IsReady (ops.StoreArg n) known = Unit {0}
IsReady (ops.LoadLocal n) known = Unit {0}
IsReady (ops.StoreLocal n) known = Unit {0}
IsReady ops.Null known = Unit {0}
IsReady (ops.Const n) known = Unit {0}
IsReady ops.Dup known = Unit {0}
IsReady ops.Pop known = Unit {0}
IsReady (ops.Call number) known = Unit {0}
IsReady ops.Return known = Unit {0}
IsReady (ops.Branch test target) known = Unit {0}
IsReady (ops.Switch targets) known = Unit {0}
IsReady ops.Neg known = Unit {0}
IsReady ops.Not known = Unit {0}
IsReady ops.ConvI4 known = Unit {0}
IsReady (ops.Text token) known = Unit {0}
IsReady (ops.NewArray number) known = Unit {0}
IsReady ops.Length known = Unit {0}
IsReady (ops.LoadElem place) known = Unit {0}
IsReady (ops.StoreElem place) known = Unit {0}
IsReady (ops.LoadInd place) known = Unit {0}
IsReady (ops.StoreInd place) known = Unit {0}

-- The callee is as well formed units have them, and may be called in the state. Nothing is asked where there is none.
abbrev pub CanCallIt : Option CalleeInfo → State → Type 0
CanCallIt None state = Unit {0}
CanCallIt (Some callee) state = IsCallee callee × CanCall callee state

abbrev pub CanCallBy : MethodUnit → Option UnitCall → State → Type 0
CanCallBy unit (Some (calls.Callee number)) state = CanCallIt (slice_get unit.callees number) state
CanCallBy unit (Some (calls.Requires message)) state = Unit {0}
CanCallBy unit (Some (calls.Ensures message)) state = Unit {0}
CanCallBy unit (Some (calls.Assert message)) state = Unit {0}
CanCallBy unit (Some (calls.Assume message)) state = Unit {0}
CanCallBy unit (Some calls.EndContractBlock) state = Unit {0}
CanCallBy unit (Some (calls.Result place)) state = Unit {0}
CanCallBy unit (Some (calls.OldValue place)) state = Unit {0}
CanCallBy unit None state = Unit {0}

-- The unit is well formed, and may return in the state.
abbrev pub CanGiveBack : MethodUnit → State → Type 0
CanGiveBack unit state = IsWellFormed unit × CanReturn unit state

-- Where the operation calls a method, its arguments lie on top of the stack, and are of the kinds of its parameters.
-- Where it returns, the arguments at the entry are of their kinds, and the result lies on top and is of its kind.
abbrev pub CanDo : MethodUnit → Op → State → Type 0
CanDo unit (ops.Call number) state = CanCallBy unit (unit_call number) state
CanDo unit ops.Return state = CanGiveBack unit state
CanDo unit ops.Nop state = Unit {0}
CanDo unit (ops.LoadArg n) state = Unit {0}
CanDo unit (ops.StoreArg n) state = Unit {0}
CanDo unit (ops.LoadLocal n) state = Unit {0}
CanDo unit (ops.StoreLocal n) state = Unit {0}
CanDo unit ops.Null state = Unit {0}
CanDo unit (ops.Const n) state = Unit {0}
CanDo unit ops.Dup state = Unit {0}
CanDo unit ops.Pop state = Unit {0}
CanDo unit (ops.Branch test target) state = Unit {0}
CanDo unit (ops.Switch targets) state = Unit {0}
CanDo unit (ops.Bin operator) state = Unit {0}
CanDo unit ops.Neg state = Unit {0}
CanDo unit ops.Not state = Unit {0}
CanDo unit ops.ConvI4 state = Unit {0}
CanDo unit (ops.Text token) state = Unit {0}
CanDo unit (ops.NewArray number) state = Unit {0}
CanDo unit ops.Length state = Unit {0}
CanDo unit (ops.LoadElem place) state = Unit {0}
CanDo unit (ops.StoreElem place) state = Unit {0}
CanDo unit (ops.LoadAddr number) state = Unit {0}
CanDo unit (ops.LoadInd place) state = Unit {0}
CanDo unit (ops.StoreInd place) state = Unit {0}
