-- The methods that code calls, by their keys.
use Rattle.std.specs.Prelude.{ℕ, List, [], filter_map, Option, Some, None}
use Rattle.cil_model.specs.declared.instruction.Instr.{Instr}
use Rattle.cil_model.specs.declared.instruction.Op.{Op}
use Rattle.cil_model.specs.declared.instruction.Op.TheVariants as ops
use Rattle.method_code.specs.Meanings.{Meaning}
use Rattle.method_code.specs.declared.call.Call.{Call}
use Rattle.method_code.specs.declared.call.Call.TheVariants.{Callee, Contract, Unknown}
use Rattle.method_unit.specs.UnitFile.{first_uses}

-- The key of the method that a call calls.
abbrev pub callee_key : Call → Option ℕ
callee_key (Callee key) = Some key
callee_key (Contract number) = None
callee_key Unknown = None

-- The same for an operation.
abbrev pub called_by_op : Meaning → Op → Option ℕ
called_by_op meaning (ops.Call token) = callee_key (meaning.call token)
called_by_op meaning ops.Nop = None
called_by_op meaning (ops.LoadArg n) = None
called_by_op meaning (ops.StoreArg n) = None
called_by_op meaning (ops.LoadLocal n) = None
called_by_op meaning (ops.StoreLocal n) = None
called_by_op meaning ops.Null = None
called_by_op meaning (ops.Const n) = None
called_by_op meaning ops.Dup = None
called_by_op meaning ops.Pop = None
called_by_op meaning ops.Return = None
called_by_op meaning (ops.Branch test target) = None
called_by_op meaning (ops.Switch targets) = None
called_by_op meaning (ops.Bin operator) = None
called_by_op meaning ops.Neg = None
called_by_op meaning ops.Not = None
called_by_op meaning ops.ConvI4 = None
called_by_op meaning (ops.Text token) = None
called_by_op meaning (ops.NewArray token) = None
called_by_op meaning ops.Length = None
called_by_op meaning (ops.LoadElem place) = None
called_by_op meaning (ops.StoreElem place) = None
called_by_op meaning (ops.LoadAddr token) = None
called_by_op meaning (ops.LoadInd place) = None
called_by_op meaning (ops.StoreInd place) = None

-- The methods that the instructions call.
abbrev pub calls_in : Meaning → List Instr → List ℕ
calls_in meaning is = filter_map (λ i. called_by_op meaning i.op) is

-- Each of them once, in order of first use.
abbrev pub callees_of : Meaning → List Instr → List ℕ
callees_of meaning is = first_uses [] (calls_in meaning is)
