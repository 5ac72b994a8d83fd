-- Code with the numbers of a unit in place of the tokens of the metadata.
use Rattle.std.specs.Prelude.{ℕ, ◌+◌, ◌==◌, List, map, position, Option, Some, None}
use Rattle.std.specs.List.{flat_map}
use Rattle.std.specs.Option.{option_map_or}
use Rattle.cil_model.specs.declared.instruction.Instr.{Instr}
use Rattle.cil_model.specs.declared.instruction.Op.{Op}
use Rattle.cil_model.specs.declared.instruction.Op.TheVariants as ops
use Rattle.cil_model.specs.declared.place.Place.{Place}
use Rattle.cil_model.specs.declared.place.Place.TheVariants as places
use Rattle.il_decoder.specs.Spelling.{spelled}
use Rattle.method_code.specs.Called.{callees_of}
use Rattle.method_code.specs.Meanings.{Meaning}
use Rattle.method_code.specs.declared.call.Call.{Call}
use Rattle.method_code.specs.declared.call.Call.TheVariants.{Callee, Contract, Unknown}

-- The number of a call: its own where it calls a method of the class of contracts, 100 and the index of the callee
-- where it calls one of these, and 0, which names nothing, for each other call.
abbrev pub call_number : List ℕ → Call → ℕ
call_number callees (Contract number) = number
call_number callees (Callee key) = option_map_or (λ index. 100 + index) (position (λ callee. callee == key) callees) 0
call_number callees Unknown = 0

-- The number of arrays of such elements, 0 where units know none.
abbrev pub array_number : Option Place → ℕ
array_number (Some places.Bool) = 1
array_number (Some places.Int) = 2
array_number (Some places.Void) = 0
array_number (Some places.Bools) = 0
array_number (Some places.Ints) = 0
array_number None = 0

-- An operation with numbers in place of tokens. All texts have the number 0.
abbrev pub numbered_op : Meaning → List ℕ → Op → Op
numbered_op meaning callees (ops.Call token) = ops.Call (call_number callees (meaning.call token))
numbered_op meaning callees (ops.NewArray token) = ops.NewArray (array_number (meaning.element token))
numbered_op meaning callees (ops.LoadAddr token) = ops.LoadAddr (array_number (meaning.element token))
numbered_op meaning callees (ops.Text token) = ops.Text 0
numbered_op meaning callees ops.Nop = ops.Nop
numbered_op meaning callees (ops.LoadArg n) = ops.LoadArg n
numbered_op meaning callees (ops.StoreArg n) = ops.StoreArg n
numbered_op meaning callees (ops.LoadLocal n) = ops.LoadLocal n
numbered_op meaning callees (ops.StoreLocal n) = ops.StoreLocal n
numbered_op meaning callees ops.Null = ops.Null
numbered_op meaning callees (ops.Const n) = ops.Const n
numbered_op meaning callees ops.Dup = ops.Dup
numbered_op meaning callees ops.Pop = ops.Pop
numbered_op meaning callees ops.Return = ops.Return
numbered_op meaning callees (ops.Branch test target) = ops.Branch test target
numbered_op meaning callees (ops.Switch targets) = ops.Switch targets
numbered_op meaning callees (ops.Bin operator) = ops.Bin operator
numbered_op meaning callees ops.Neg = ops.Neg
numbered_op meaning callees ops.Not = ops.Not
numbered_op meaning callees ops.ConvI4 = ops.ConvI4
numbered_op meaning callees ops.Length = ops.Length
numbered_op meaning callees (ops.LoadElem place) = ops.LoadElem place
numbered_op meaning callees (ops.StoreElem place) = ops.StoreElem place
numbered_op meaning callees (ops.LoadInd place) = ops.LoadInd place
numbered_op meaning callees (ops.StoreInd place) = ops.StoreInd place

-- The instruction stays at its place, and of its size.
abbrev pub numbered_instr : Meaning → List ℕ → Instr → Instr
numbered_instr meaning callees i = record { at = i.at; size = i.size; op = numbered_op meaning callees i.op }

-- The instructions of a method with the numbers of its unit.
abbrev pub numbered : Meaning → List Instr → List Instr
numbered meaning is = map (numbered_instr meaning (callees_of meaning is)) is

-- The bytes of these instructions, one after another.
abbrev pub spelled_code : List Instr → List ℕ
spelled_code is = flat_map spelled is
