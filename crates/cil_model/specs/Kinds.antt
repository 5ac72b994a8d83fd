-- The kinds of values on the stack, and what an instruction does to them (ECMA-335 III.1.5 and III.1.8). The
-- first kind of a stack is its top.
use Rattle.std.specs.Prelude.{ℕ, ◌+◌, Bool, true, false, ◌&&◌, ◌||◌, nat_lt, List, [], ◌∷◌, length, reverse, take, drop, Option, Some, None, option_map, Result, Ok, Err, if◌then◌else◌, slice_get}
use Rattle.std.specs.Option.{option_map_or, option_and_then}
use Rattle.cil_model.specs.Comparisons.{comparison_of}
use Rattle.cil_model.specs.UnitCalls.{unit_call, array_place}
use Rattle.cil_model.specs.declared.instruction.CmpOp.{CmpOp}
use Rattle.cil_model.specs.declared.instruction.CmpOp.TheVariants as comparisons
use Rattle.cil_model.specs.declared.instruction.Instr.{Instr}
use Rattle.cil_model.specs.declared.instruction.Op.{Op}
use Rattle.cil_model.specs.declared.instruction.Op.TheVariants as ops
use Rattle.cil_model.specs.declared.instruction.Test.{Test}
use Rattle.cil_model.specs.declared.instruction.Test.TheVariants as tests
use Rattle.cil_model.specs.declared.place.Kind.{Kind}
use Rattle.cil_model.specs.declared.place.Kind.TheVariants.{Int, Native, Ints, Bools, NullRef, Text, AddrInts, AddrBools}
use Rattle.cil_model.specs.declared.place.Place.{Place}
use Rattle.cil_model.specs.declared.place.Place.TheVariants as places
use Rattle.cil_model.specs.declared.shape.Shape.{Shape}
use Rattle.cil_model.specs.declared.type_fault.TypeFault.{TypeFault}
use Rattle.cil_model.specs.declared.type_fault.TypeFault.TheVariants.{Underflow, WrongKind, Deep}
use Rattle.cil_model.specs.declared.unit.CalleeInfo.{CalleeInfo}
use Rattle.cil_model.specs.declared.unit_numbers.UnitCall.{UnitCall}
use Rattle.cil_model.specs.declared.unit_numbers.UnitCall.TheVariants as calls

-- ---- kinds and places

-- What is pushed of a place: none of void.
abbrev pub kind_of : Place → Option Kind
kind_of places.Void = None
kind_of places.Bool = Some Int
kind_of places.Int = Some Int
kind_of places.Bools = Some Bools
kind_of places.Ints = Some Ints

-- A place of this type takes a value of the kind. Null fits both kinds of arrays.
abbrev pub takes : Place → Kind → Bool
takes places.Bool Int = true
takes places.Int Int = true
takes places.Bools Bools = true
takes places.Bools NullRef = true
takes places.Ints Ints = true
takes places.Ints NullRef = true
takes _ _ = false

abbrev pub take_each : List Place → List Kind → Bool
take_each [] [] = true
take_each (place ∷ places) (kind ∷ kinds) = takes place kind && take_each places kinds
take_each _ _ = false

abbrev pub is_number : Kind → Bool
is_number Int = true
is_number Native = true
is_number _ = false

abbrev pub is_reference : Kind → Bool
is_reference Ints = true
is_reference Bools = true
is_reference NullRef = true
is_reference _ = false

-- An array of this type may be of the kind, or null.
abbrev pub is_array_of : Place → Kind → Bool
is_array_of place kind = is_reference kind && takes place kind

-- What the address of an item of such an array is: nothing where the type is none of arrays.
abbrev pub address_kind : Place → Option Kind
address_kind places.Bools = Some AddrBools
address_kind places.Ints = Some AddrInts
address_kind _ = None

-- The address of an item of such an array is of the kind.
abbrev pub is_address_of : Place → Kind → Bool
is_address_of places.Bools AddrBools = true
is_address_of places.Ints AddrInts = true
is_address_of _ _ = false

-- References to arrays of one type, or one of them null.
abbrev pub are_comparable : Kind → Kind → Bool
are_comparable Ints Ints = true
are_comparable Bools Bools = true
are_comparable NullRef other = is_reference other
are_comparable other NullRef = is_reference other
are_comparable _ _ = false

abbrev pub is_equality : CmpOp → Bool
is_equality comparisons.Eq = true
is_equality comparisons.NeUn = true
is_equality _ = false

-- A branch may compare two values of these kinds: numbers in every way, and references for equality.
abbrev pub compares_kinds : CmpOp → Kind → Kind → Bool
compares_kinds op a b = (is_number a && is_number b) || (is_equality op && are_comparable a b)

-- An instruction may push such a comparison. It may also ask whether a reference is above the null constant.
abbrev pub pushes_comparison : CmpOp → Kind → Kind → Bool
pushes_comparison comparisons.GtUn a NullRef = is_reference a
pushes_comparison op a b = compares_kinds op a b

-- A value of the kind may be tested: a number or a reference.
abbrev pub is_tested : Kind → Bool
is_tested kind = is_number kind || is_reference kind

-- ---- one instruction

abbrev pub one_if : Bool → ℕ
one_if test = if test then 1 else 0

abbrev pub result_count : Place → ℕ
result_count places.Void = 0
result_count _ = 1

abbrev pub param_count : Option CalleeInfo → ℕ
param_count callee = option_map_or (λ info. length info.args) callee 0

abbrev pub call_operands : Shape → Option UnitCall → ℕ
call_operands shape (Some (calls.Requires message)) = 1 + one_if message
call_operands shape (Some (calls.Ensures message)) = 1 + one_if message
call_operands shape (Some (calls.Assert message)) = 1 + one_if message
call_operands shape (Some (calls.Assume message)) = 1 + one_if message
call_operands shape (Some (calls.OldValue place)) = 1
call_operands shape (Some (calls.Callee number)) = param_count (slice_get shape.callees number)
call_operands shape (Some calls.EndContractBlock) = 0
call_operands shape (Some (calls.Result place)) = 0
call_operands shape None = 0

abbrev pub test_operands : Test → ℕ
test_operands tests.Always = 0
test_operands (tests.Cmp op) = 2
test_operands tests.True = 1
test_operands tests.False = 1

-- How many values an operation takes from the stack.
abbrev pub operand_count : Shape → Op → ℕ
operand_count shape (ops.StoreArg n) = 1
operand_count shape (ops.StoreLocal n) = 1
operand_count shape ops.Dup = 1
operand_count shape ops.Pop = 1
operand_count shape (ops.Call number) = call_operands shape (unit_call number)
operand_count shape ops.Return = result_count shape.result
operand_count shape (ops.Branch test target) = test_operands test
operand_count shape (ops.Switch targets) = 1
operand_count shape (ops.Bin operator) = 2
operand_count shape ops.Neg = 1
operand_count shape ops.Not = 1
operand_count shape ops.ConvI4 = 1
operand_count shape (ops.NewArray number) = 1
operand_count shape ops.Length = 1
operand_count shape (ops.LoadElem place) = 2
operand_count shape (ops.StoreElem place) = 3
operand_count shape (ops.LoadAddr number) = 2
operand_count shape (ops.LoadInd place) = 1
operand_count shape (ops.StoreInd place) = 2
operand_count shape ops.Nop = 0
operand_count shape (ops.LoadArg n) = 0
operand_count shape (ops.LoadLocal n) = 0
operand_count shape ops.Null = 0
operand_count shape (ops.Const n) = 0
operand_count shape (ops.Text token) = 0

-- The stack, where the test holds.
abbrev pub when : Bool → List Kind → Option (List Kind)
when test stack = if test then Some stack else None

-- The kind of a place on the stack. Nothing is pushed of void.
abbrev pub pushed_kind : Option Kind → List Kind → List Kind
pushed_kind None stack = stack
pushed_kind (Some kind) stack = kind ∷ stack

-- The kind of a variable that is there.
abbrev pub loaded : Option Place → List Kind → Option (List Kind)
loaded place stack = option_map (λ kind. kind ∷ stack) (option_and_then kind_of place)

abbrev pub stored_kind : Option Place → List Kind → Option (List Kind)
stored_kind (Some place) (kind ∷ rest) = when (takes place kind) rest
stored_kind _ _ = None

abbrev pub behind_condition : Bool → List Kind → Option (List Kind)
behind_condition false (Int ∷ rest) = Some rest
behind_condition true (Text ∷ Int ∷ rest) = Some rest
behind_condition _ _ = None

abbrev pub behind_callee : Option CalleeInfo → List Kind → Option (List Kind)
behind_callee None stack = None
behind_callee (Some info) stack =
    when (take_each info.args (reverse (take (length info.args) stack))) (pushed_kind (kind_of info.result) (drop (length info.args) stack))

abbrev pub behind_old : Place → List Kind → Option (List Kind)
behind_old place (kind ∷ rest) = when (takes place kind) (pushed_kind (kind_of place) rest)
behind_old place [] = None

abbrev pub behind_call : Shape → Option UnitCall → List Kind → Option (List Kind)
behind_call shape None stack = None
behind_call shape (Some (calls.Requires message)) stack = behind_condition message stack
behind_call shape (Some (calls.Ensures message)) stack = behind_condition message stack
behind_call shape (Some (calls.Assert message)) stack = behind_condition message stack
behind_call shape (Some (calls.Assume message)) stack = behind_condition message stack
behind_call shape (Some calls.EndContractBlock) stack = Some stack
behind_call shape (Some (calls.Result place)) stack = Some (pushed_kind (kind_of place) stack)
behind_call shape (Some (calls.OldValue place)) stack = behind_old place stack
behind_call shape (Some (calls.Callee number)) stack = behind_callee (slice_get shape.callees number) stack

-- A return leaves nothing: it finds the result alone.
abbrev pub behind_return : Place → List Kind → Option (List Kind)
behind_return places.Void [] = Some []
behind_return place (kind ∷ []) = when (takes place kind) []
behind_return place _ = None

abbrev pub behind_test : Test → List Kind → Option (List Kind)
behind_test tests.Always stack = Some stack
behind_test (tests.Cmp op) (b ∷ a ∷ rest) = when (compares_kinds op a b) rest
behind_test (tests.Cmp op) _ = None
behind_test _ (kind ∷ rest) = when (is_tested kind) rest
behind_test _ [] = None

abbrev pub behind_arithmetic : List Kind → Option (List Kind)
behind_arithmetic (Int ∷ Int ∷ rest) = Some (Int ∷ rest)
behind_arithmetic _ = None

abbrev pub behind_comparison : CmpOp → List Kind → Option (List Kind)
behind_comparison op (b ∷ a ∷ rest) = when (pushes_comparison op a b) (Int ∷ rest)
behind_comparison op _ = None

abbrev pub behind_operator : Option CmpOp → List Kind → Option (List Kind)
behind_operator None stack = behind_arithmetic stack
behind_operator (Some op) stack = behind_comparison op stack

abbrev pub behind_number : List Kind → Option (List Kind)
behind_number (Int ∷ rest) = Some (Int ∷ rest)
behind_number _ = None

abbrev pub behind_conversion : List Kind → Option (List Kind)
behind_conversion (kind ∷ rest) = when (is_number kind) (Int ∷ rest)
behind_conversion [] = None

abbrev pub behind_switch : List Kind → Option (List Kind)
behind_switch (Int ∷ rest) = Some rest
behind_switch _ = None

abbrev pub behind_new_array : Option Place → List Kind → Option (List Kind)
behind_new_array (Some place) (kind ∷ rest) = when (is_number kind) (pushed_kind (kind_of place) rest)
behind_new_array _ _ = None

abbrev pub behind_length : List Kind → Option (List Kind)
behind_length (kind ∷ rest) = when (is_reference kind) (Native ∷ rest)
behind_length [] = None

abbrev pub behind_load : Place → List Kind → Option (List Kind)
behind_load place (Int ∷ array ∷ rest) = when (is_array_of place array) (Int ∷ rest)
behind_load place _ = None

abbrev pub behind_store : Place → List Kind → Option (List Kind)
behind_store place (Int ∷ Int ∷ array ∷ rest) = when (is_array_of place array) rest
behind_store place _ = None

abbrev pub behind_address : Option Place → List Kind → Option (List Kind)
behind_address (Some place) (Int ∷ array ∷ rest) = when (is_array_of place array) (pushed_kind (address_kind place) rest)
behind_address _ _ = None

abbrev pub behind_load_through : Place → List Kind → Option (List Kind)
behind_load_through place (address ∷ rest) = when (is_address_of place address) (Int ∷ rest)
behind_load_through place [] = None

abbrev pub behind_store_through : Place → List Kind → Option (List Kind)
behind_store_through place (Int ∷ address ∷ rest) = when (is_address_of place address) rest
behind_store_through place _ = None

abbrev pub duplicated : List Kind → Option (List Kind)
duplicated (kind ∷ rest) = Some (kind ∷ kind ∷ rest)
duplicated [] = None

abbrev pub popped : List Kind → Option (List Kind)
popped (kind ∷ rest) = Some rest
popped [] = None

-- The stack after an operation, where it finds operands of kinds that it takes.
abbrev pub behind : Shape → Op → List Kind → Option (List Kind)
behind shape ops.Nop stack = Some stack
behind shape (ops.LoadArg n) stack = loaded (slice_get shape.args n) stack
behind shape (ops.StoreArg n) stack = stored_kind (slice_get shape.args n) stack
behind shape (ops.LoadLocal n) stack = loaded (slice_get shape.locals n) stack
behind shape (ops.StoreLocal n) stack = stored_kind (slice_get shape.locals n) stack
behind shape ops.Null stack = Some (NullRef ∷ stack)
behind shape (ops.Const n) stack = Some (Int ∷ stack)
behind shape ops.Dup stack = duplicated stack
behind shape ops.Pop stack = popped stack
behind shape (ops.Call number) stack = behind_call shape (unit_call number) stack
behind shape ops.Return stack = behind_return shape.result stack
behind shape (ops.Branch test target) stack = behind_test test stack
behind shape (ops.Switch targets) stack = behind_switch stack
behind shape (ops.Bin operator) stack = behind_operator (comparison_of operator) stack
behind shape ops.Neg stack = behind_number stack
behind shape ops.Not stack = behind_number stack
behind shape ops.ConvI4 stack = behind_conversion stack
behind shape (ops.Text token) stack = Some (Text ∷ stack)
behind shape (ops.NewArray number) stack = behind_new_array (array_place number) stack
behind shape ops.Length stack = behind_length stack
behind shape (ops.LoadElem place) stack = behind_load place stack
behind shape (ops.StoreElem place) stack = behind_store place stack
behind shape (ops.LoadAddr number) stack = behind_address (array_place number) stack
behind shape (ops.LoadInd place) stack = behind_load_through place stack
behind shape (ops.StoreInd place) stack = behind_store_through place stack

-- The stack after an instruction, within its size.
abbrev pub within_size : Shape → ℕ → Option (List Kind) → Result (List Kind) TypeFault
within_size shape at None = Err (WrongKind at)
within_size shape at (Some stack) = if nat_lt shape.max_stack (length stack) then Err (Deep at) else Ok stack

-- The stack after an instruction, or its fault: first that an operand is missing, then that one has a wrong
-- kind, and last that the stack is too deep.
abbrev pub typed : Shape → Instr → List Kind → Result (List Kind) TypeFault
typed shape i stack =
    if nat_lt (length stack) (operand_count shape i.op) then Err (Underflow i.at)
    else within_size shape i.at (behind shape i.op stack)
