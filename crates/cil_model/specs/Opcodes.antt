-- What each opcode says (ECMA-335 III): how many bytes its operand has, and which operation the operand's
-- number makes of it. One row for each, in order of the opcodes. Switch has an operand of its own, in Spells.
use Rattle.std.specs.Prelude.{ℕ, ◌+◌, ◌-◌, ◌^◌, ◌%◌, pos, ◌-ℤ◌, ◌==◌, nat_le, ◌&&◌, Option, Some, None, option_map, if◌then◌else◌}
use Rattle.std.specs.Int.{w8, w32, cast_signed, cast_unsigned}
use Rattle.cil_model.specs.declared.instruction.BinOp.{BinOp}
use Rattle.cil_model.specs.declared.instruction.BinOp.TheVariants as operators
use Rattle.cil_model.specs.declared.instruction.CmpOp.TheVariants as comparisons
use Rattle.cil_model.specs.declared.instruction.Op.{Op}
use Rattle.cil_model.specs.declared.instruction.Op.TheVariants as ops
use Rattle.cil_model.specs.declared.instruction.Test.{Test}
use Rattle.cil_model.specs.declared.instruction.Test.TheVariants as tests
use Rattle.cil_model.specs.declared.place.Place.TheVariants as places

-- ---- operands

-- The width of an operand, and the operation that is made of the IL offset after the instruction and the
-- operand's number.
abbrev pub Form : Type 0
Form = ℕ × (ℕ → ℕ → Op)

-- An opcode without an operand.
abbrev pub alone : Op → Option Form
alone op = Some (0, λ next n. op)

-- An opcode whose operand is this many bytes wide.
abbrev pub with_operand : ℕ → (ℕ → Op) → Option Form
with_operand width meaning = Some (width, λ next n. meaning n)

-- The IL offset to which a branch goes: its operand counts, with a sign, from the next instruction
-- (III.3.15). The number is the operand in 32 bits.
abbrev pub target : ℕ → ℕ → ℕ
target next offset = (next + offset) % 2 ^ 32

-- A branch whose operand has one byte, and one whose operand has four.
abbrev pub near : Test → Form
near test = (1, λ next n. ops.Branch test (target next (cast_unsigned w32 (cast_signed w8 n))))

abbrev pub far : Test → Form
far test = (4, λ next n. ops.Branch test (target next n))

-- ---- opcodes of one byte

-- nop, the arguments, the locals and the null reference: 00 to 14.
unfoldable pub variable_form : ℕ → Option Form
variable_form b =
    if b == 0x00 then alone ops.Nop
    else if nat_le 0x02 b && nat_le b 0x05 then alone (ops.LoadArg (b - 0x02))
    else if nat_le 0x06 b && nat_le b 0x09 then alone (ops.LoadLocal (b - 0x06))
    else if nat_le 0x0a b && nat_le b 0x0d then alone (ops.StoreLocal (b - 0x0a))
    else if b == 0x0e then with_operand 1 (λ n. ops.LoadArg n)
    else if b == 0x10 then with_operand 1 (λ n. ops.StoreArg n)
    else if b == 0x11 then with_operand 1 (λ n. ops.LoadLocal n)
    else if b == 0x13 then with_operand 1 (λ n. ops.StoreLocal n)
    else if b == 0x14 then alone ops.Null
    else None

-- Constants, what changes the stack alone, calls and returns: 15 to 2A.
unfoldable pub constant_form : ℕ → Option Form
constant_form b =
    if nat_le 0x15 b && nat_le b 0x1e then alone (ops.Const (pos b -ℤ pos 0x16))
    else if b == 0x1f then with_operand 1 (λ n. ops.Const (cast_signed w8 n))
    else if b == 0x20 then with_operand 4 (λ n. ops.Const (cast_signed w32 n))
    else if b == 0x25 then alone ops.Dup
    else if b == 0x26 then alone ops.Pop
    else if b == 0x28 then with_operand 4 (λ n. ops.Call n)
    else if b == 0x2a then alone ops.Return
    else None

-- The test of a branch, by its place among the thirteen branches.
unfoldable pub test_of : ℕ → Option Test
test_of k =
    if k == 0 then Some tests.Always
    else if k == 1 then Some tests.False
    else if k == 2 then Some tests.True
    else if k == 3 then Some (tests.Cmp comparisons.Eq)
    else if k == 4 then Some (tests.Cmp comparisons.Ge)
    else if k == 5 then Some (tests.Cmp comparisons.Gt)
    else if k == 6 then Some (tests.Cmp comparisons.Le)
    else if k == 7 then Some (tests.Cmp comparisons.Lt)
    else if k == 8 then Some (tests.Cmp comparisons.NeUn)
    else if k == 9 then Some (tests.Cmp comparisons.GeUn)
    else if k == 10 then Some (tests.Cmp comparisons.GtUn)
    else if k == 11 then Some (tests.Cmp comparisons.LeUn)
    else if k == 12 then Some (tests.Cmp comparisons.LtUn)
    else None

-- Branches: 2B to 37 with a near target, and 38 to 44 in the same order with a far one.
unfoldable pub branch_form : ℕ → Option Form
branch_form b = if nat_le b 0x37 then option_map near (test_of (b - 0x2b)) else option_map far (test_of (b - 0x38))

-- The operators of two numbers.
unfoldable pub operator_of : ℕ → Option BinOp
operator_of b =
    if b == 0x58 then Some operators.Add
    else if b == 0x59 then Some operators.Sub
    else if b == 0x5a then Some operators.Mul
    else if b == 0x5b then Some operators.Div
    else if b == 0x5c then Some operators.DivUn
    else if b == 0x5d then Some operators.Rem
    else if b == 0x5e then Some operators.RemUn
    else if b == 0x5f then Some operators.And
    else if b == 0x60 then Some operators.Or
    else if b == 0x61 then Some operators.Xor
    else if b == 0x62 then Some operators.Shl
    else if b == 0x63 then Some operators.Shr
    else if b == 0x64 then Some operators.ShrUn
    else if b == 0xd6 then Some operators.AddOvf
    else if b == 0xd8 then Some operators.MulOvf
    else if b == 0xda then Some operators.SubOvf
    else None

-- An operator has no operand in the code.
abbrev pub operator_form : BinOp → Form
operator_form operator = (0, λ next n. ops.Bin operator)

-- Loads and stores through addresses of items: 47 to 54.
unfoldable pub address_form : ℕ → Option Form
address_form b =
    if b == 0x47 then alone (ops.LoadInd places.Bools)
    else if b == 0x4a then alone (ops.LoadInd places.Ints)
    else if b == 0x52 then alone (ops.StoreInd places.Bools)
    else if b == 0x54 then alone (ops.StoreInd places.Ints)
    else None

-- The operators of one number, strings and arrays: 65 to 9E.
unfoldable pub object_form : ℕ → Option Form
object_form b =
    if b == 0x65 then alone ops.Neg
    else if b == 0x66 then alone ops.Not
    else if b == 0x69 then alone ops.ConvI4
    else if b == 0x72 then with_operand 4 (λ n. ops.Text n)
    else if b == 0x8d then with_operand 4 (λ n. ops.NewArray n)
    else if b == 0x8e then alone ops.Length
    else if b == 0x8f then with_operand 4 (λ n. ops.LoadAddr n)
    else if b == 0x91 then alone (ops.LoadElem places.Bools)
    else if b == 0x94 then alone (ops.LoadElem places.Ints)
    else if b == 0x9c then alone (ops.StoreElem places.Bools)
    else if b == 0x9e then alone (ops.StoreElem places.Ints)
    else None

-- The row of an opcode of one byte.
unfoldable pub short_form : ℕ → Option Form
short_form b =
    if nat_le b 0x14 then variable_form b
    else if nat_le b 0x2a then constant_form b
    else if nat_le b 0x44 then branch_form b
    else if nat_le b 0x54 then address_form b
    else if nat_le 0x65 b && nat_le b 0x9e then object_form b
    else option_map operator_form (operator_of b)

-- ---- opcodes of FE and another byte

unfoldable pub long_form : ℕ → Option Form
long_form b =
    if b == 0x01 then alone (ops.Bin operators.Ceq)
    else if b == 0x02 then alone (ops.Bin operators.Cgt)
    else if b == 0x03 then alone (ops.Bin operators.CgtUn)
    else if b == 0x04 then alone (ops.Bin operators.Clt)
    else if b == 0x05 then alone (ops.Bin operators.CltUn)
    else if b == 0x09 then with_operand 2 (λ n. ops.LoadArg n)
    else if b == 0x0b then with_operand 2 (λ n. ops.StoreArg n)
    else if b == 0x0c then with_operand 2 (λ n. ops.LoadLocal n)
    else if b == 0x0e then with_operand 2 (λ n. ops.StoreLocal n)
    else None
