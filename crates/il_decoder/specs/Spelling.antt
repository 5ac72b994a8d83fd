-- The spelling of an instruction as a plain program: its operation and its size tell it, since the size tells the
-- form (ECMA-335 III).
use Rattle.std.specs.Prelude.{◌≡◌, ℕ, ◌+◌, ◌-◌, ◌^◌, ◌%◌, ℤ, List, [], ◌∷◌, ◌++◌, length, ◌==◌, if◌then◌else◌}
use Rattle.std.specs.Int.{w32, cast_unsigned}
use Rattle.std.specs.List.{flat_map}
use Rattle.byteorder.specs.Endian.{little_bytes}
use Rattle.cil_model.specs.Spells.{Spells}
use Rattle.cil_model.specs.declared.instruction.BinOp.{BinOp}
use Rattle.cil_model.specs.declared.instruction.BinOp.TheVariants as operators
use Rattle.cil_model.specs.declared.instruction.CmpOp.{CmpOp}
use Rattle.cil_model.specs.declared.instruction.CmpOp.TheVariants as comparisons
use Rattle.cil_model.specs.declared.instruction.Instr.{Instr}
use Rattle.cil_model.specs.declared.instruction.Op.{Op}
use Rattle.cil_model.specs.declared.instruction.Op.TheVariants as ops
use Rattle.cil_model.specs.declared.instruction.Test.{Test}
use Rattle.cil_model.specs.declared.instruction.Test.TheVariants as tests
use Rattle.cil_model.specs.declared.place.Place.TheVariants as places

-- ---- opcodes

abbrev pub operator_opcode : BinOp → List ℕ
operator_opcode operators.Add = 0x58 ∷ []
operator_opcode operators.Sub = 0x59 ∷ []
operator_opcode operators.Mul = 0x5a ∷ []
operator_opcode operators.Div = 0x5b ∷ []
operator_opcode operators.DivUn = 0x5c ∷ []
operator_opcode operators.Rem = 0x5d ∷ []
operator_opcode operators.RemUn = 0x5e ∷ []
operator_opcode operators.And = 0x5f ∷ []
operator_opcode operators.Or = 0x60 ∷ []
operator_opcode operators.Xor = 0x61 ∷ []
operator_opcode operators.Shl = 0x62 ∷ []
operator_opcode operators.Shr = 0x63 ∷ []
operator_opcode operators.ShrUn = 0x64 ∷ []
operator_opcode operators.AddOvf = 0xd6 ∷ []
operator_opcode operators.MulOvf = 0xd8 ∷ []
operator_opcode operators.SubOvf = 0xda ∷ []
operator_opcode operators.Ceq = 0xfe ∷ 0x01 ∷ []
operator_opcode operators.Cgt = 0xfe ∷ 0x02 ∷ []
operator_opcode operators.CgtUn = 0xfe ∷ 0x03 ∷ []
operator_opcode operators.Clt = 0xfe ∷ 0x04 ∷ []
operator_opcode operators.CltUn = 0xfe ∷ 0x05 ∷ []

abbrev pub comparison_number : CmpOp → ℕ
comparison_number comparisons.Eq = 3
comparison_number comparisons.Ge = 4
comparison_number comparisons.Gt = 5
comparison_number comparisons.Le = 6
comparison_number comparisons.Lt = 7
comparison_number comparisons.NeUn = 8
comparison_number comparisons.GeUn = 9
comparison_number comparisons.GtUn = 10
comparison_number comparisons.LeUn = 11
comparison_number comparisons.LtUn = 12

-- The place of a branch among those of its form.
abbrev pub branch_number : Test → ℕ
branch_number tests.Always = 0
branch_number tests.False = 1
branch_number tests.True = 2
branch_number (tests.Cmp comparison) = comparison_number comparison

-- ---- forms

-- An argument or a local: the short opcode and one byte, or FE, the long opcode and two bytes.
unfoldable pub numbered_bytes : ℕ → ℕ → ℕ → ℕ → List ℕ
numbered_bytes short long size n = if size == 2 then short ∷ little_bytes 1 n else 0xfe ∷ long ∷ little_bytes 2 n

-- The same where the first four have opcodes of their own, from this one on.
unfoldable pub variable_bytes : ℕ → ℕ → ℕ → ℕ → ℕ → List ℕ
variable_bytes first short long size n =
    if size == 1 then little_bytes 1 (first + n) else numbered_bytes short long size n

-- A constant: those from -1 to 8 have opcodes of their own, 16 being that of 0.
unfoldable pub constant_bytes : ℕ → ℤ → List ℕ
constant_bytes size n =
    if size == 1 then little_bytes 1 (0x16 + cast_unsigned w32 n)
    else if size == 2 then 0x1f ∷ little_bytes 1 (cast_unsigned w32 n)
    else 0x20 ∷ little_bytes 4 (cast_unsigned w32 n)

-- How far a target lies from the next instruction (III.3.15). Offsets and distances are of 32 bits.
abbrev pub distance : ℕ → ℕ → ℕ
distance next target = (target + (2 ^ 32 - next)) % 2 ^ 32

-- A branch: near where it has two bytes.
unfoldable pub branch_bytes : ℕ → ℕ → Test → ℕ → List ℕ
branch_bytes next size test target =
    if size == 2 then (0x2b + branch_number test) ∷ little_bytes 1 (distance next target)
    else (0x38 + branch_number test) ∷ little_bytes 4 (distance next target)

unfoldable pub distance_bytes : ℕ → ℕ → List ℕ
distance_bytes next target = little_bytes 4 (distance next target)

-- How many targets there are, and how far each of them lies.
unfoldable pub switch_bytes : ℕ → List ℕ → List ℕ
switch_bytes next targets = 0x45 ∷ little_bytes 4 (length targets) ++ flat_map (distance_bytes next) targets

-- ---- instructions

-- The bytes of an operation, with the IL offset of the next instruction and the size of this one.
abbrev pub op_bytes : ℕ → ℕ → Op → List ℕ
op_bytes next size ops.Nop = 0x00 ∷ []
op_bytes next size (ops.LoadArg n) = variable_bytes 0x02 0x0e 0x09 size n
op_bytes next size (ops.StoreArg n) = numbered_bytes 0x10 0x0b size n
op_bytes next size (ops.LoadLocal n) = variable_bytes 0x06 0x11 0x0c size n
op_bytes next size (ops.StoreLocal n) = variable_bytes 0x0a 0x13 0x0e size n
op_bytes next size ops.Null = 0x14 ∷ []
op_bytes next size (ops.Const n) = constant_bytes size n
op_bytes next size ops.Dup = 0x25 ∷ []
op_bytes next size ops.Pop = 0x26 ∷ []
op_bytes next size (ops.Call token) = 0x28 ∷ little_bytes 4 token
op_bytes next size ops.Return = 0x2a ∷ []
op_bytes next size (ops.Branch test target) = branch_bytes next size test target
op_bytes next size (ops.Switch targets) = switch_bytes next targets
op_bytes next size (ops.Bin operator) = operator_opcode operator
op_bytes next size ops.Neg = 0x65 ∷ []
op_bytes next size ops.Not = 0x66 ∷ []
op_bytes next size ops.ConvI4 = 0x69 ∷ []
op_bytes next size (ops.Text token) = 0x72 ∷ little_bytes 4 token
op_bytes next size (ops.NewArray token) = 0x8d ∷ little_bytes 4 token
op_bytes next size ops.Length = 0x8e ∷ []
op_bytes next size (ops.LoadElem places.Bools) = 0x91 ∷ []
op_bytes next size (ops.LoadElem place) = 0x94 ∷ []
op_bytes next size (ops.StoreElem places.Bools) = 0x9c ∷ []
op_bytes next size (ops.StoreElem place) = 0x9e ∷ []
op_bytes next size (ops.LoadAddr token) = 0x8f ∷ little_bytes 4 token
op_bytes next size (ops.LoadInd places.Bools) = 0x47 ∷ []
op_bytes next size (ops.LoadInd place) = 0x4a ∷ []
op_bytes next size (ops.StoreInd places.Bools) = 0x52 ∷ []
op_bytes next size (ops.StoreInd place) = 0x54 ∷ []

-- The bytes of an instruction: where some bytes spell it, these do, and no others.
abbrev pub spelled : Instr → List ℕ
spelled i = op_bytes ((i.at + i.size) % 2 ^ 32) i.size i.op

-- The bytes spell the instruction, no others do, and whatever follows them, they begin with the spelling of no
-- other instruction at this IL offset.
pub record IsOnlySpelling (i : Instr) (bytes : List ℕ) : Type 0 where
  pub spells : Spells i bytes
  pub only : (others : List ℕ) → Spells i others → others ≡ bytes
  pub again : (j : Instr) (others more rest : List ℕ) → j.at ≡ i.at → Spells j others → bytes ++ more ≡ others ++ rest → j ≡ i
