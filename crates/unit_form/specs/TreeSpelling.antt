-- How a tree is spelled in a unit file: the roots of it and of the trees below it, in preorder.
use Rattle.std.specs.Prelude.{ℕ, List, [], ◌∷◌}
use Rattle.std.specs.List.{flat_map}
use Rattle.byteorder.specs.Endian.{little_bytes}
use Rattle.cil_model.specs.Arithmetic.{unsigned}
use Rattle.cil_model.specs.Places.{place_number}
use Rattle.cil_model.specs.TermCodes.{Root, ConstRoot, ArgRoot, NullRoot, ResultRoot, LenRoot, ElemRoot, BinRoot, UnRoot, OldRoot, CondRoot, preorder}
use Rattle.cil_model.specs.Terms.{Term}
use Rattle.cil_model.specs.declared.instruction.BinOp.{BinOp}
use Rattle.cil_model.specs.declared.instruction.BinOp.TheVariants as operators
use Rattle.cil_model.specs.declared.instruction.UnOp.{UnOp}
use Rattle.cil_model.specs.declared.instruction.UnOp.TheVariants as unary
use Rattle.unit_form.specs.Forms.{count_bytes}
use Rattle.unit_form.specs.declared.form.UnitForm.{UnitForm}

-- The byte of an operator: its opcode (ECMA-335 III.3), and for a comparison C0 and the second byte of its opcode.
abbrev pub operator_byte : BinOp → ℕ
operator_byte operators.Add = 0x58
operator_byte operators.Sub = 0x59
operator_byte operators.Mul = 0x5a
operator_byte operators.Div = 0x5b
operator_byte operators.DivUn = 0x5c
operator_byte operators.Rem = 0x5d
operator_byte operators.RemUn = 0x5e
operator_byte operators.And = 0x5f
operator_byte operators.Or = 0x60
operator_byte operators.Xor = 0x61
operator_byte operators.Shl = 0x62
operator_byte operators.Shr = 0x63
operator_byte operators.ShrUn = 0x64
operator_byte operators.AddOvf = 0xd6
operator_byte operators.MulOvf = 0xd8
operator_byte operators.SubOvf = 0xda
operator_byte operators.Ceq = 0xc1
operator_byte operators.Cgt = 0xc2
operator_byte operators.CgtUn = 0xc3
operator_byte operators.Clt = 0xc4
operator_byte operators.CltUn = 0xc5

abbrev pub unary_byte : UnOp → ℕ
unary_byte unary.Neg = 0x65
unary_byte unary.Not = 0x66

-- The bytes of a root: its tag, and then its operand.
abbrev pub root_bytes : UnitForm → Root → List ℕ
root_bytes form (ConstRoot n) = 1 ∷ little_bytes 4 (unsigned n)
root_bytes form (ArgRoot n) = 2 ∷ count_bytes form n
root_bytes form NullRoot = 3 ∷ []
root_bytes form ResultRoot = 4 ∷ []
root_bytes form LenRoot = 5 ∷ []
root_bytes form (ElemRoot place) = 6 ∷ place_number place ∷ []
root_bytes form (BinRoot operator) = 7 ∷ operator_byte operator ∷ []
root_bytes form (UnRoot operator) = 8 ∷ unary_byte operator ∷ []
root_bytes form OldRoot = 9 ∷ []
root_bytes form CondRoot = 10 ∷ []

abbrev pub tree_bytes : UnitForm → Term → List ℕ
tree_bytes form tree = flat_map (root_bytes form) (preorder tree)
