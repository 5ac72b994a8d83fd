-- The names of operators and of branches, as they are printed (ECMA-335 III.3).
use Rattle.std.specs.Prelude.{ℕ, List, codes}
use Rattle.cil_model.specs.declared.instruction.BinOp.{BinOp}
use Rattle.cil_model.specs.declared.instruction.BinOp.TheVariants as operators
use Rattle.cil_model.specs.declared.instruction.CmpOp.{CmpOp}
use Rattle.cil_model.specs.declared.instruction.CmpOp.TheVariants as comparisons
use Rattle.cil_model.specs.declared.instruction.Test.{Test}
use Rattle.cil_model.specs.declared.instruction.Test.TheVariants as tests

abbrev pub operator_name : BinOp → List ℕ
operator_name operators.Add = codes "add"
operator_name operators.Sub = codes "sub"
operator_name operators.Mul = codes "mul"
operator_name operators.Div = codes "div"
operator_name operators.DivUn = codes "div.un"
operator_name operators.Rem = codes "rem"
operator_name operators.RemUn = codes "rem.un"
operator_name operators.And = codes "and"
operator_name operators.Or = codes "or"
operator_name operators.Xor = codes "xor"
operator_name operators.Shl = codes "shl"
operator_name operators.Shr = codes "shr"
operator_name operators.ShrUn = codes "shr.un"
operator_name operators.AddOvf = codes "add.ovf"
operator_name operators.MulOvf = codes "mul.ovf"
operator_name operators.SubOvf = codes "sub.ovf"
operator_name operators.Ceq = codes "ceq"
operator_name operators.Cgt = codes "cgt"
operator_name operators.CgtUn = codes "cgt.un"
operator_name operators.Clt = codes "clt"
operator_name operators.CltUn = codes "clt.un"

abbrev pub comparison_name : CmpOp → List ℕ
comparison_name comparisons.Eq = codes "beq"
comparison_name comparisons.Ge = codes "bge"
comparison_name comparisons.Gt = codes "bgt"
comparison_name comparisons.Le = codes "ble"
comparison_name comparisons.Lt = codes "blt"
comparison_name comparisons.NeUn = codes "bne.un"
comparison_name comparisons.GeUn = codes "bge.un"
comparison_name comparisons.GtUn = codes "bgt.un"
comparison_name comparisons.LeUn = codes "ble.un"
comparison_name comparisons.LtUn = codes "blt.un"

-- The name of a branch by its test.
abbrev pub branch_name : Test → List ℕ
branch_name tests.Always = codes "br"
branch_name tests.True = codes "brtrue"
branch_name tests.False = codes "brfalse"
branch_name (tests.Cmp comparison) = comparison_name comparison
