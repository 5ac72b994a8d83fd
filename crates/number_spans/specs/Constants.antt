-- Expressions that are constants, and what operators give of them.
use Rattle.std.specs.Prelude.{◌==◌, ℤ, int_div, int_rem, Bool, ◌&&◌, Option, None, Result, if◌then◌else◌}
use Rattle.std.specs.Int.{int_shr}
use Rattle.std.specs.Result.{result_ok}
use Rattle.cc_base.specs.Wrap.{wrap32}
use Rattle.domain_api.specs.declared.expr.Expr.{Expr}
use Rattle.cil_model.specs.Arithmetic.{divided, operated, shifted}
use Rattle.cil_model.specs.declared.instruction.BinOp.{BinOp}
use Rattle.cil_model.specs.declared.instruction.BinOp.TheVariants as operators
use Rattle.cil_model.specs.declared.machine.FaultKind.{FaultKind}

-- The number of an expression of symbol 0.
abbrev pub constant : ℤ → Expr
constant k = record { sym = 0; k = k }

-- The expression is a constant. Its number need be no int32: that of a variable may be up to 2^32.
abbrev pub is_constant : Expr → Bool
is_constant e = e.sym == 0

-- What an operator gives of two integers, as the machine does of two int32. One that reads the bits of its numbers
-- takes the last 32 of their two's complement. The others compute with the integers themselves. The result is wrapped.
abbrev pub exact_of : BinOp → ℤ → ℤ → Result ℤ FaultKind
exact_of operators.Add a b = operated operators.Add a b
exact_of operators.Sub a b = operated operators.Sub a b
exact_of operators.Mul a b = operated operators.Mul a b
exact_of operators.Div a b = divided a b (wrap32 (int_div a b))
exact_of operators.DivUn a b = operated operators.DivUn (wrap32 a) (wrap32 b)
exact_of operators.Rem a b = divided a b (wrap32 (int_rem a b))
exact_of operators.RemUn a b = operated operators.RemUn (wrap32 a) (wrap32 b)
exact_of operators.And a b = operated operators.And (wrap32 a) (wrap32 b)
exact_of operators.Or a b = operated operators.Or (wrap32 a) (wrap32 b)
exact_of operators.Xor a b = operated operators.Xor (wrap32 a) (wrap32 b)
exact_of operators.Shl a b = operated operators.Shl a b
exact_of operators.Shr a b = shifted b (λ n. wrap32 (int_shr a n))
exact_of operators.ShrUn a b = operated operators.ShrUn (wrap32 a) b
exact_of operators.AddOvf a b = operated operators.AddOvf a b
exact_of operators.MulOvf a b = operated operators.MulOvf a b
exact_of operators.SubOvf a b = operated operators.SubOvf a b
exact_of operators.Ceq a b = operated operators.Ceq a b
exact_of operators.Cgt a b = operated operators.Cgt a b
exact_of operators.CgtUn a b = operated operators.CgtUn (wrap32 a) (wrap32 b)
exact_of operators.Clt a b = operated operators.Clt a b
exact_of operators.CltUn a b = operated operators.CltUn (wrap32 a) (wrap32 b)

-- What an operator gives of two constants, where it does not fault.
abbrev pub of_constants : BinOp → Expr → Expr → Option ℤ
of_constants op a b = if is_constant a && is_constant b then result_ok (exact_of op a.k b.k) else None
