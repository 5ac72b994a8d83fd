-- What a caller owes who asks for the result of an operator.
use Rattle.std.specs.Prelude.{◌≡◌, ◌≢◌, pos}
use Rattle.domain_api.specs.declared.expr.Expr.{Expr}
use Rattle.cil_model.specs.declared.instruction.BinOp.{BinOp}
use Rattle.cil_model.specs.declared.instruction.BinOp.TheVariants as operators
use Rattle.number_spans.specs.Shifts.{IsAmount}

-- A constant that divides is not 0.
abbrev pub NotZero : Expr → Type 0
NotZero e = e.sym ≡ 0 → e.k ≢ pos 0

abbrev pub Divides : BinOp → Expr → Type 0
Divides operators.Div b = NotZero b
Divides operators.DivUn b = NotZero b
Divides operators.Rem b = NotZero b
Divides operators.RemUn b = NotZero b
Divides _ b = Unit {0}

-- A constant by which a number is shifted is one of 0 to 31.
abbrev pub IsPlaces : Expr → Type 0
IsPlaces e = e.sym ≡ 0 → IsAmount e.k

abbrev pub Shifts : BinOp → Expr → Type 0
Shifts operators.Shl b = IsPlaces b
Shifts operators.Shr b = IsPlaces b
Shifts operators.ShrUn b = IsPlaces b
Shifts _ b = Unit {0}
