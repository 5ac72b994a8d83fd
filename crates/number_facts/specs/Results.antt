-- What it means that the result of an operator is kept, and that ends are those of exact results.
use Rattle.std.specs.Prelude.{◌≡◌, ℕ, ℤ, ◌+ℤ◌, ◌-ℤ◌, ◌*ℤ◌, ◌≤ℤ◌, Bool, FitsSigned, Option, Ok}
use Rattle.std.specs.Int.{w32}
use Rattle.domain_api.specs.declared.expr.Expr.{Expr}
use Rattle.cil_model.specs.Arithmetic.{operated}
use Rattle.cil_model.specs.declared.instruction.BinOp.{BinOp}
use Rattle.cil_model.specs.declared.instruction.BinOp.TheVariants as operators
use Rattle.symbolic_values.specs.Worth.{worth}
use Rattle.number_facts.specs.Facts.{Facts}
use Rattle.number_facts.specs.Holds.{AreNamed, Holds, YieldsSome}

-- Both expressions are worth int32.
pub record AreInt32 (number : ℕ → ℤ) (a b : Expr) : Type 0 where
  pub first : FitsSigned w32 (worth number a)
  pub second : FitsSigned w32 (worth number b)

-- Where the operator gives a result of what two expressions are worth, an expression is made, and it is worth the
-- result.
abbrev pub KeepsResult : BinOp → Expr → Expr → Facts → Option Expr → Facts → Type 0
KeepsResult op a b before made after =
    (number : ℕ → ℤ) (is_null : ℕ → Bool) (result : ℤ) → AreNamed before → Holds before number is_null
    → AreInt32 number a b
    → operated op (worth number a) (worth number b) ≡ Ok result → YieldsSome before after number is_null made result

-- What an operator that may overflow gives where its result may be any whole number.
abbrev pub IsExact : BinOp → ℤ → ℤ → ℤ → Type 0
IsExact operators.AddOvf m n exact = exact ≡ m +ℤ n
IsExact operators.SubOvf m n exact = exact ≡ m -ℤ n
IsExact operators.MulOvf m n exact = exact ≡ m *ℤ n
IsExact _ m n exact = ⊥

-- No exact result of what two expressions are worth is below lo or above hi.
abbrev pub AreExactEnds : BinOp → Expr → Expr → Facts → ℤ → ℤ → Type 0
AreExactEnds op a b facts lo hi =
    (number : ℕ → ℤ) (is_null : ℕ → Bool) (exact : ℤ) → AreNamed facts → Holds facts number is_null
    → AreInt32 number a b
    → IsExact op (worth number a) (worth number b) exact → (lo ≤ℤ exact) × (exact ≤ℤ hi)
