-- The choices of numbers that a choice for the new symbols stands for, on either side.
use Rattle.std.specs.Prelude.{◌≡◌, ℕ, ℤ, Bool, List, ◌∷◌, Some}
use Rattle.domain_api.specs.declared.expr.Expr.{Expr}
use Rattle.symbolic_values.specs.Names.{paired_expr}
use Rattle.symbolic_values.specs.Pairing.{Pairing, origin}
use Rattle.symbolic_values.specs.Worth.{behind_uses}
use Rattle.array_segments.specs.SegmentLists.{Has}

-- Each new symbol is worth what the expression of its first use is, in the choice of the first side or of the second.
abbrev pub behind : Bool → (ℕ → ℤ) → Pairing → ℕ → ℤ
behind is_first number pairs = behind_uses is_first number (origin ∷ pairs.keys)

-- The new expression stands for one of each bound.
pub record StandsForBoth (pairs : Pairing) (first second : List Expr) (new : Expr) : Type 0 where
  pub one : Expr
  pub other : Expr
  pub in_first : Has one first
  pub in_second : Has other second
  pub named : paired_expr pairs one other ≡ Some new
