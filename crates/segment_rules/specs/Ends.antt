-- The test whether an expression stands for one of each of two bounds.
use Rattle.std.specs.Prelude.{Bool, false, List, Option, None, Some}
use Rattle.std.specs.List.{list_any}
use Rattle.domain_api.specs.declared.expr.Expr.{Expr}
use Rattle.symbolic_values.specs.Names.{paired_expr}
use Rattle.symbolic_values.specs.Pairing.{Pairing}
use Rattle.array_segments.specs.CommonBounds.{same_expr}

-- Tells whether the name is there, and is this expression.
abbrev pub is_name : Option Expr → Expr → Bool
is_name None expr = false
is_name (Some name) expr = same_expr expr name

-- Tells whether the new expression stands for one of each bound.
abbrev pub stands_for_both : Pairing → List Expr → List Expr → Expr → Bool
stands_for_both pairs first second new = list_any (λ e. list_any (λ f. is_name (paired_expr pairs e f) new) second) first
