-- The lines of bounds, read.
use Rattle.std.specs.Prelude.{ℕ, List, Option, Some, codes}
use Rattle.domain_api.specs.declared.expr.Expr.{Expr}
use Rattle.pentagon_domain.specs.declared.bound_row.BoundRow.{BoundRow}
use Rattle.invariant_reader.specs.Expressions.{read_expr}
use Rattle.invariant_reader.specs.Numbers.{read_short}
use Rattle.invariant_reader.specs.Prefixes.{and_then, behind}

-- The expression is at most the symbol.
abbrev pub at_most : Expr → ℕ → BoundRow
at_most e t = record { s = e.sym; t = t; k = e.k }

-- The line at the start.
unfoldable pub read_bound_line : List ℕ → Option (BoundRow × List ℕ)
read_bound_line text =
    and_then (behind (codes "    ") text) (λ lower. and_then (read_expr lower) (λ e.
    and_then (behind (codes " <= s") e.1) (λ upper. and_then (read_short upper) (λ t.
    and_then (behind (codes "\n") t.1) (λ rest. Some (at_most e.0 t.0, rest))))))
