-- Expressions, read.
use Rattle.std.specs.Prelude.{ℕ, ℤ, pos, List, Option, Some, if◌then◌else◌, codes}
use Rattle.domain_api.specs.declared.expr.Expr.{Expr}
use Rattle.invariant_text.proofs.DefReading.{is_constant}
use Rattle.invariant_reader.specs.Numbers.{read_negative, read_positive, read_short, read_signed}
use Rattle.invariant_reader.specs.Prefixes.{and_then, behind, or_else}

abbrev pub expr : ℕ → ℤ → Expr
expr s k = record { sym = s; k = k }

-- What is added to a symbol. Nothing is 0.
unfoldable pub read_added : List ℕ → Option (ℤ × List ℕ)
read_added text =
    or_else (behind (codes " + ") text) read_positive
    (or_else (behind (codes " - ") text) read_negative (Some (pos 0, text)))

-- What is added to the symbol of the first of two expressions. A number that ends the line is the second one of a
-- difference.
unfoldable pub read_first_added : List ℕ → Option (ℤ × List ℕ)
read_first_added text =
    or_else (behind (codes " - ") text) (λ less. if is_constant less then read_negative less else Some (pos 0, text))
    (read_added text)

-- A number alone.
unfoldable pub read_constant : List ℕ → Option (Expr × List ℕ)
read_constant text = and_then (read_signed text) (λ k. Some (expr 0 k.0, k.1))

-- An expression, from behind the letter of its symbol on.
unfoldable pub read_sum : List ℕ → Option (Expr × List ℕ)
read_sum text = and_then (read_short text) (λ s. and_then (read_added s.1) (λ k. Some (expr s.0 k.0, k.1)))

unfoldable pub read_first_sum : List ℕ → Option (Expr × List ℕ)
read_first_sum text = and_then (read_short text) (λ s. and_then (read_first_added s.1) (λ k. Some (expr s.0 k.0, k.1)))

-- The expression at the start.
unfoldable pub read_expr : List ℕ → Option (Expr × List ℕ)
read_expr text = or_else (behind (codes "s") text) read_sum (read_constant text)

-- The first of two expressions.
unfoldable pub read_first_expr : List ℕ → Option (Expr × List ℕ)
read_first_expr text = or_else (behind (codes "s") text) read_first_sum (read_constant text)
