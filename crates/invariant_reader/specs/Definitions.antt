-- The lines of definitions, read.
use Rattle.std.specs.Prelude.{ℕ, Bool, true, false, List, Option, Some, None, if◌then◌else◌, codes}
use Rattle.domain_api.specs.declared.expr.Expr.{Expr}
use Rattle.symbolic_values.specs.declared.def.Def.{Def}
use Rattle.symbolic_values.specs.declared.def.Def.TheVariants.{Eq, Lt, LtUn, NullTest, Sub}
use Rattle.invariant_text.proofs.DefReading.{begins_reference}
use Rattle.invariant_reader.specs.declared.definitions.Operator.{Operator}
use Rattle.invariant_reader.specs.declared.definitions.Operator.TheVariants as operators
use Rattle.invariant_reader.specs.Expressions.{read_expr, read_first_expr}
use Rattle.invariant_reader.specs.Numbers.{read_short}
use Rattle.invariant_reader.specs.Prefixes.{and_then, behind, or_else}
use Rattle.invariant_reader.specs.References.{read_reference}

-- What an operator between two expressions says.
abbrev pub def_of : Operator → Expr → Expr → Def
def_of operators.Equal a b = Eq a b
def_of operators.Less a b = Lt a b
def_of operators.LessUnsigned a b = LtUn a b
def_of operators.Minus a b = Sub a b

-- The operator at the start.
unfoldable pub read_operator : List ℕ → Option (Operator × List ℕ)
read_operator text =
    or_else (behind (codes " == ") text) (λ rest. Some (operators.Equal, rest))
    (or_else (behind (codes " < ") text) (λ rest. Some (operators.Less, rest))
    (or_else (behind (codes " <u ") text) (λ rest. Some (operators.LessUnsigned, rest))
    (or_else (behind (codes " - ") text) (λ rest. Some (operators.Minus, rest)) None)))

-- Two expressions with an operator between them.
unfoldable pub read_both : List ℕ → Option (Def × List ℕ)
read_both text =
    and_then (read_first_expr text) (λ a. and_then (read_operator a.1) (λ o.
    and_then (read_expr o.1) (λ b. Some (def_of o.0 a.0 b.0, b.1))))

-- Whether a reference is null.
unfoldable pub read_nullness : List ℕ → Option (Bool × List ℕ)
read_nullness text =
    or_else (behind (codes " is null") text) (λ rest. Some (true, rest))
    (and_then (behind (codes " is not null") text) (λ rest. Some (false, rest)))

unfoldable pub read_null_test : List ℕ → Option (Def × List ℕ)
read_null_test text =
    and_then (read_reference text) (λ r. and_then (read_nullness r.1) (λ is_null.
    Some (NullTest r.0 is_null.0, is_null.1)))

-- What a symbol is.
unfoldable pub read_def : List ℕ → Option (Def × List ℕ)
read_def text = if begins_reference text then read_null_test text else read_both text

-- The line at the start.
unfoldable pub read_definition_line : List ℕ → Option ((ℕ × Def) × List ℕ)
read_definition_line text =
    and_then (behind (codes "    s") text) (λ name. and_then (read_short name) (λ s.
    and_then (behind (codes " = ") s.1) (λ def. and_then (read_def def) (λ d.
    and_then (behind (codes "\n") d.1) (λ rest. Some ((s.0, d.0), rest))))))
