-- The lines of symbols: their ranges, bounds and definitions.
use Rattle.std.specs.Prelude.{ℕ, Bool, List, ◌++◌, if◌then◌else◌, codes}
use Rattle.domain_api.specs.declared.expr.Expr.{Expr}
use Rattle.interval_domain.specs.Interval.{Interval}
use Rattle.pentagon_domain.specs.declared.bound_row.BoundRow.{BoundRow}
use Rattle.symbolic_values.specs.declared.def.Def.{Def}
use Rattle.symbolic_values.specs.declared.def.Def.TheVariants.{Eq, Lt, LtUn, NullTest, Sub}
use Rattle.invariant_text.specs.Lines.{line}
use Rattle.invariant_text.specs.NumberTexts.{expr_text, range_text, symbol_text}
use Rattle.invariant_text.specs.VariableLines.{reference_text}

unfoldable pub symbol_line : ℕ → Interval → List ℕ
symbol_line s range = line (symbol_text s ++ codes " in " ++ range_text range)

-- The symbol s and k more are at most the symbol t.
unfoldable pub bound_line : BoundRow → List ℕ
bound_line row = line (expr_text (record { sym = row.s; k = row.k }) ++ codes " <= " ++ symbol_text row.t)

-- Two expressions with an operator between them.
abbrev pub both : Expr → List ℕ → Expr → List ℕ
both a operator b = expr_text a ++ operator ++ expr_text b

abbrev pub null_test_text : ℕ → Bool → List ℕ
null_test_text r is_null = reference_text r ++ (if is_null then codes " is null" else codes " is not null")

-- What a symbol is.
abbrev pub def_text : Def → List ℕ
def_text (Eq a b) = both a (codes " == ") b
def_text (Lt a b) = both a (codes " < ") b
def_text (LtUn a b) = both a (codes " <u ") b
def_text (NullTest r is_null) = null_test_text r is_null
def_text (Sub a b) = both a (codes " - ") b

unfoldable pub definition_line : ℕ × Def → List ℕ
definition_line d = line (symbol_text d.0 ++ codes " = " ++ def_text d.1)
