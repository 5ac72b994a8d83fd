-- Symbols, expressions and ranges as text.
use Rattle.std.specs.Prelude.{ℕ, ◌==◌, ℤ, pos, int_lt, unsigned_abs, List, [], ◌++◌, Option, Some, None, if◌then◌else◌}
use Rattle.std.specs.Prelude.{codes}
use Rattle.std.specs.Fmt.{decimal, signed_decimal}
use Rattle.std.specs.Ordering.{int_eq}
use Rattle.domain_api.specs.declared.expr.Expr.{Expr}
use Rattle.interval_domain.specs.Interval.{Interval}

abbrev pub symbol_text : ℕ → List ℕ
symbol_text s = codes "s" ++ decimal s

abbrev pub sign_text : ℤ → List ℕ
sign_text k = if int_lt k (pos 0) then codes " - " else codes " + "

-- What is added to a symbol. Nothing is written of 0.
unfoldable pub added_text : ℤ → List ℕ
added_text k = if int_eq k (pos 0) then [] else sign_text k ++ decimal (unsigned_abs k)

-- A symbol and what is added to it, or where the symbol is 0, the number.
unfoldable pub expr_text : Expr → List ℕ
expr_text e = if e.sym == 0 then signed_decimal e.k else symbol_text e.sym ++ added_text e.k

abbrev pub hole_text : Option ℤ → List ℕ
hole_text None = []
hole_text (Some hole) = codes " not " ++ signed_decimal hole

-- The least number, the greatest one, and the one between them that the range does not have.
unfoldable pub range_text : Interval → List ℕ
range_text range = signed_decimal range.lo ++ codes ".." ++ signed_decimal range.hi ++ hole_text range.hole
