-- Sums and differences of spans, and of an expression and a constant (ECMA-335 III.3.1 and III.3.64).
use Rattle.std.specs.Prelude.{◌==◌, neg_ℤ, ◌+ℤ◌, ◌-ℤ◌, Bool, ◌&&◌, int_le}
use Rattle.domain_api.specs.declared.expr.Expr.{Expr}
use Rattle.cil_model.specs.Arithmetic.{LEAST, GREATEST}
use Rattle.number_spans.specs.Spans.{between}
use Rattle.number_spans.specs.declared.span.Span.{Span}

-- From the sum of the lower ends to that of the upper ones, and so for differences.
abbrev pub sums : Span → Span → Span
sums r q = between (r.lo +ℤ q.lo) (r.hi +ℤ q.hi)

abbrev pub differences : Span → Span → Span
differences r q = between (r.lo -ℤ q.hi) (r.hi -ℤ q.lo)

-- The expression is a constant, and the numbers are int32 also with it added.
abbrev pub takes : Span → Expr → Bool
takes r e = (e.sym == 0) && (int_le LEAST (r.lo +ℤ e.k) && int_le (r.hi +ℤ e.k) GREATEST)

-- An expression with a constant added.
abbrev pub plus : Expr → Expr → Expr
plus e constant = record { sym = e.sym; k = e.k +ℤ constant.k }

abbrev pub negated : Expr → Expr
negated e = record { sym = e.sym; k = neg_ℤ e.k }
