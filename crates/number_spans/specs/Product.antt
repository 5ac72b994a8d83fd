-- Products of spans (ECMA-335 III.3.48).
use Rattle.std.specs.Prelude.{◌==◌, ℤ, pos, ◌*ℤ◌, Bool, ◌&&◌}
use Rattle.std.specs.Ordering.{int_eq}
use Rattle.domain_api.specs.declared.expr.Expr.{Expr}
use Rattle.interval_domain.specs.Arithmetic.{least, greatest}
use Rattle.number_spans.specs.Spans.{between}
use Rattle.number_spans.specs.declared.span.Span.{Span}

-- From the least to the greatest product of two ends.
unfoldable pub corners : Span → Span → Span
corners r q =
    between (least (r.lo *ℤ q.lo) (r.lo *ℤ q.hi) (r.hi *ℤ q.lo) (r.hi *ℤ q.hi))
    (greatest (r.lo *ℤ q.lo) (r.lo *ℤ q.hi) (r.hi *ℤ q.lo) (r.hi *ℤ q.hi))

-- The expression is this constant.
abbrev pub is_the_constant : Expr → ℤ → Bool
is_the_constant e k = (e.sym == 0) && int_eq e.k k
