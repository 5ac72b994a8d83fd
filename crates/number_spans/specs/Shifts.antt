-- Shifts of spans to the right (ECMA-335 III.3.59).
use Rattle.std.specs.Prelude.{◌==◌, ℤ, pos, negsuc, ◌≤ℤ◌, unsigned_abs, if◌then◌else◌}
use Rattle.std.specs.Int.{int_min, int_max, int_shr}
use Rattle.domain_api.specs.declared.expr.Expr.{Expr}
use Rattle.number_spans.specs.Spans.{between}
use Rattle.number_spans.specs.declared.span.Span.{Span}

-- A number of places by which an int32 may be shifted.
pub record IsAmount (n : ℤ) : Type 0 where
  pub least : pos 0 ≤ℤ n
  pub greatest : n ≤ℤ pos 31

-- To the right by a constant both ends move, and by another number each comes nearer to 0, or to -1.
unfoldable pub shifted_right : Span → Expr → Span
shifted_right r b =
    if b.sym == 0 then between (int_shr r.lo (unsigned_abs b.k)) (int_shr r.hi (unsigned_abs b.k))
    else between (int_min r.lo (pos 0)) (int_max r.hi (negsuc 0))
