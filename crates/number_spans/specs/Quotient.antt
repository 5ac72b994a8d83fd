-- Truncated quotients of spans (ECMA-335 III.3.31 and III.3.32).
use Rattle.std.specs.Prelude.{ℤ, pos, neg_ℤ, max, Bool, ◌&&◌, int_le, int_div, unsigned_abs, if◌then◌else◌}
use Rattle.std.specs.Int.{int_min, int_max}
use Rattle.number_spans.specs.Spans.{between}
use Rattle.number_spans.specs.declared.span.Span.{Span}

-- The greatest size of an end.
unfoldable pub size : Span → ℤ
size r = pos (max (unsigned_abs r.lo) (unsigned_abs r.hi))

-- The quotients by a constant lie between those of the ends.
unfoldable pub quotients_by : Span → ℤ → Span
quotients_by r n = between (int_min (int_div r.lo n) (int_div r.hi n)) (int_max (int_div r.lo n) (int_div r.hi n))

-- Quotients of numbers that are not negative by positive ones.
abbrev pub plain_quotients : Span → Span → Bool → Span
plain_quotients r q by_constant = between (if by_constant then int_div r.lo q.lo else pos 0) (int_div r.hi q.lo)

-- No quotient is larger than the dividend.
unfoldable pub quotients : Span → Span → Bool → Span
quotients r q by_constant =
    if int_le (pos 0) r.lo && int_le (pos 1) q.lo then plain_quotients r q by_constant
    else if by_constant then quotients_by r q.lo
    else between (neg_ℤ (size r)) (size r)
