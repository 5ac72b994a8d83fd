-- Remainders of spans, with the sign of the dividend (ECMA-335 III.3.55 and III.3.56).
use Rattle.std.specs.Prelude.{ℤ, pos, neg_ℤ, ◌-ℤ◌, int_lt, if◌then◌else◌}
use Rattle.std.specs.Int.{int_min, int_max}
use Rattle.number_spans.specs.Quotient.{size}
use Rattle.number_spans.specs.Spans.{between}
use Rattle.number_spans.specs.declared.span.Span.{Span}

-- The remainders of dividends from lo to hi, where none is larger than m.
abbrev pub remainders_upto : ℤ → ℤ → ℤ → Span
remainders_upto lo hi m =
    between (if int_lt lo (pos 0) then int_max lo (neg_ℤ m) else pos 0) (if int_lt (pos 0) hi then int_min hi m else pos 0)

-- A remainder is no larger than the dividend, and smaller than the divisor.
unfoldable pub remainders : Span → Span → Span
remainders r q = remainders_upto r.lo r.hi (size q -ℤ pos 1)
