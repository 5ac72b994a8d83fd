-- Bits of two numbers (ECMA-335 III.3.3, III.3.54 and III.3.67).
use Rattle.std.specs.Prelude.{◌^◌, ◌-◌, ◌/◌, ℤ, pos, Bool, ◌&&◌, int_le, unsigned_abs, if◌then◌else◌}
use Rattle.std.specs.Int.{w64, int_min, int_max, leading_zeros}
use Rattle.number_spans.specs.Spans.{between, full, is_not_negative}
use Rattle.number_spans.specs.declared.span.Span.{Span}

-- The bits in common are no more than those of a number that is not negative.
unfoldable pub common_bits : Span → Span → Span
common_bits r q =
    if is_not_negative r && is_not_negative q then between (pos 0) (int_min r.hi q.hi)
    else if is_not_negative r then between (pos 0) r.hi
    else if is_not_negative q then between (pos 0) q.hi
    else full

-- The number of all ones that has as many places as n: of 64 ones, as many are dropped as n has zeros in prefix.
unfoldable pub all_ones : ℤ → ℤ
all_ones n = pos ((2 ^ 64 - 1) / 2 ^ leading_zeros w64 (unsigned_abs n))

-- The numbers are 0 and 1, or one of them.
abbrev pub is_bit : Span → Bool
is_bit r = int_le (pos 0) r.lo && int_le r.hi (pos 1)

-- The bits of either have no more places than both. An end below 0, of an empty range, has none.
unfoldable pub bits_of_either : Span → Span → Span
bits_of_either r q =
    if is_bit r && is_bit q then between (pos 0) (pos 1)
    else if is_not_negative r && is_not_negative q then between (pos 0) (all_ones (int_max (pos 0) (int_max r.hi q.hi)))
    else full
