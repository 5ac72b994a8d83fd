-- Hulls, widening and containment of ranges.
use Rattle.std.specs.Prelude.{ℤ, pos, negsuc, Bool, true, ◌&&◌, int_lt, int_le, Option, Some, None, if◌then◌else◌}
use Rattle.std.specs.Option.{option_or}
use Rattle.std.specs.Int.{int_min, int_max}
use Rattle.interval_domain.specs.Interval.{Interval, between, holed, excludes}

-- The least and the greatest numbers of 32 and of 64 bits.
abbrev pub LEAST_32 : ℤ
LEAST_32 = negsuc 2147483647

abbrev pub GREATEST_32 : ℤ
GREATEST_32 = pos 2147483647

abbrev pub LEAST_64 : ℤ
LEAST_64 = negsuc 9223372036854775807

abbrev pub GREATEST_64 : ℤ
GREATEST_64 = pos 9223372036854775807

-- Every int32.
abbrev pub full : Interval
full = between LEAST_32 GREATEST_32

-- A hole that the other range excludes too.
unfoldable pub kept_hole : Option ℤ → Interval → Option ℤ
kept_hole None other = None
kept_hole (Some hole) other = if excludes other hole then Some hole else None

-- What either range has. A hole is kept where both exclude it, and the hole of the first is tried first.
unfoldable pub hull : Interval → Interval → Interval
hull a b = holed (int_min a.lo b.lo) (int_max a.hi b.hi) (option_or (kept_hole a.hole b) (kept_hole b.hole a))

-- Where a lower end settles: the greatest of some numbers that is not above it.
unfoldable pub floor_of : ℤ → ℤ
floor_of n =
    if int_le GREATEST_32 n then GREATEST_32
    else if int_le (pos 1) n then pos 1
    else if int_le (pos 0) n then pos 0
    else if int_le (negsuc 0) n then negsuc 0
    else if int_le LEAST_32 n then LEAST_32
    else LEAST_64

-- Where an upper end settles: the least of the same numbers that is not below it.
unfoldable pub ceiling_of : ℤ → ℤ
ceiling_of n =
    if int_le n LEAST_32 then LEAST_32
    else if int_le n (negsuc 0) then negsuc 0
    else if int_le n (pos 0) then pos 0
    else if int_le n (pos 1) then pos 1
    else if int_le n GREATEST_32 then GREATEST_32
    else GREATEST_64

-- The ends of a widened range, from those of two.
unfoldable pub lower_end : ℤ → ℤ → ℤ
lower_end a b = if int_lt b a then floor_of b else a

unfoldable pub upper_end : ℤ → ℤ → ℤ
upper_end a b = if int_lt a b then ceiling_of b else a

-- What either range has. An end that the second one passes goes where it settles, and the only hole is the
-- first one's, where the second excludes it.
unfoldable pub widened : Interval → Interval → Interval
widened a b = holed (lower_end a.lo b.lo) (upper_end a.hi b.hi) (kept_hole a.hole b)

-- The range excludes the hole, if there is one.
unfoldable pub excludes_hole : Interval → Option ℤ → Bool
excludes_hole r None = true
excludes_hole r (Some hole) = excludes r hole

-- The second range has what the first has.
unfoldable pub within : Interval → Interval → Bool
within a b = int_le b.lo a.lo && int_le a.hi b.hi && excludes_hole a b.hole
