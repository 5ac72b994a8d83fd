-- What operators give of the numbers of two ranges. An end beyond 64 bits is the nearest number of 64 bits.
use Rattle.std.specs.Prelude.{ℤ, pos, ◌+ℤ◌, ◌-ℤ◌, ◌*ℤ◌, neg_ℤ, ℕ, ◌-◌, max, Bool, ◌&&◌, int_lt, int_le, unsigned_abs, int_div, int_rem, Option, Some, None, if◌then◌else◌}
use Rattle.std.specs.Ordering.{int_eq}
use Rattle.std.specs.Int.{w64, int_min, int_max, saturate_signed, int_bit_and}
use Rattle.interval_domain.specs.Interval.{Interval, between, one, holed}
use Rattle.interval_domain.specs.Joins.{LEAST_32, GREATEST_32, LEAST_64, GREATEST_64, full}

-- The number of 64 bits that is nearest to a number.
unfoldable pub near : ℤ → ℤ
near n = saturate_signed w64 n

-- From one number to another, each of them brought to 64 bits.
unfoldable pub near_between : ℤ → ℤ → Interval
near_between lo hi = between (near lo) (near hi)

abbrev pub is_one : Interval → Bool
is_one r = int_eq r.lo r.hi

-- A hole with k added, where there is one.
abbrev pub moved_hole : Option ℤ → ℤ → Option ℤ
moved_hole None k = None
moved_hole (Some hole) k = Some (near (hole +ℤ k))

-- The numbers of a range, each with k added. The hole goes along.
unfoldable pub shifted : Interval → ℤ → Interval
shifted r k = holed (near (r.lo +ℤ k)) (near (r.hi +ℤ k)) (moved_hole r.hole k)

unfoldable pub sum : Interval → Interval → Interval
sum a b =
    if is_one b then shifted a b.lo
    else if is_one a then shifted b a.lo
    else near_between (a.lo +ℤ b.lo) (a.hi +ℤ b.hi)

-- A hole less k, where there is one.
abbrev pub hole_down : Option ℤ → ℤ → Option ℤ
hole_down None k = None
hole_down (Some hole) k = Some (near (hole -ℤ k))

-- The numbers of a range, each less k. The hole goes along.
unfoldable pub shifted_down : Interval → ℤ → Interval
shifted_down r k = holed (near (r.lo -ℤ k)) (near (r.hi -ℤ k)) (hole_down r.hole k)

unfoldable pub difference : Interval → Interval → Interval
difference a b = if is_one b then shifted_down a b.lo else near_between (a.lo -ℤ b.hi) (a.hi -ℤ b.lo)

-- The least and the greatest of four.
unfoldable pub least : ℤ → ℤ → ℤ → ℤ → ℤ
least a b c d = int_min (int_min a b) (int_min c d)

unfoldable pub greatest : ℤ → ℤ → ℤ → ℤ → ℤ
greatest a b c d = int_max (int_max a b) (int_max c d)

abbrev pub near_product : ℤ → ℤ → ℤ
near_product m n = near (m *ℤ n)

-- The products lie between the least and the greatest product of two ends.
unfoldable pub corners : Interval → Interval → Interval
corners a b =
    between (least (near_product a.lo b.lo) (near_product a.lo b.hi) (near_product a.hi b.lo) (near_product a.hi b.hi))
    (greatest (near_product a.lo b.lo) (near_product a.lo b.hi) (near_product a.hi b.lo) (near_product a.hi b.hi))

abbrev pub is_number_one : Interval → Bool
is_number_one r = int_eq r.lo (pos 1) && int_eq r.hi (pos 1)

-- A product by 1 keeps all that is known.
unfoldable pub product : Interval → Interval → Interval
product a b = if is_number_one b then a else if is_number_one a then b else corners a b

-- The greatest size of a number of the range.
unfoldable pub size : Interval → ℕ
size r = max (unsigned_abs r.lo) (unsigned_abs r.hi)

abbrev pub near_quotient : ℤ → ℤ → ℤ
near_quotient m n = near (int_div m n)

-- The quotients by one number lie between those of the ends. By 0 there is none.
unfoldable pub quotient_by : Interval → ℤ → Interval
quotient_by a n =
    if int_eq n (pos 0) then one (pos 0)
    else between (int_min (near_quotient a.lo n) (near_quotient a.hi n)) (int_max (near_quotient a.lo n) (near_quotient a.hi n))

-- Truncated quotients: by one number, of numbers that are not negative by positive ones, and of any.
unfoldable pub quotient : Interval → Interval → Interval
quotient a b =
    if is_one b then quotient_by a b.lo
    else if int_le (pos 0) a.lo && int_le (pos 1) b.lo then between (pos 0) (int_div a.hi b.lo)
    else near_between (neg_ℤ (pos (size a))) (pos (size a))

-- A remainder has the dividend's sign, is no larger than the dividend, and smaller than the divisor.
unfoldable pub remainders : Interval → Interval → Interval
remainders a b =
    between (if int_lt a.lo (pos 0) then int_max a.lo (neg_ℤ (pos (size b - 1))) else pos 0)
    (if int_lt (pos 0) a.hi then int_min a.hi (pos (size b - 1)) else pos 0)

-- That of two numbers is known. By 0 there is none.
unfoldable pub remainder : Interval → Interval → Interval
remainder a b =
    if is_one a && is_one b then one (if int_eq b.lo (pos 0) then pos 0 else int_rem a.lo b.lo)
    else remainders a b

-- The numbers of the range are int32.
abbrev pub is_narrow : Interval → Bool
is_narrow r = int_le LEAST_32 r.lo && int_le r.hi GREATEST_32

-- The bits that two numbers have in common are no more than those of one that is not negative.
unfoldable pub bits_below : Interval → Interval → Interval
bits_below a b =
    if int_le (pos 0) a.lo && int_le (pos 0) b.lo then between (pos 0) (int_min a.hi b.hi)
    else if int_le (pos 0) a.lo then between (pos 0) a.hi
    else if int_le (pos 0) b.lo then between (pos 0) b.hi
    else if is_narrow a && is_narrow b then full
    else between LEAST_64 GREATEST_64

-- Those of two numbers are known.
unfoldable pub common_bits : Interval → Interval → Interval
common_bits a b = if is_one a && is_one b then one (int_bit_and w64 a.lo b.lo) else bits_below a b
