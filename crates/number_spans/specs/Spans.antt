-- Ranges of exact numbers, which may be empty.
use Rattle.std.specs.Prelude.{◌≢◌, ℤ, pos, ◌+ℤ◌, ◌-ℤ◌, ◌≤ℤ◌, Bool, false, ◌&&◌, ◌||◌, int_lt, int_le, Option, Some, None, if◌then◌else◌}
use Rattle.std.specs.Ordering.{int_eq}
use Rattle.cc_base.specs.Wrap.{wrap32}
use Rattle.cil_model.specs.Arithmetic.{LEAST, GREATEST}
use Rattle.interval_domain.specs.Interval.{Interval}
use Rattle.number_spans.specs.declared.span.Span.{Span}

-- All numbers from one to another.
abbrev pub between : ℤ → ℤ → Span
between lo hi = record { lo = lo; hi = hi; hole = None }

-- The range has the number.
pub record Has (r : Span) (n : ℤ) : Type 0 where
  pub above : r.lo ≤ℤ n
  pub below : n ≤ℤ r.hi
  pub no_hole : r.hole ≢ Some n

-- Every int32.
abbrev pub full : Span
full = between LEAST GREATEST

abbrev pub is_int32 : ℤ → Bool
is_int32 n = int_le LEAST n && int_le n GREATEST

-- The range has one number alone.
abbrev pub is_one : Span → Bool
is_one r = int_eq r.lo r.hi

abbrev pub is_not_negative : Span → Bool
is_not_negative r = int_le (pos 0) r.lo

abbrev pub is_hole : Option ℤ → ℤ → Bool
is_hole None n = false
is_hole (Some hole) n = int_eq hole n

-- The number is none of the range: it is outside, or the hole.
unfoldable pub excludes : Span → ℤ → Bool
excludes r n = int_lt n r.lo || (int_lt r.hi n || is_hole r.hole n)

-- One range has one number alone, and the other does not have it.
abbrev pub one_excluded : Span → Span → Bool
one_excluded r q = is_one r && excludes q r.lo

abbrev pub moved_hole : Option ℤ → ℤ → Option ℤ
moved_hole None k = None
moved_hole (Some hole) k = Some (hole +ℤ k)

-- The numbers of a range, each with k added.
unfoldable pub moved : Interval → ℤ → Span
moved r k = record { lo = r.lo +ℤ k; hi = r.hi +ℤ k; hole = moved_hole r.hole k }

-- The numbers of a span, each with k added.
unfoldable pub shifted : Span → ℤ → Span
shifted r k = record { lo = r.lo +ℤ k; hi = r.hi +ℤ k; hole = moved_hole r.hole k }

-- The numbers modulo 2^32: they are moved together so that the lowest is an int32, and where the highest is then
-- none, every int32 may come.
unfoldable pub wrapped : Span → Span
wrapped r =
    let high = wrap32 r.lo +ℤ (r.hi -ℤ r.lo) in
    if is_int32 high then between (wrap32 r.lo) high else full
