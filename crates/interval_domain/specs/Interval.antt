-- Ranges: all numbers from one to another, but for at most one between them.
use Rattle.std.specs.Prelude.{◌≡◌, ◌≢◌, ℤ, pos, ◌+ℤ◌, ◌-ℤ◌, ◌≤ℤ◌, Bool, false, ◌&&◌, ◌||◌, int_lt, Option, Some, None, FitsSigned, if◌then◌else◌}
use Rattle.std.specs.Ordering.{int_eq}
use Rattle.std.specs.Int.{w64}

-- A range: its ends, and its hole, which is no number of it.
pub record Interval : Type 0 where
  pub lo : ℤ
  pub hi : ℤ
  pub hole : Option ℤ

abbrev pub interval : ℤ → ℤ → Option ℤ → Interval
interval lo hi hole = record { lo = lo; hi = hi; hole = hole }

-- The numbers from one to another, without a hole.
abbrev pub between : ℤ → ℤ → Interval
between lo hi = interval lo hi None

-- One number alone.
abbrev pub one : ℤ → Interval
one n = between n n

-- The range has the number, of 64 bits.
pub record Contains (r : Interval) (n : ℤ) : Type 0 where
  pub fits : FitsSigned w64 n
  pub above : r.lo ≤ℤ n
  pub below : n ≤ℤ r.hi
  pub no_hole : r.hole ≢ Some n

abbrev pub is_inside : ℤ → ℤ → ℤ → Bool
is_inside lo hi n = int_lt lo n && int_lt n hi

-- A hole, where it stands strictly between the ends.
unfoldable pub inner_hole : ℤ → ℤ → Option ℤ → Option ℤ
inner_hole lo hi None = None
inner_hole lo hi (Some hole) = if is_inside lo hi hole then Some hole else None

-- A range with a hole, which counts only where it stands strictly between the ends.
unfoldable pub holed : ℤ → ℤ → Option ℤ → Interval
holed lo hi hole = interval lo hi (inner_hole lo hi hole)

-- The form of a range: its ends in order, and its hole strictly between them.
pub record IsRange (lo hi : ℤ) (hole : Option ℤ) : Type 0 where
  pub ordered : lo ≤ℤ hi
  pub inner : inner_hole lo hi hole ≡ hole

-- The number is the hole.
abbrev pub is_hole : Option ℤ → ℤ → Bool
is_hole None n = false
is_hole (Some hole) n = int_eq hole n

-- The number is none of the range: it is outside, or the hole.
unfoldable pub excludes : Interval → ℤ → Bool
excludes r n = int_lt n r.lo || (int_lt r.hi n || is_hole r.hole n)

-- ---- the loss of a number

-- From a new lowest number on. A hole that meets the end moves it.
unfoldable pub raised : ℤ → ℤ → Option ℤ → Interval
raised lo hi hole = if is_hole hole lo then between (lo +ℤ pos 1) hi else interval lo hi hole

-- Up to a new highest number.
unfoldable pub lowered : ℤ → ℤ → Option ℤ → Interval
lowered lo hi hole = if is_hole hole hi then between lo (hi -ℤ pos 1) else interval lo hi hole

-- The range without a number that lies in it, of more than one: an end moves, and a number between the ends is
-- the hole, in place of an older one.
unfoldable pub lost : Interval → ℤ → Interval
lost r n =
    if int_eq n r.lo then raised (r.lo +ℤ pos 1) r.hi r.hole
    else if int_eq n r.hi then lowered r.lo (r.hi -ℤ pos 1) r.hole
    else interval r.lo r.hi (Some n)

-- The range without a number. The one number of a range leaves none.
unfoldable pub without : Interval → ℤ → Option Interval
without r n =
    if int_lt n r.lo || int_lt r.hi n then Some r
    else if int_eq r.lo r.hi then None
    else Some (lost r n)
