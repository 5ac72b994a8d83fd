-- Ranges of int32 as they are stored.
use Rattle.std.specs.Prelude.{◌≢◌, ℤ, ◌≤ℤ◌, ◌<ℤ◌, int_le, Option, Some, None, if◌then◌else◌}
use Rattle.cil_model.specs.Arithmetic.{LEAST, GREATEST}
use Rattle.interval_domain.specs.Interval.{Interval, between, without}

-- All numbers from lo to hi, but for the hole: one that is an end moves it, and one outside counts for nothing.
-- None where there is no such number.
unfoldable pub range_without : ℤ → ℤ → Option ℤ → Option Interval
range_without lo hi None = if int_le lo hi then Some (between lo hi) else None
range_without lo hi (Some hole) = if int_le lo hi then without (between lo hi) hole else None

-- A hole lies strictly between the ends.
abbrev pub IsInner : ℤ → ℤ → Option ℤ → Type 0
IsInner lo hi None = Unit {0}
IsInner lo hi (Some hole) = (lo <ℤ hole) × (hole <ℤ hi)

-- The form of a range that is kept: its numbers are int32, and there is one.
pub record IsNarrow (r : Interval) : Type 0 where
  pub least : LEAST ≤ℤ r.lo
  pub ordered : r.lo ≤ℤ r.hi
  pub greatest : r.hi ≤ℤ GREATEST
  pub inner : IsInner r.lo r.hi r.hole

-- The symbol's range allows the number.
pub record Allows (r : Interval) (n : ℤ) : Type 0 where
  pub above : r.lo ≤ℤ n
  pub below : n ≤ℤ r.hi
  pub no_hole : r.hole ≢ Some n

-- There is a range, and it allows the number.
abbrev pub SomeAllows : Option Interval → ℤ → Type 0
SomeAllows None n = ⊥
SomeAllows (Some r) n = Allows r n
