-- What becomes of two spans and of two gaps.
use Rattle.std.specs.Prelude.{ℤ, int_lt, Option, Some, None, if◌then◌else◌}
use Rattle.std.specs.Option.{option_or, option_and_then}
use Rattle.std.specs.Int.{int_min, int_max}
use Rattle.interval_domain.specs.Interval.{Interval, without}
use Rattle.interval_domain.specs.Joins.{lower_end, upper_end}
use Rattle.number_spans.specs.Spans.{excludes}
use Rattle.number_spans.specs.Stored.{range_without}
use Rattle.number_spans.specs.declared.span.Span.{Span}
use Rattle.merged_numbers.specs.declared.rule.Rule.{Rule}
use Rattle.merged_numbers.specs.declared.rule.Rule.TheVariants.{Join, Widening}

-- A hole that the other span excludes too.
abbrev pub kept_hole : Option ℤ → Span → Option ℤ
kept_hole None other = None
kept_hole (Some hole) other = if excludes other hole then Some hole else None

-- All from the lower of the lower ends to the higher of the higher ones. A hole is kept where both exclude it, and that
-- of the first is tried first.
unfoldable pub hull : Span → Span → Span
hull a b = record {
  lo = int_min a.lo b.lo;
  hi = int_max a.hi b.hi;
  hole = option_or (kept_hole a.hole b) (kept_hole b.hole a);
}

-- An end that the second one passes goes where it settles, and the only hole is the first one's, where the second
-- excludes it.
unfoldable pub widened : Span → Span → Span
widened a b = record { lo = lower_end a.lo b.lo; hi = upper_end a.hi b.hi; hole = kept_hole a.hole b }

abbrev pub span_by : Rule → Span → Span → Span
span_by Join a b = hull a b
span_by Widening a b = widened a b

-- The lesser of two gaps, where both are known.
abbrev pub lesser : Option ℤ → Option ℤ → Option ℤ
lesser (Some k) (Some l) = if int_lt l k then Some l else Some k
lesser _ _ = None

-- The first gap, where the second is known and not lesser.
abbrev pub steady : Option ℤ → Option ℤ → Option ℤ
steady (Some k) (Some l) = if int_lt l k then None else Some k
steady _ _ = None

abbrev pub gap_by : Rule → Option ℤ → Option ℤ → Option ℤ
gap_by Join a b = lesser a b
gap_by Widening a b = steady a b

abbrev pub but_for : Interval → Option ℤ → Option Interval
but_for r None = Some r
but_for r (Some hole) = without r hole

-- A span as it is stored: a hole that meets an end moves it. None where it has no number.
abbrev pub stored : Span → Option Interval
stored r = option_and_then (λ ends. but_for ends r.hole) (range_without r.lo r.hi None)
