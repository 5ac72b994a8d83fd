-- What is known of new symbols, each of which stands for a key: of two states as one, and of one alone.
use Rattle.std.specs.Prelude.{ℕ, zero, suc, ◌+◌, ℤ, pos, negsuc, ◌-ℤ◌, Bool, true, false, ◌&&◌, int_lt, int_le, List, [], ◌∷◌, get_or, length, Option, Some, None, option_map, if◌then◌else◌}
use Rattle.interval_domain.specs.Interval.{Interval, one}
use Rattle.number_spans.specs.declared.span.Span.{Span}
use Rattle.pentagon_domain.specs.declared.bound_row.BoundRow.{BoundRow}
use Rattle.pentagon_domain.specs.Rows.{with_bound}
use Rattle.symbolic_values.specs.declared.pairs.Key.{Key}
use Rattle.symbolic_values.specs.Pairing.{origin}
use Rattle.merged_numbers.specs.declared.rule.Rule.{Rule}
use Rattle.merged_numbers.specs.declared.rule.Rule.TheVariants.{Join, Widening}
use Rattle.merged_numbers.specs.Known.{Known, int32s, term_gap, term_of}
use Rattle.merged_numbers.specs.Spans.{gap_by, span_by, stored}

-- The range of each new symbol, that of symbol s at place s - 1, and the bounds between them.
pub record Outcome : Type 0 where
  pub ranges : List Interval
  pub bounds : List BoundRow

-- ---- ranges

abbrev pub put_before : Option Interval → Option (List Interval) → Option (List Interval)
put_before None rs = None
put_before (Some r) rs = option_map (λ all. r ∷ all) rs

-- The range of each key. None where one of them is empty.
abbrev pub ranges_of : (Key → Span) → List Key → Option (List Interval)
ranges_of span [] = Some []
ranges_of span (u ∷ us) = put_before (stored (span u)) (ranges_of span us)

-- ---- bounds

-- So many steps, one after another.
abbrev pub steps : {X : Type 0} → (ℕ → X → X) → ℕ → X → X
steps step zero x = x
steps step (suc n) x = step n (steps step n x)

-- How far the ranges at two places lie apart.
abbrev pub told : List Interval → ℕ → ℕ → ℤ
told ranges i j = (get_or ranges j (one (pos 0))).lo -ℤ (get_or ranges i (one (pos 0))).hi

-- A gap says no more than ranges that lie so far apart.
abbrev pub is_told : ℤ → Option ℤ → Bool
is_told apart None = true
is_told apart (Some k) = int_le k apart

-- The constant of a bound has 64 bits.
abbrev pub is_constant : ℤ → Bool
is_constant k = int_le (negsuc 9223372036854775807) k && int_le k (pos 9223372036854775807)

-- The bounds, with that of the symbols at two places, where it says more than their ranges.
abbrev pub with_gap : ℤ → ℕ → ℕ → Option ℤ → List BoundRow → List BoundRow
with_gap apart i j None rows = rows
with_gap apart i j (Some k) rows = if int_lt apart k && is_constant k then with_bound rows (i + 1) (j + 1) k else rows

-- The bounds, with those from the key at a place to each of so many.
abbrev pub row_of : (Key → Key → Option ℤ) → List Key → List Interval → ℕ → ℕ → List BoundRow → List BoundRow
row_of gap keys ranges i count rows =
    steps (λ j. with_gap (told ranges i j) i j (gap (get_or keys i origin) (get_or keys j origin))) count rows

-- The bounds from each of so many keys to each key.
abbrev pub rows_of : (Key → Key → Option ℤ) → List Key → List Interval → ℕ → List BoundRow → List BoundRow
rows_of gap keys ranges count rows = steps (λ i. row_of gap keys ranges i (length keys)) count rows

-- ---- both

abbrev pub with_bounds : (Key → Key → Option ℤ) → List Key → Option (List Interval) → Option Outcome
with_bounds gap keys None = None
with_bounds gap keys (Some ranges) =
    Some (record { ranges = ranges; bounds = rows_of gap keys ranges (length keys) [] })

-- What is known of new symbols, by the span of each and the gap of each two. None where a range is empty.
abbrev pub outcome_of : (Key → Span) → (Key → Key → Option ℤ) → List Key → Option Outcome
outcome_of span gap keys = with_bounds gap keys (ranges_of span keys)

-- What a key may be on both sides.
abbrev pub merged_span : Rule → Known → Known → Key → Span
merged_span rule a b u = span_by rule (int32s a (term_of true u)) (int32s b (term_of false u))

-- How far the second key lies above the first on both sides.
abbrev pub merged_gap : Rule → Known → Known → Key → Key → Option ℤ
merged_gap rule a b u v =
    gap_by rule (term_gap a (term_of true u) (term_of true v)) (term_gap b (term_of false u) (term_of false v))

abbrev pub merged : Rule → List Key → Known → Known → Option Outcome
merged rule keys a b = outcome_of (merged_span rule a b) (merged_gap rule a b) keys

-- What both states know.
abbrev pub joined : List Key → Known → Known → Option Outcome
joined keys a b = merged Join keys a b

-- What both know, with ends that settle.
abbrev pub widened : List Key → Known → Known → Option Outcome
widened keys a b = merged Widening keys a b

abbrev pub own_span : Known → Key → Span
own_span a u = int32s a (term_of true u)

abbrev pub own_gap : Known → Key → Key → Option ℤ
own_gap a u v = term_gap a (term_of true u) (term_of true v)

-- What one state knows, in the names of its own keys.
abbrev pub normed : List Key → Known → Option Outcome
normed keys a = outcome_of (own_span a) (own_gap a) keys
