-- What a state knows of numbers, and what this says of terms.
use Rattle.std.specs.Prelude.{ℕ, ℤ, pos, ◌+ℤ◌, ◌-ℤ◌, Bool, List, slice_get, Option, Some, None, option_map, if◌then◌else◌}
use Rattle.std.specs.Int.{int_min, int_max}
use Rattle.cil_model.specs.Arithmetic.{LEAST, GREATEST}
use Rattle.interval_domain.specs.Interval.{inner_hole, is_hole}
use Rattle.number_spans.specs.Spans.{full, moved_hole}
use Rattle.number_spans.specs.declared.span.Span.{Span}
use Rattle.pentagon_domain.specs.declared.bound_row.BoundRow.{BoundRow}
use Rattle.pentagon_domain.specs.Gaps as by_bounds
use Rattle.symbolic_values.specs.declared.pairs.Key.{Key}
use Rattle.merged_numbers.specs.declared.term.Term.{Term}
use Rattle.merged_numbers.specs.declared.side.Side.{Side}

-- The numbers that each symbol may be, that of symbol s at place s, and how symbols lie to each other.
pub record Known : Type 0 where
  pub spans : List Span
  pub bounds : List BoundRow

abbrev pub known : Side → Known
known side = record { spans = side.spans.now; bounds = side.bounds.now }

-- ---- terms

abbrev pub term : ℕ → ℤ → Term
term symbol k = record { sym = symbol; k = k }

-- What a key stands for on a side, the first or the second, at its first use.
abbrev pub term_of : Bool → Key → Term
term_of is_first u = if is_first then term u.s u.first else term u.t (u.first +ℤ u.shift)

abbrev pub worth : (ℕ → ℤ) → Term → ℤ
worth number x = number x.sym +ℤ x.k

-- ---- the numbers of a term

-- A hole that meets an end moves that end, and one outside the ends is none.
unfoldable pub met : ℤ → ℤ → Option ℤ → Span
met lo hi hole = record {
  lo = if is_hole hole lo then lo +ℤ pos 1 else lo;
  hi = if is_hole hole hi then hi -ℤ pos 1 else hi;
  hole = inner_hole lo hi hole;
}

-- The int32 of a span, each with k added. There may be none, and then the ends count as numbers.
unfoldable pub int32_of : Span → ℤ → Span
int32_of r k = met (int_max (r.lo +ℤ k) LEAST) (int_min (r.hi +ℤ k) GREATEST) (moved_hole r.hole k)

abbrev pub int32_or_full : Option Span → ℤ → Span
int32_or_full None k = full
int32_or_full (Some r) k = int32_of r k

-- The int32 that a term may be. Of a symbol that is not there nothing is known.
unfoldable pub int32s : Known → Term → Span
int32s side x = int32_or_full (slice_get side.spans x.sym) x.k

-- ---- how far one term lies above another

abbrev pub distance : Option Span → Option Span → Option ℤ
distance (Some r) (Some q) = Some (q.lo -ℤ r.hi)
distance _ _ = None

-- From the greatest number of the first symbol to the least of the second, where both are there.
unfoldable pub between : Known → ℕ → ℕ → Option ℤ
between side s t = distance (slice_get side.spans s) (slice_get side.spans t)

abbrev pub gap_or : List BoundRow → Option ℤ → ℕ → ℕ → Option ℤ
gap_or bounds None s t = by_bounds.gap bounds s t
gap_or bounds (Some apart) s t = by_bounds.gap_with bounds apart s t

-- How far the second symbol is known to lie above the first.
unfoldable pub gap : Known → ℕ → ℕ → Option ℤ
gap side s t = gap_or side.bounds (between side s t) s t

-- How far the second term is known to lie above the first.
unfoldable pub term_gap : Known → Term → Term → Option ℤ
term_gap side x y = option_map (λ k. k +ℤ (y.k -ℤ x.k)) (gap side x.sym y.sym)
