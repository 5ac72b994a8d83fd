-- Sides whose bounds are tight and settled over the ends of their spans.
use Rattle.std.specs.Prelude.{◌≡◌, ◌<◌, ℤ, pos, negsuc, ◌+ℤ◌, ◌≤ℤ◌, Bool, true, false, ◌&&◌, List, [], ◌∷◌, length, map}
use Rattle.std.specs.List.{AllByRecursion}
use Rattle.std.specs.Ordering.{int_eq}
use Rattle.interval_domain.specs.Interval.{Interval}
use Rattle.number_spans.specs.declared.span.Span.{Span}
use Rattle.pentagon_domain.specs.declared.ends.Ends.{Ends}
use Rattle.pentagon_domain.specs.Settled.{AreSettledOver}
use Rattle.pentagon_domain.specs.Tight.{AreTightOver}
use Rattle.symbolic_values.specs.declared.pairs.Key.{Key}
use Rattle.merged_numbers.specs.Known.{Known}

-- The ends of a range.
abbrev pub ends_at : Interval → Ends
ends_at r = record { lo = r.lo; hi = r.hi }

-- The ends of each symbol: 0 of symbol 0, and those of the ranges of the others.
abbrev pub ends_of : List Interval → List Ends
ends_of ranges = record { lo = pos 0; hi = pos 0 } ∷ map ends_at ranges

abbrev pub is_exact : Ends → Span → Bool
is_exact ends r = int_eq ends.lo r.lo && int_eq ends.hi r.hi

-- The ends of each symbol are those of its span.
abbrev pub are_exact : List Ends → List Span → Bool
are_exact [] [] = true
are_exact (ends ∷ more) (r ∷ rs) = is_exact ends r && are_exact more rs
are_exact _ _ = false

-- Bounds are tight and settled over the ends of the spans.
pub record IsSettledSide (side : Known) : Type 0 where
  pub ends : List Ends
  pub exact : are_exact ends side.spans ≡ true
  pub tight : AreTightOver ends side.bounds
  pub settled : AreSettledOver ends side.bounds

-- A constant lies between -2^40 and 2^40.
pub record IsNear (k : ℤ) : Type 0 where
  pub above : negsuc 1099511627775 ≤ℤ k
  pub below : k ≤ℤ pos 1099511627776

-- On the first side a key stands for a symbol that is there, with a near constant.
pub record IsNamed (side : Known) (u : Key) : Type 0 where
  pub symbol : u.s < length side.spans
  pub near : IsNear u.first

-- So it does on the second.
pub record IsNamedToo (side : Known) (u : Key) : Type 0 where
  pub symbol : u.t < length side.spans
  pub near : IsNear (u.first +ℤ u.shift)

abbrev pub AreNamed : Known → List Key → Type 0
AreNamed side keys = AllByRecursion (IsNamed side) keys

abbrev pub AreNamedToo : Known → List Key → Type 0
AreNamedToo side keys = AllByRecursion (IsNamedToo side) keys
