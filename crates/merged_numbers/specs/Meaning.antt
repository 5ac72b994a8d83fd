-- What is known is so of numbers.
use Rattle.std.specs.Prelude.{◌≡◌, ℕ, suc, ◌+◌, ◌<◌, ℤ, pos, ◌≤ℤ◌, Bool, List, ◌∷◌, get_or, length, slice_get, Option, Some, None, FitsSigned}
use Rattle.std.specs.Int.{w32}
use Rattle.std.specs.List.{AllByRecursion}
use Rattle.cil_model.specs.Arithmetic.{LEAST, GREATEST}
use Rattle.interval_domain.specs.Interval.{one}
use Rattle.number_spans.specs.Sizes.{IsLong, IsLongHole}
use Rattle.number_spans.specs.Spans.{Has}
use Rattle.number_spans.specs.Stored as ranges
use Rattle.number_spans.specs.declared.span.Span.{Span}
use Rattle.pentagon_domain.specs.Gaps as by_bounds
use Rattle.pentagon_domain.specs.Gaps.{AreBelow}
use Rattle.symbolic_values.specs.declared.pairs.Key.{Key}
use Rattle.symbolic_values.specs.Pairing.{origin}
use Rattle.symbolic_values.specs.Worth.{behind_uses, worth_of_use}
use Rattle.merged_numbers.specs.Known.{Known}
use Rattle.merged_numbers.specs.Merging.{Outcome}

-- ---- how large ends are

-- The ends of a span and its hole are at most 2^65.
pub record IsMeasured (r : Span) : Type 0 where
  pub ends : IsLong r
  pub hole : IsLongHole r.hole

abbrev pub AreMeasured : List Span → Type 0
AreMeasured spans = AllByRecursion IsMeasured spans

-- Its ends do not leave int32 outwards.
pub record IsCut (r : Span) : Type 0 where
  pub least : LEAST ≤ℤ r.lo
  pub greatest : r.hi ≤ℤ GREATEST

-- ---- the form

-- There is a range of int32 for each key, and bounds name no other symbols.
pub record IsFormed (keys : List Key) (outcome : Outcome) : Type 0 where
  pub count : length outcome.ranges ≡ length keys
  pub narrow : AllByRecursion ranges.IsNarrow outcome.ranges
  pub named : AllByRecursion (AreBelow (length keys + 1)) outcome.bounds

abbrev pub HaveForm : List Key → Option Outcome → Type 0
HaveForm keys None = Unit {0}
HaveForm keys (Some outcome) = IsFormed keys outcome

-- ---- choices

-- What a state knows is so of a number for each symbol.
pub record AllowsKnown (side : Known) (number : ℕ → ℤ) : Type 0 where
  pub spans : (s : ℕ) (r : Span) → slice_get side.spans s ≡ Some r → Has r (number s)
  pub bounds : by_bounds.Allows side.bounds number

-- The first use of each key is worth an int32 on a side, as a value of the machine is.
abbrev pub AreInt32 : Bool → (ℕ → ℤ) → List Key → Type 0
AreInt32 is_first number keys = AllByRecursion (λ u. FitsSigned w32 (worth_of_use is_first number u)) keys

-- What is known of new symbols is so of a number for each.
pub record IsSo (outcome : Outcome) (number : ℕ → ℤ) : Type 0 where
  pub ranges : (i : ℕ) → i < length outcome.ranges
      → ranges.Allows (get_or outcome.ranges i (one (pos 0))) (number (suc i))
  pub bounds : by_bounds.Allows outcome.bounds number

-- Something is known, and it is so.
abbrev pub SomeSo : Option Outcome → (ℕ → ℤ) → Type 0
SomeSo None number = ⊥
SomeSo (Some outcome) number = IsSo outcome number

-- All that a side knows is so of the outcome too, where each new symbol is worth what the first use of its key is on
-- that side. Where there is no outcome, there is no such choice.
abbrev pub Keeps : Bool → List Key → Known → Option Outcome → Type 0
Keeps is_first keys side outcome =
    (number : ℕ → ℤ) → AllowsKnown side number → AreInt32 is_first number keys
    → SomeSo outcome (behind_uses is_first number (origin ∷ keys))
