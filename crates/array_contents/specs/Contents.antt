-- What is known of the items of references: the segments of each, from reference 1 on, in order.
use Rattle.std.specs.Prelude.{◌≡◌, ℕ, zero, suc, ◌≤◌, ℤ, pos, true, List, [], ◌∷◌, get_or, slice_get, Some}
use Rattle.std.specs.List.{AllByRecursion}
use Rattle.array_segments.specs.Meaning.{Holds}
use Rattle.array_segments.specs.SegmentLists.{Has, HasForm, Lists, last_bound, whole, zero_expr}
use Rattle.domain_api.specs.declared.expr.Expr.{Expr}
use Rattle.interval_domain.specs.Interval.{Contains, Interval, one}
use Rattle.number_spans.specs.Stored.{IsNarrow}

-- The segments of one reference, whose items are in ranges.
abbrev pub Segments : Type 0
Segments = Lists Interval

abbrev pub Contents : Type 0
Contents = List Segments

-- Null has no items: its one segment lies between 0 and 0.
abbrev pub of_null : Segments
of_null = whole zero_expr (one (pos 0)) true

-- Those of a reference. Reference 0 is null, and so is one that is not there.
abbrev pub segments_at : Contents → ℕ → Segments
segments_at contents zero = of_null
segments_at contents (suc i) = get_or contents i of_null

-- ---- the form

-- The segments have their form, end at the length, name symbols that are there, of so many, and their ranges are of
-- int32.
pub record IsFormed (symbols : ℕ) (length : Expr) (segments : Segments) : Type 0 where
  pub form : HasForm segments
  pub ends : Has length (last_bound segments)
  pub named : AllByRecursion (AllByRecursion (λ e. e.sym ≤ symbols)) segments.bounds
  pub narrow : AllByRecursion IsNarrow segments.contents

-- There are segments for each of these lengths.
abbrev pub AreFormed : ℕ → List Expr → Contents → Type 0
AreFormed symbols [] [] = Unit {0}
AreFormed symbols (length ∷ lengths) (segments ∷ contents) =
    IsFormed symbols length segments × AreFormed symbols lengths contents
AreFormed symbols _ _ = ⊥

-- ---- the meaning

-- The segments of each reference hold of its items, where each symbol is a number.
abbrev pub AreHeld : (ℕ → ℤ) → (ℕ → List ℤ) → Contents → Type 0
AreHeld number items contents =
    (i : ℕ) (segments : Segments) → slice_get contents i ≡ Some segments
    → Holds Contains number (items (suc i)) segments
