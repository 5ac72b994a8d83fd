-- Two sides as one, between the bounds that they have in common.
use Rattle.std.specs.Prelude.{ℕ, nat_lt, Bool, not, ◌&&◌, if◌then◌else◌, List, [], ◌∷◌, slice_range, Option, None, Some}
use Rattle.std.specs.List.{list_any, reduce}
use Rattle.domain_api.specs.declared.expr.Expr.{Expr}
use Rattle.symbolic_values.specs.Pairing.{Pairing}
use Rattle.array_segments.specs.declared.unifying.Merge.{Merge}
use Rattle.array_segments.specs.declared.unifying.Merge.TheVariants.{Hull, Widening}
use Rattle.array_segments.specs.CommonBounds.{Place, common_bound, first_bound, later_places, origin_place}
use Rattle.array_segments.specs.Growing.{begun, with_more}
use Rattle.array_segments.specs.Meaning.{Segment}
use Rattle.array_segments.specs.SegmentLists.{Lists}
use Rattle.array_segments.specs.Storing.{limited}

-- How a content of each side becomes one.
abbrev pub make_of : {C : Type 0} → Merge → (C → C → C) → (C → C → C) → C → C → C
make_of Hull hull widened = hull
make_of Widening hull widened = widened

-- What both sides have, each by the hull of its segments between two places; where a side has no segment there, what
-- the other one has.
abbrev pub of_both : {C : Type 0} → (C → C → C) → C → Option C → Option C → C
of_both make full (Some a) (Some b) = make a b
of_both make full (Some a) None = a
of_both make full None (Some b) = b
of_both make full None None = full

-- Tells whether one of the segments from one place to another may not be empty.
abbrev pub some_filled : List Bool → ℕ → ℕ → Bool
some_filled marks from to = list_any not (slice_range marks from to)

module _ {C : Type 0} (hull make : C → C → C) (full : C) (pairs : Pairing) (end : Expr) (a b : Lists C) where
  -- The segment between two places, up to the bound. It may not be empty where each side has one there that may not.
  abbrev pub common_segment : Place → ℕ → ℕ → List Expr → Segment C
  common_segment last first second upper = record {
    content = of_both make full (reduce hull (slice_range a.contents last.first first)) (reduce hull (slice_range b.contents last.second second));
    may_be_empty = not (some_filled a.marks last.first first && some_filled b.marks last.second second);
    upper = upper;
  }

  -- The segment up to a bound, and those behind it; or without expressions, those that there are without the bound.
  abbrev pub placed_at : Place → Place → List Expr → List (Segment C) → List (Segment C) → List (Segment C)
  placed_at last place [] without behind = without
  placed_at last place (expr ∷ exprs) without behind = common_segment last place.first place.second (expr ∷ exprs) ∷ behind

  -- The segments between the common bounds among these places, where the last one that was kept is at a place. One is
  -- kept where it does not fall below that in the second side.
  abbrev pub common_segments : Place → List Place → List (Segment C)
  common_segments last [] = []
  common_segments last (place ∷ places) =
      if nat_lt place.second last.second then common_segments last places
      else placed_at last place (common_bound pairs end a b place.first place.second) (common_segments last places) (common_segments place places)

  -- Both sides as one, within the limit.
  abbrev pub unified : Lists C
  unified = limited hull (with_more (begun (first_bound pairs a b)) (common_segments origin_place (later_places a b)))
