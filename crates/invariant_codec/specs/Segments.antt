-- References and their segments.
use Rattle.std.specs.Prelude.{ℕ, suc, ◌==◌, Bool, false, not, ◌||◌, List, [], ◌∷◌, ◌++◌, length, map}
use Rattle.std.specs.Prelude.{if◌then◌else◌}
use Rattle.std.specs.List.{list_any}
use Rattle.alias_facts.specs.declared.nullness.Nullness.{Nullness}
use Rattle.alias_facts.specs.declared.nullness.Nullness.TheVariants as nullness
use Rattle.array_contents.specs.Contents.{Contents, Segments}
use Rattle.array_segments.specs.CommonBounds.{same_expr}
use Rattle.array_segments.specs.SegmentLists.{zero_expr}
use Rattle.cil_model.specs.Places.{place_number}
use Rattle.cil_model.specs.declared.place.Place.{Place}
use Rattle.cil_model.specs.declared.place.Place.TheVariants as places
use Rattle.domain_api.specs.declared.expr.Expr.{Expr}
use Rattle.frame_names.specs.declared.reference.Reference.{Reference}
use Rattle.interval_domain.specs.Interval.{Interval}
use Rattle.invariant_codec.specs.Formats.{Format, each, last_part, listed, part, tested}
use Rattle.invariant_codec.specs.Numbers.{byte, expr, flag, is_within, near_expr, number, range}

-- ---- bounds

-- The expressions at a bound, 1 to 4, after their count.
unfoldable pub bound : ℕ → Format (List Expr)
bound symbols = part length (tested (is_within 1 4) byte) (each (expr symbols))

abbrev pub has : Expr → List Expr → Bool
has expr exprs = list_any (same_expr expr) exprs

-- The first bound, which has 0.
unfoldable pub first_bound : ℕ → Format (List Expr)
first_bound symbols = tested (has zero_expr) (bound symbols)

-- A bound, which has the length where it is the last.
unfoldable pub next_bound : ℕ → Expr → Bool → Format (List Expr)
next_bound symbols length_is is_last = tested (λ exprs. not is_last || has length_is exprs) (bound symbols)

-- ---- segments

-- A segment: what its items are in, whether it may be empty, and the bound where it ends.
pub record Segment : Type 0 where
  pub content : Interval
  pub may_be_empty : Bool
  pub end : List Expr

abbrev pub segment_of : Interval → Bool → List Expr → Segment
segment_of content may_be_empty end = record { content = content; may_be_empty = may_be_empty; end = end }

unfoldable pub segment : ℕ → Expr → Bool → Format Segment
segment symbols length_is is_last =
    part (λ s. s.content) range (λ content.
    part (λ s. s.may_be_empty) flag (λ may_be_empty.
    last_part (λ s. s.end) (segment_of content may_be_empty) (next_bound symbols length_is is_last)))

-- The segment after these is the last of so many.
abbrev pub is_last : ℕ → List Segment → Bool
is_last count before = suc (length before) == count

abbrev pub segment_bytes : ℕ → Expr → Segment → List ℕ
segment_bytes symbols length_is = (segment symbols length_is false).spell

-- The segment after these, of so many.
abbrev pub next_segment : ℕ → Expr → ℕ → List Segment → Format Segment
next_segment symbols length_is count before = segment symbols length_is (is_last count before)

-- So many segments.
abbrev pub each_segment : ℕ → Expr → ℕ → Format (List Segment)
each_segment symbols length_is count =
    listed (next_segment symbols length_is count) (segment_bytes symbols length_is) count

-- ---- segments as lists

abbrev pub segments_of : List Expr → List Segment → Segments
segments_of first segments = record {
  bounds = first ∷ map (λ s. s.end) segments;
  contents = map (λ s. s.content) segments;
  marks = map (λ s. s.may_be_empty) segments;
}

-- The segments with one more.
abbrev pub with_segment : Segments → Segment → Segments
with_segment lists s = record {
  bounds = lists.bounds ++ s.end ∷ [];
  contents = lists.contents ++ s.content ∷ [];
  marks = lists.marks ++ s.may_be_empty ∷ [];
}

-- The first bound of some, and those after it.
abbrev pub first_of : List (List Expr) → List Expr
first_of [] = []
first_of (first ∷ ends) = first

abbrev pub first_of_bounds : Segments → List Expr
first_of_bounds lists = first_of lists.bounds

abbrev pub after_first : List (List Expr) → List (List Expr)
after_first [] = []
after_first (first ∷ ends) = ends

-- The segments of lists of which each has one for each segment.
abbrev pub joined : List Interval → List Bool → List (List Expr) → List Segment
joined (content ∷ contents) (mark ∷ marks) (end ∷ ends) = segment_of content mark end ∷ joined contents marks ends
joined _ _ _ = []

abbrev pub segments_in : Segments → List Segment
segments_in lists = joined lists.contents lists.marks (after_first lists.bounds)

-- The segments of an array of this length, 1 to 12, after their count: the first bound, and then each segment.
unfoldable pub segments : ℕ → Expr → Format Segments
segments symbols length_is =
    part (λ lists. length lists.contents) (tested (is_within 1 12) byte) (λ count.
    part (λ lists. first_of lists.bounds) (first_bound symbols) (λ first.
    last_part segments_in (segments_of first) (each_segment symbols length_is count)))

-- ---- references

abbrev pub nullness_number : Nullness → ℕ
nullness_number nullness.May = 0
nullness_number nullness.NotNull = 1
nullness_number nullness.Null = 2

abbrev pub nullness_of_number : ℕ → Nullness
nullness_of_number n = if n == 0 then nullness.May else if n == 1 then nullness.NotNull else nullness.Null

unfoldable pub nullness_format : Format Nullness
nullness_format = last_part nullness_number nullness_of_number (tested (is_within 0 2) byte)

abbrev pub array_place_of_number : ℕ → Place
array_place_of_number n = if n == 3 then places.Bools else places.Ints

unfoldable pub array_place : Format Place
array_place = last_part place_number array_place_of_number (tested (is_within 3 4) byte)

-- What is known of a reference, and of its items.
pub record KnownArray : Type 0 where
  pub reference : Reference
  pub segments : Segments

abbrev pub reference_of : Place → Nullness → Expr → Reference
reference_of place nullness length_is = record { place = place; nullness = nullness; length = length_is }

abbrev pub array_of : Place → Nullness → Expr → Segments → KnownArray
array_of place nullness length_is segments = record {
  reference = reference_of place nullness length_is;
  segments = segments;
}

unfoldable pub array : ℕ → Format KnownArray
array symbols =
    part (λ a. a.reference.place) array_place (λ place.
    part (λ a. a.reference.nullness) nullness_format (λ nullness.
    part (λ a. a.reference.length) (near_expr symbols) (λ length_is.
    last_part (λ a. a.segments) (array_of place nullness length_is) (segments symbols length_is))))

-- References with their segments, after their count.
unfoldable pub arrays : ℕ → Format (List KnownArray)
arrays symbols = part length (number 2) (each (array symbols))

-- References and, in a list of their own, their segments.
abbrev pub with_contents : List Reference → Contents → List KnownArray
with_contents (r ∷ references) (segments ∷ contents) =
    record { reference = r; segments = segments } ∷ with_contents references contents
with_contents _ _ = []

pub record Arrays : Type 0 where
  pub references : List Reference
  pub contents : Contents

abbrev pub arrays_of : Arrays → List KnownArray
arrays_of arrays = with_contents arrays.references arrays.contents

abbrev pub in_lists : List KnownArray → Arrays
in_lists arrays = record { references = map (λ a. a.reference) arrays; contents = map (λ a. a.segments) arrays }

-- The references with one more.
abbrev pub with_array : Arrays → KnownArray → Arrays
with_array arrays a = record {
  references = arrays.references ++ a.reference ∷ [];
  contents = arrays.contents ++ a.segments ∷ [];
}
