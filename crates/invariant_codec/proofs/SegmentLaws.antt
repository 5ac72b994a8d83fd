-- References and their segments: what is read is spelled, and what is spelled is read.
use Rattle.std.proofs.Common.{◌≡◌, ℕ, zero, suc, ◌≤◌, Bool, ◌||◌, List, [], ◌∷◌, length, map}
use Rattle.std.proofs.Common.{refl, ap, ◌∙◌, arith}
use Rattle.std.specs.Prelude.{not}
use Rattle.std.proofs.lemmas.List.{length-map}
use Rattle.array_contents.specs.Contents.{Segments}
use Rattle.array_segments.specs.SegmentLists.{zero_expr}
use Rattle.cc_base.specs.LittleEndian.{IsBytes}
use Rattle.cil_model.specs.Places.{place_number}
use Rattle.domain_api.specs.declared.expr.Expr.{Expr}
use Rattle.invariant_codec.specs.Formats.{each, tested}
use Rattle.invariant_codec.specs.Numbers.{byte, expr, flag, is_within, near_expr, number, range}
use Rattle.invariant_codec.specs.Segments.{KnownArray, Segment, array, array_of, array_place, array_place_of_number}
use Rattle.invariant_codec.specs.Segments.{arrays, bound, each_segment, first_bound, first_of, has, is_last, joined}
use Rattle.invariant_codec.specs.Segments.{next_bound, nullness_format, nullness_number, nullness_of_number, segment}
use Rattle.invariant_codec.specs.Segments.{segment_bytes, segment_of, segments, segments_in, segments_of, with_contents}
use Rattle.invariant_codec.proofs.FormatLaws.{IsExact, counted_exact, each_exact, last_exact, listed_exact, part_exact}
use Rattle.invariant_codec.proofs.FormatLaws.{tested_exact}
use Rattle.invariant_codec.proofs.NumberLaws.{byte_exact, expr_exact, flag_exact, near_exact, number_exact, range_exact}
use Rattle.invariant_codec.proofs.NumberLaws.{within}

-- ---- bounds

pub bound_exact : (bytes : List ℕ) (symbols : ℕ) → IsBytes bytes → IsExact bytes (bound symbols)
unfolding bound
bound_exact bytes symbols fits =
    counted_exact bytes (tested (is_within 1 4) byte) (each (expr symbols))
    (tested_exact bytes _ byte (byte_exact bytes fits))
    (λ n. each_exact bytes (expr symbols) n (expr_exact bytes symbols fits)) (λ n xs spelled. spelled.0)

pub first_bound_exact : (bytes : List ℕ) (symbols : ℕ) → IsBytes bytes → IsExact bytes (first_bound symbols)
unfolding first_bound
first_bound_exact bytes symbols fits = tested_exact bytes (has zero_expr) (bound symbols)
    (bound_exact bytes symbols fits)

pub next_bound_exact : (bytes : List ℕ) (symbols : ℕ) (length_is : Expr) (is_last : Bool) → IsBytes bytes
    → IsExact bytes (next_bound symbols length_is is_last)
unfolding next_bound
next_bound_exact bytes symbols length_is is_last fits = tested_exact bytes
    (λ exprs. not is_last || has length_is exprs) (bound symbols) (bound_exact bytes symbols fits)

-- ---- segments

pub segment_exact : (bytes : List ℕ) (symbols : ℕ) (length_is : Expr) (is_last : Bool) → IsBytes bytes
    → IsExact bytes (segment symbols length_is is_last)
unfolding segment
segment_exact bytes symbols length_is is_last fits =
    part_exact bytes (λ s. s.content) range _ (range_exact bytes fits) (λ content.
    part_exact bytes (λ s. s.may_be_empty) flag _ (flag_exact bytes fits) (λ may_be_empty.
    last_exact bytes (λ s. s.end) (segment_of content may_be_empty) (next_bound symbols length_is is_last)
    (next_bound_exact bytes symbols length_is is_last fits) (λ e _. refl))
    (λ may_be_empty s _ spelled. ap (λ (s : Segment). s.may_be_empty) spelled.1))
    (λ content s _ spelled. ap (λ (s : Segment). s.content) spelled.1.1)

-- Whether it is the last does not change the spelling.
same_spelling : (symbols : ℕ) (length_is : Expr) (is_last : Bool) (s : Segment)
    → (segment symbols length_is is_last).spell s ≡ segment_bytes symbols length_is s
unfolding segment next_bound
same_spelling symbols length_is is_last s = refl

each_segment_exact : (bytes : List ℕ) (symbols : ℕ) (length_is : Expr) (count : ℕ) → IsBytes bytes
    → IsExact bytes (each_segment symbols length_is count)
each_segment_exact bytes symbols length_is count fits =
    listed_exact bytes (λ before. segment symbols length_is (is_last count before))
    (segment_bytes symbols length_is) count
    (λ before. segment_exact bytes symbols length_is (is_last count before) fits)
    (λ before s. same_spelling symbols length_is (is_last count before) s)

pub joined_again : (segments : List Segment)
    → joined (map (λ s. s.content) segments) (map (λ s. s.may_be_empty) segments) (map (λ s. s.end) segments) ≡ segments
joined_again [] = refl
joined_again (s ∷ segments) = ap (λ (others : List Segment). s ∷ others) (joined_again segments)

length-segments : (first : List Expr) (count : ℕ) (all : Segments) → length (segments_in all) ≡ count
    → all ≡ segments_of first (segments_in all) → length all.contents ≡ count
length-segments first count all size is = ap (λ (all : Segments). length all.contents) is
    ∙ length-map (segments_in all) (λ s. s.content) ∙ size

pub segments_exact : (bytes : List ℕ) (symbols : ℕ) (length_is : Expr) → IsBytes bytes
    → IsExact bytes (segments symbols length_is)
unfolding segments
segments_exact bytes symbols length_is fits =
    part_exact bytes (λ lists. length lists.contents) (tested (is_within 1 12) byte) _
    (tested_exact bytes _ byte (byte_exact bytes fits)) (λ count.
    part_exact bytes (λ lists. first_of lists.bounds) (first_bound symbols) _ (first_bound_exact bytes symbols fits)
    (λ first.
    last_exact bytes segments_in (segments_of first) (each_segment symbols length_is count)
    (each_segment_exact bytes symbols length_is count fits) (λ all _. joined_again all))
    (λ first all _ spelled. ap (λ (all : Segments). first_of all.bounds) spelled.1))
    (λ count all _ spelled. length-segments (first_of all.bounds) count all spelled.1.0.0 spelled.1.1)

-- ---- references

nullness_back : (n : ℕ) → n ≤ 2 → nullness_number (nullness_of_number n) ≡ n
nullness_back zero small = refl
nullness_back (suc zero) small = refl
nullness_back (suc (suc zero)) small = refl
nullness_back (suc (suc (suc n))) small = absurd (omega (arith, small))

nullness_exact : (bytes : List ℕ) → IsBytes bytes → IsExact bytes nullness_format
unfolding nullness_format
nullness_exact bytes fits =
    last_exact bytes nullness_number nullness_of_number (tested (is_within 0 2) byte)
    (tested_exact bytes (is_within 0 2) byte (byte_exact bytes fits))
    (λ n spelled. nullness_back n (within 0 2 n spelled.1).1)

place_back : (n : ℕ) → 3 ≤ n → n ≤ 4 → place_number (array_place_of_number n) ≡ n
place_back zero least most = absurd (omega (arith, least))
place_back (suc zero) least most = absurd (omega (arith, least))
place_back (suc (suc zero)) least most = absurd (omega (arith, least))
place_back (suc (suc (suc zero))) least most = refl
place_back (suc (suc (suc (suc zero)))) least most = refl
place_back (suc (suc (suc (suc (suc n))))) least most = absurd (omega (arith, most))

place_exact : (bytes : List ℕ) → IsBytes bytes → IsExact bytes array_place
unfolding array_place
place_exact bytes fits =
    last_exact bytes place_number array_place_of_number (tested (is_within 3 4) byte)
    (tested_exact bytes (is_within 3 4) byte (byte_exact bytes fits))
    (λ n spelled. let is = within 3 4 n spelled.1 in place_back n is.0 is.1)

pub array_exact : (bytes : List ℕ) (symbols : ℕ) → IsBytes bytes → IsExact bytes (array symbols)
unfolding array
array_exact bytes symbols fits =
    part_exact bytes (λ a. a.reference.place) array_place _ (place_exact bytes fits) (λ place.
    part_exact bytes (λ a. a.reference.nullness) nullness_format _ (nullness_exact bytes fits) (λ nullness.
    part_exact bytes (λ a. a.reference.length) (near_expr symbols) _ (near_exact bytes symbols fits) (λ length_is.
    last_exact bytes (λ a. a.segments) (array_of place nullness length_is) (segments symbols length_is)
    (segments_exact bytes symbols length_is fits) (λ all _. refl))
    (λ length_is a _ spelled. ap (λ (a : KnownArray). a.reference.length) spelled.1))
    (λ nullness a _ spelled. ap (λ (a : KnownArray). a.reference.nullness) spelled.1.1))
    (λ place a _ spelled. ap (λ (a : KnownArray). a.reference.place) spelled.1.1.1)

pub arrays_exact : (bytes : List ℕ) (symbols : ℕ) → IsBytes bytes → IsExact bytes (arrays symbols)
unfolding arrays
arrays_exact bytes symbols fits =
    counted_exact bytes (number 2) (each (array symbols)) (number_exact bytes 2 fits (omega arith))
    (λ n. each_exact bytes (array symbols) n (array_exact bytes symbols fits)) (λ n xs spelled. spelled.0)

-- References and their segments in lists of their own are the same again.
pub contents_again : (arrays : List KnownArray)
    → with_contents (map (λ a. a.reference) arrays) (map (λ a. a.segments) arrays) ≡ arrays
contents_again [] = refl
contents_again (a ∷ arrays) = ap (λ (others : List KnownArray). a ∷ others) (contents_again arrays)
