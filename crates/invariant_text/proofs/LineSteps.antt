-- One more segment, and the line of one more reference.
use Rattle.std.proofs.Common.{◌≡◌, ℕ, ◌+◌, ◌<◌, Bool, List, ◌∷◌, ◌++◌, length, map, get_or, drop, sym, ap, ap₂, ◌∙◌}
use Rattle.std.proofs.Common.{append_assoc, add-one, drop-cons, arith}
use Rattle.std.proofs.lemmas.List.{drop-map, length-map}
use Rattle.array_contents.specs.Contents.{Segments}
use Rattle.domain_api.specs.declared.expr.Expr.{Expr}
use Rattle.frame_names.specs.declared.reference.Reference.{Reference}
use Rattle.interval_domain.specs.Interval.{Interval}
use Rattle.invariant_text.specs.ReferenceLines.{each_segment, reference_line, reference_lines, segment_text}

next_of : {X : Type 0} (xs : List X) (i : ℕ) (x : X) → i < length xs → drop i xs ≡ get_or xs i x ∷ drop (i + 1) xs
next_of xs i x there = rw add-one (drop-cons xs i x there)

next_mapped : {X Y : Type 0} (f : X → Y) (xs : List X) (i : ℕ) (x : X) → i < length xs → x ≡ get_or xs i x
    → drop i (map f xs) ≡ f x ∷ drop (i + 1) (map f xs)
next_mapped f xs i x there is =
    drop-map f i xs ∙ ap (map f) (next_of xs i x there)
    ∙ ap₂ (λ y ys. f y ∷ ys) (sym is) (sym (drop-map f (i + 1) xs))

pub one_segment : {X : Type 0} (exprs_of : X
    → List Expr) (contents : List Interval) (marks : List Bool) (bounds : List X) (i : ℕ)
    (content : Interval) (mark : Bool) (bound : X) (end : List Expr) (before after : List ℕ)
    → i < length contents → length marks ≡ length contents → length (map exprs_of bounds) ≡ length contents + 1
    → content ≡ get_or contents i content → mark ≡ get_or marks i mark → bound ≡ get_or bounds (i + 1) bound → end
    ≡ exprs_of bound
    → after ≡ before ++ segment_text content mark end
    → after ++ each_segment (drop (i + 1) contents) (drop (i + 1) marks) (drop (i + 1 + 1) (map exprs_of bounds))
    ≡ before ++ each_segment (drop i contents) (drop i marks) (drop (i + 1) (map exprs_of bounds))
one_segment exprs_of contents marks bounds i content mark bound end before after there marked bounded content_is mark_is
    bound_is end_is more =
    let first = next_of contents i content there in
    let second = next_of marks i mark (rw marked there) in
    let in_bounds : i + 1 < length bounds = omega (arith, there, bounded, length-map bounds exprs_of) in
    let third = next_mapped exprs_of bounds (i + 1) bound in_bounds bound_is in
    let rest = each_segment (drop (i + 1) contents) (drop (i + 1) marks) (drop (i + 1 + 1) (map exprs_of bounds)) in
    ap (λ (text : List ℕ). text ++ rest) more
    ∙ append_assoc before (segment_text content mark end) rest
    ∙ rw (first, second, third, ← content_is, ← mark_is, end_is)

pub one_reference : {X : Type 0} (segments_of : X → Segments) (references : List Reference) (segments : List X) (i : ℕ)
    (known : Reference) (x : X) (before after : List ℕ)
    → i < length references → length segments ≡ length references → x ≡ get_or segments i x
    → after ≡ before ++ reference_line (i + 1) (get_or references i known) (segments_of x)
    → after ++ reference_lines (i + 1 + 1) (drop (i + 1) references) (drop (i + 1) (map segments_of segments))
    ≡ before ++ reference_lines (i + 1) (drop i references) (drop i (map segments_of segments))
one_reference segments_of references segments i known x before after there each x_is more =
    let first = next_of references i known there in
    let second = next_mapped segments_of segments i x (rw each there) x_is in
    let rest = reference_lines (i + 1 + 1) (drop (i + 1) references) (drop (i + 1) (map segments_of segments)) in
    ap (λ (text : List ℕ). text ++ rest) more
    ∙ append_assoc before (reference_line (i + 1) (get_or references i known) (segments_of x)) rest
    ∙ rw (first, second)
