-- One more segment, and one more reference, are written.
use Rattle.std.proofs.Common.{◌≡◌, ℕ, zero, suc, true, Result, Ok, Err, OnOk, ◌+◌, ◌<◌, All, Bool, List, [], ◌∷◌, ◌++◌}
use Rattle.std.proofs.Common.{length, map, get_or, drop, refl, sym, ap, ap₂, ◌∙◌}
use Rattle.std.proofs.Common.{append_assoc, add-one, drop-cons, arith}
use Rattle.std.proofs.lemmas.List.{drop-map, length-map}
use Rattle.std.specs.List.{AllByRecursion}
use Rattle.abs_state.specs.StateParts.{AreParts, StateParts}
use Rattle.array_contents.specs.Contents.{AreFormed, Contents, Segments}
use Rattle.domain_api.specs.declared.expr.Expr.{Expr}
use Rattle.frame_names.specs.declared.reference.Reference.{Reference}
use Rattle.interval_domain.specs.Interval.{Interval}
use Rattle.state_facts.specs.Forms.{lengths_of}
use Rattle.invariant_codec.specs.Written.{AreSegmentsOf, IsWritten}
use Rattle.invariant_codec.specs.Spelling.{each_reference_bytes, each_segment_bytes, reference_bytes, segment_bytes}
use Rattle.invariant_codec.specs.Spelling.{segments_bytes}

next_of : {X : Type 0} (xs : List X) (i : ℕ) (x : X) → i < length xs → drop i xs ≡ get_or xs i x ∷ drop (i + 1) xs
next_of xs i x there = rw add-one (drop-cons xs i x there)

next_mapped : {X Y : Type 0} (f : X → Y) (xs : List X) (i : ℕ) (x : X) → i < length xs → x ≡ get_or xs i x
    → drop i (map f xs) ≡ f x ∷ drop (i + 1) (map f xs)
next_mapped f xs i x there is =
    drop-map f i xs ∙ ap (map f) (next_of xs i x there)
    ∙ ap₂ (λ y ys. f y ∷ ys) (sym is) (sym (drop-map f (i + 1) xs))

pub one_segment : {X : Type 0} (exprs_of : X
    → List Expr) (contents : List Interval) (marks : List Bool) (bounds : List X) (i : ℕ)
    (content : Interval) (mark : Bool) (bound : X) (end : List Expr) (before after : List ℕ)
    → i < length contents → length marks ≡ length contents → length (map exprs_of bounds) ≡ length contents + 1
    → content ≡ get_or contents i content → mark ≡ get_or marks i mark → bound ≡ get_or bounds (i + 1) bound → end
    ≡ exprs_of bound
    → after ≡ before ++ segment_bytes content mark end
    → after ++ each_segment_bytes (drop (i + 1) contents) (drop (i + 1) marks) (drop (i + 1 + 1) (map exprs_of bounds))
    ≡ before ++ each_segment_bytes (drop i contents) (drop i marks) (drop (i + 1) (map exprs_of bounds))
one_segment exprs_of contents marks bounds i content mark bound end before after there marked bounded content_is mark_is
    bound_is end_is more =
    let first = next_of contents i content there in
    let second = next_of marks i mark (rw marked there) in
    let in_bounds : i + 1 < length bounds = omega (arith, there, bounded, length-map bounds exprs_of) in
    let third = next_mapped exprs_of bounds (i + 1) bound in_bounds bound_is in
    let rest = each_segment_bytes (drop (i + 1) contents) (drop (i + 1) marks)
    (drop (i + 1 + 1) (map exprs_of bounds)) in
    ap (λ (text : List ℕ). text ++ rest) more
    ∙ append_assoc before (segment_bytes content mark end) rest
    ∙ rw (first, second, third, ← content_is, ← mark_is, end_is)

pub one_reference : {X : Type 0} (segments_of : X → Segments) (references : List Reference) (segments : List X) (i : ℕ)
    (known : Reference) (x : X) (before after : List ℕ)
    → i < length references → length segments ≡ length references → x ≡ get_or segments i x
    → after ≡ before ++ (reference_bytes (get_or references i known) ++ segments_bytes (segments_of x))
    → after ++ each_reference_bytes (drop (i + 1) references) (drop (i + 1) (map segments_of segments))
    ≡ before ++ each_reference_bytes (drop i references) (drop i (map segments_of segments))
one_reference segments_of references segments i known x before after there each x_is more =
    let first = next_of references i known there in
    let second = next_mapped segments_of segments i x (rw each there) x_is in
    let rest = each_reference_bytes (drop (i + 1) references) (drop (i + 1) (map segments_of segments)) in
    ap (λ (text : List ℕ). text ++ rest) more
    ∙ append_assoc before (reference_bytes (get_or references i known) ++ segments_bytes (segments_of x)) rest
    ∙ rw (first, second)

-- ---- what is written has its form

formed_count : (symbols : ℕ) (lengths : List Expr) (contents : Contents) → AreFormed symbols lengths contents
    → length contents ≡ length lengths
formed_count symbols [] [] formed = refl
formed_count symbols [] (s ∷ contents) formed = absurd formed
formed_count symbols (l ∷ lengths) [] formed = absurd formed
formed_count symbols (l ∷ lengths) (s ∷ contents) formed = omega (arith, formed_count symbols lengths contents formed.1)

all_written : (symbols : ℕ) (lengths : List Expr) (contents : Contents) → AreFormed symbols lengths contents
    → AllByRecursion IsWritten contents
all_written symbols [] [] formed = tt
all_written symbols [] (s ∷ contents) formed = absurd formed
all_written symbols (l ∷ lengths) [] formed = absurd formed
all_written symbols (l ∷ lengths) (s ∷ contents) formed =
    (record { form = formed.0.form; narrow = formed.0.narrow }, all_written symbols lengths contents formed.1)

-- Those of a state in which something is reached.
pub segments_written : (parts : StateParts) → AreParts parts → parts.reached ≡ true
    → AreSegmentsOf parts.references parts.contents
segments_written parts are reached =
    let formed = (are.reached reached).form.contents in record {
      each = formed_count (length parts.ranges) (lengths_of parts.references) parts.contents formed
          ∙ length-map parts.references (λ r. r.length);
      written = all_written (length parts.ranges) (lengths_of parts.references) parts.contents formed;
    }

pub each_of_form : {X : Type 0} (f : X → Segments) (xs : List X) → AllByRecursion IsWritten (map f xs)
    → All (λ x. IsWritten (f x)) xs
each_of_form f [] all k d there = absurd (omega (arith, there))
each_of_form f (x ∷ xs) all zero d there = all.0
each_of_form f (x ∷ xs) all (suc k) d there = each_of_form f xs all.1 k d (omega (arith, there))

-- What is written after another part is the whole.
pub put_after : {X E : Type 0} (result : Result X E) (out middle after part rest : List ℕ) → middle ≡ out ++ part
    → OnOk result (after ≡ middle ++ rest)
    → OnOk result (after ≡ out ++ (part ++ rest))
put_after (Ok x) out middle after part rest first more = more ∙ ap (λ (t : List ℕ). t ++ rest) first
    ∙ append_assoc out part rest
put_after (Err e) out middle after part rest first more = tt

-- What is so is so of an answer.
pub held : {X E P : Type 0} (result : Result X E) → P → OnOk result P
held (Ok x) so = so
held (Err e) so = tt
