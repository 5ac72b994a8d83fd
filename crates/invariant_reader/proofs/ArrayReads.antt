-- The line of a reference is read back.
use Rattle.std.proofs.Common.{◌≡◌, ℕ, zero, suc, ◌<◌, ◌^◌, List, [], ◌∷◌, ◌++◌, Option, Some, None, refl, sym, ap, ◌∙◌}
use Rattle.std.proofs.Common.{codes, arith}
use Rattle.std.specs.Fmt.{decimal}
use Rattle.alias_facts.specs.declared.nullness.Nullness.{Nullness}
use Rattle.alias_facts.specs.declared.nullness.Nullness.TheVariants as nullness
use Rattle.array_contents.specs.Contents.{Segments}
use Rattle.cil_model.specs.Places.{place_text}
use Rattle.cil_model.specs.declared.place.Place.{Place}
use Rattle.cil_model.specs.declared.place.Place.TheVariants as places
use Rattle.domain_api.specs.declared.expr.Expr.{Expr}
use Rattle.frame_names.specs.declared.reference.Reference.{Reference}
use Rattle.state_facts.specs.Forms.{IsArrayPlace}
use Rattle.invariant_text.specs.NumberTexts.{expr_text}
use Rattle.invariant_text.specs.ReferenceLines.{nullness_text, segments_text}
use Rattle.invariant_text.specs.VariableLines.{reference_text}
use Rattle.invariant_text.proofs.DefReading.{other_text}
use Rattle.invariant_text.proofs.LineReading.{known_parts, segments_end, told_of}
use Rattle.invariant_text.proofs.NumberReading.{behind_digits, number_behind}
use Rattle.invariant_text.proofs.Sections.{known_line}
use Rattle.invariant_reader.specs.ArrayReaders.{read_nullness, read_place, read_reference_part}
use Rattle.invariant_reader.specs.CodeLines.{IsCodeSegments, IsKnownLine, Known}
use Rattle.invariant_reader.specs.Prefixes.{and_then, behind}
use Rattle.invariant_reader.specs.ReadsBack.{AnyEnd, ReadsBack}
use Rattle.invariant_reader.specs.SegmentReaders.{EndsSegments}
use Rattle.invariant_reader.specs.Expressions.{read_expr}
use Rattle.invariant_reader.proofs.ExprReads.{expr_reads}
use Rattle.invariant_reader.proofs.Repeats.{none_some, pair, read_of}

place_back : (p : Place) (r : List ℕ) → IsArrayPlace p → read_place (place_text p ++ r) ≡ Some (p, r)
unfolding read_place
place_back places.Void r is = absurd is
place_back places.Bool r is = absurd is
place_back places.Int r is = absurd is
place_back places.Bools r is = refl
place_back places.Ints r is = refl

nullness_back : (n : Nullness) (r : List ℕ) → read_nullness (nullness_text n ++ r) ≡ Some (n, r)
unfolding read_nullness
nullness_back nullness.May r = refl
nullness_back nullness.NotNull r = refl
nullness_back nullness.Null r = refl

-- Behind the digits of its number.
part_back : (n : ℕ) (known : Known) (r : List ℕ) → 0 < n → n < 2 ^ 64
    → and_then (behind (codes "    r") (known_line n known ++ r)) (λ named. Some (behind_digits named))
    ≡ Some (told_of known r)
part_back zero known r some fits = absurd (omega (arith, some))
part_back (suc n) known r some fits =
    rw (known_parts (suc n) known r, other_text n, number_behind (suc n) (told_of known r) fits refl) refl

-- What is read behind the name.
abbrev read_told : List ℕ → Option (Reference × List ℕ)
read_told told =
    and_then (behind (codes " ") told) (λ typed.
    and_then (read_place typed) (λ place.
    and_then (behind (codes " ") place.1) (λ marked.
    and_then (read_nullness marked) (λ nullness.
    and_then (behind (codes " length ") nullness.1) (λ sized.
    and_then (read_expr sized) (λ size.
    Some (record { place = place.0; nullness = nullness.0; length = size.0 }, size.1)))))))

told_back : (known : Known) (r : List ℕ) → IsKnownLine 1 known → read_told (told_of known r) ≡ Some (known.0, segments_text known.1 ++ 10 ∷ r)
told_back known r is =
    let rest = segments_text known.1 ++ 10 ∷ r in
    let sized = expr_text known.0.length ++ rest in
    let marked = nullness_text known.0.nullness ++ (codes " length " ++ sized) in
    rw (
      place_back known.0.place (32 ∷ marked) is.2.reference.place,
      nullness_back known.0.nullness (codes " length " ++ sized),
      expr_reads known.0.length rest is.2.reference.length_is (segments_end known.1 (10 ∷ r)),
    ) refl

in_two : (text : List ℕ) → read_reference_part text
    ≡ and_then (and_then (behind (codes "    r") text) (λ named. Some (behind_digits named))) read_told
unfolding read_reference_part
in_two text = by (behind (codes "    r") text)
  where
    by : (o : Option (List ℕ)) → and_then o (λ named. read_told (behind_digits named))
        ≡ and_then (and_then o (λ named. Some (behind_digits named))) read_told
    by None = refl
    by (Some named) = refl

pub known_back : (n : ℕ) (known : Known) (r : List ℕ) → IsKnownLine n known
    → read_reference_part (known_line n known ++ r) ≡ Some (known.0, segments_text known.1 ++ 10 ∷ r)
known_back n known r is =
    in_two (known_line n known ++ r)
    ∙ ap (λ (o : Option (List ℕ)). and_then o read_told) (part_back n known r is.0 is.1)
    ∙ told_back known r (omega arith, omega arith, is.2)

-- ---- the whole line

pub reference_missed : (text : List ℕ) → None ≡ read_reference_part text
    → (n : ℕ) → ReadsBack (known_line n) (IsKnownLine n) AnyEnd text None
reference_missed text none n known r is ends same =
    absurd (none_some (none ∙ ap read_reference_part same ∙ known_back n known r is))

segments_of : (text : List ℕ) (reference : Reference) (left : List ℕ) (read : Option (Segments × List ℕ))
    → Some (pair reference left) ≡ read_reference_part text
    → ReadsBack segments_text IsCodeSegments EndsSegments left read
    → (n : ℕ) (known : Known) (r : List ℕ) → IsKnownLine n known → text ≡ known_line n known ++ r
    → (reference ≡ known.0) × (read ≡ Some (known.1, 10 ∷ r))
segments_of text reference left read begun reads n known r is same =
    let both = read_of (begun ∙ ap read_reference_part same ∙ known_back n known r is) in (
      ap (λ (p : Reference × List ℕ). p.0) both,
      reads known.1 (10 ∷ r) is.2.segments refl (ap (λ (p : Reference × List ℕ). p.1) both),
    )

pub segments_missed : (text : List ℕ) (reference : Reference) (left : List ℕ) (read : Option (Segments × List ℕ))
    → Some (pair reference left) ≡ read_reference_part text
    → ReadsBack segments_text IsCodeSegments EndsSegments left read → None ≡ read
    → (n : ℕ) → ReadsBack (known_line n) (IsKnownLine n) AnyEnd text None
segments_missed text reference left read begun reads none n known r is ends same =
    absurd (none_some (none ∙ (segments_of text reference left read begun reads n known r is same).1))

pub line_unended : (text : List ℕ) (reference : Reference) (left : List ℕ) (read : Option (Segments × List ℕ))
    (segments : Segments) (next : List ℕ) → Some (pair reference left) ≡ read_reference_part text
    → ReadsBack segments_text IsCodeSegments EndsSegments left read → Some (pair segments next) ≡ read
    → None ≡ behind (codes "\n") next → (n : ℕ) → ReadsBack (known_line n) (IsKnownLine n) AnyEnd text None
line_unended text reference left read segments next begun reads some none n known r is ends same =
    let both = read_of (some ∙ (segments_of text reference left read begun reads n known r is same).1) in
    absurd (none_some (none ∙ ap (λ (p : Segments × List ℕ). behind (codes "\n") p.1) both))

abbrev pub known : Reference → Segments → Known
known reference segments = (reference, segments)

pub line_read : (text : List ℕ) (reference : Reference) (left : List ℕ) (read : Option (Segments × List ℕ))
    (segments : Segments) (next last : List ℕ) → Some (pair reference left) ≡ read_reference_part text
    → ReadsBack segments_text IsCodeSegments EndsSegments left read → Some (pair segments next) ≡ read
    → Some last ≡ behind (codes "\n") next
    → (n : ℕ) → ReadsBack (known_line n) (IsKnownLine n) AnyEnd text (Some (pair (known reference segments) last))
line_read text reference left read segments next last begun reads some ended n k r is ends same =
    let parts = segments_of text reference left read begun reads n k r is same in
    let both = read_of (some ∙ parts.1) in
    let rest : last ≡ r = read_of (ended ∙ ap (λ (p : Segments × List ℕ). behind (codes "\n") p.1) both) in
    (λ i. Some (pair (known (parts.0 i) (both i).0) (rest i)))
