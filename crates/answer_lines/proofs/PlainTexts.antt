-- Texts without a line feed.
use Rattle.std.proofs.Common.{◌≡◌, ℕ, zero, suc, ◌+◌, ◌/◌, ◌%◌, ◌<◌, ◌≤◌, ◌==◌, ℤ, pos, negsuc, Bool, true, false, List, [], ◌∷◌, ◌++◌, Option, Some, None, if◌then◌else◌, slice_get, refl, codes, arith}
use Rattle.std.specs.Fmt.{decimal, digit_glyph, digits, digits_onto, signed_decimal}
use Rattle.std.specs.List.{AllByRecursion, flat_map}
use Rattle.std.specs.Option.{option_and_then}
use Rattle.std.proofs.lemmas.Bool.{cond_both, lt-ltb}
use Rattle.cil_model.specs.Places.{next_parameter, parameters_text, place_text}
use Rattle.cil_model.specs.WellFormed.{IsCallee}
use Rattle.cil_model.specs.declared.machine.FaultKind.{FaultKind}
use Rattle.cil_model.specs.declared.machine.FaultKind.TheVariants as faults
use Rattle.cil_model.specs.declared.place.Place.{Place}
use Rattle.cil_model.specs.declared.place.Place.TheVariants as places
use Rattle.cil_model.specs.declared.unit.CalleeInfo.{CalleeInfo}
use Rattle.answer_lines.specs.FaultKinds.{callee_text, kind_text}
use Rattle.answer_lines.specs.LineCounts.{line_count}
use Rattle.answer_lines.specs.Lines.{proved_text}
use Rattle.answer_lines.specs.Signatures.{signature_text}
use Rattle.answer_lines.proofs.LineLemmas.{none_behind, none_in_byte}

-- ---- texts that are made of others

-- The texts of items, one after another.
pub none_in_each : {X : Type 0} (f : X → List ℕ) (xs : List X) → ((x : X) → line_count (f x) ≡ 0) → line_count (flat_map f xs) ≡ 0
unfolding line_count
none_in_each f [] none = refl
none_in_each f (x ∷ xs) none = none_behind (f x) (flat_map f xs) (none x) (none_in_each f xs none)

-- Either of two texts.
pub none_in_either : (test : Bool) (a b : List ℕ) → line_count a ≡ 0 → line_count b ≡ 0 → line_count (if test then a else b) ≡ 0
none_in_either true a b none other = none
none_in_either false a b none other = other

-- A name of graphic bytes.
pub none_in_graphic : (name : List ℕ) → AllByRecursion (λ b. (0x21 ≤ b) × (b ≤ 0x7e)) name → line_count name ≡ 0
unfolding line_count
none_in_graphic [] all = refl
none_in_graphic (b ∷ name) all = none_behind (b ∷ []) name (none_in_byte b (λ same. omega (arith, same, all.0.0))) (none_in_graphic name all.1)

-- ---- numbers

none_in_glyph : (d : ℕ) → d < 10 → line_count (digit_glyph false d ∷ []) ≡ 0
none_in_glyph d small = rw (lt-ltb d 10 small) (none_in_byte (48 + d) (λ same. omega (arith, same)))

none_in_digits : (count n : ℕ) (behind : List ℕ) → line_count behind ≡ 0 → line_count (digits_onto count 10 false n behind) ≡ 0
none_in_digits zero n behind none = none
none_in_digits (suc count) n behind none =
    let more = none_behind (digit_glyph false (n % 10) ∷ []) behind (none_in_glyph (n % 10) (omega arith)) none in
    cond_both (n / 10 == 0) (digit_glyph false (n % 10) ∷ behind)
    (digits_onto count 10 false (n / 10) (digit_glyph false (n % 10) ∷ behind)) (λ (text : List ℕ). line_count text ≡ 0) (λ last. more)
    (λ others. none_in_digits count (n / 10) (digit_glyph false (n % 10) ∷ behind) more)

pub none_in_number : (n : ℕ) → line_count (decimal n) ≡ 0
unfolding digits line_count
none_in_number n = none_in_digits 64 n [] refl

pub none_in_signed : (k : ℤ) → line_count (signed_decimal k) ≡ 0
unfolding line_count
none_in_signed (pos n) = none_in_number n
none_in_signed (negsuc n) = none_behind (codes "-") (decimal (suc n)) refl (none_in_number (suc n))

-- ---- methods

pub none_in_place : (place : Place) → line_count (place_text place) ≡ 0
unfolding line_count
none_in_place places.Void = refl
none_in_place places.Bool = refl
none_in_place places.Int = refl
none_in_place places.Bools = refl
none_in_place places.Ints = refl

pub none_in_parameters : (all : List Place) → line_count (parameters_text all) ≡ 0
unfolding line_count
none_in_parameters [] = refl
none_in_parameters (place ∷ others) =
    none_behind (place_text place) (flat_map next_parameter others) (none_in_place place)
    (none_in_each next_parameter others (λ p. none_behind (codes ",") (place_text p) refl (none_in_place p)))

-- A name with these types.
pub none_in_typed : (name : List ℕ) (types : List Place) → line_count name ≡ 0 → line_count (name ++ codes "(" ++ parameters_text types ++ codes ")") ≡ 0
unfolding line_count
none_in_typed name types none =
    none_behind (name ++ codes "(" ++ parameters_text types) (codes ")")
    (none_behind (name ++ codes "(") (parameters_text types) (none_behind name (codes "(") none refl) (none_in_parameters types)) refl

pub none_in_signature : (name : List ℕ) (types : List Place) → line_count name ≡ 0 → line_count (signature_text name types) ≡ 0
unfolding signature_text
none_in_signature name types none = none_in_typed name types none

-- What is told of one of these callees.
pub none_in_callee : (callees : List CalleeInfo) (number : Option ℕ) → AllByRecursion IsCallee callees → line_count (callee_text (option_and_then (slice_get callees) number)) ≡ 0
unfolding line_count
none_in_callee callees None are = refl
none_in_callee callees (Some number) are = at callees number are
  where
    at : (callees : List CalleeInfo) (number : ℕ) → AllByRecursion IsCallee callees → line_count (callee_text (slice_get callees number)) ≡ 0
    at [] number are = refl
    at (callee ∷ callees) zero are = none_in_signature callee.name callee.args (none_in_graphic callee.name are.0.name.graphic)
    at (callee ∷ callees) (suc number) are = at callees number are.1

-- ---- verdicts and faults

pub none_in_verdict : (proved : Bool) → line_count (proved_text proved) ≡ 0
unfolding line_count
none_in_verdict true = refl
none_in_verdict false = refl

pub none_in_kind : (callee : Option CalleeInfo) (kind : FaultKind) → line_count (callee_text callee) ≡ 0 → line_count (kind_text callee kind) ≡ 0
unfolding line_count
none_in_kind callee (faults.Requires k) none =
    none_behind (codes "requires " ++ decimal k ++ codes " of ") (callee_text callee)
    (none_behind (codes "requires " ++ decimal k) (codes " of ") (none_behind (codes "requires ") (decimal k) refl (none_in_number k)) refl) none
none_in_kind callee (faults.Ensures k) none = none_behind (codes "ensures ") (decimal k) refl (none_in_number k)
none_in_kind callee faults.Assert none = refl
none_in_kind callee faults.NullUse none = refl
none_in_kind callee faults.Lower none = refl
none_in_kind callee faults.Upper none = refl
none_in_kind callee faults.DivZero none = refl
none_in_kind callee faults.DivOverflow none = refl
none_in_kind callee faults.Overflow none = refl
none_in_kind callee faults.Shift none = refl
none_in_kind callee faults.ArraySize none = refl
