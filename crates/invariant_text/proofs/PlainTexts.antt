-- Texts without a line feed.
use Rattle.std.proofs.Common.{◌≡◌, ℕ, zero, suc, ◌+◌, ◌/◌, ◌%◌, ◌<◌, ◌≤◌, ◌==◌, ℤ, Bool, true, false, not, ◌&&◌, List, [], ◌∷◌, ◌++◌, if◌then◌else◌, refl, inl, inr, codes, arith}
use Rattle.std.specs.List.{AllByRecursion, flat_map, list_all}
use Rattle.std.specs.Fmt.{decimal, digit_glyph, digits, digits_onto, signed_decimal}
use Rattle.std.proofs.lemmas.Bool.{and_parts, cond_both, cases_lt, le-ltb, lt-ltb, ne_eqb}
use Rattle.cc_base.specs.Digits.{hex, hex_digit}
use Rattle.cil_model.specs.Places.{place_text}
use Rattle.cil_model.specs.declared.place.Place.{Place}
use Rattle.cil_model.specs.declared.place.Place.TheVariants as places
use Rattle.il_decoder.specs.Labels.{label, label_digits}

-- No byte of the text is a line feed.
abbrev pub has_no_feed : List ℕ → Bool
has_no_feed text = list_all (λ b. not (b == 10)) text

abbrev pub NoFeed : List ℕ → Type 0
NoFeed text = has_no_feed text ≡ true

pub no_feed_behind : (a b : List ℕ) → NoFeed a → NoFeed b → NoFeed (a ++ b)
no_feed_behind [] b none other = other
no_feed_behind (c ∷ a) b none other =
    let both = and_parts (not (c == 10)) (has_no_feed a) none in
    rw (both.0, no_feed_behind a b both.1 other) refl

pub no_feed_in : {X : Type 0} (f : X → List ℕ) (xs : List X) → ((x : X) → NoFeed (f x)) → NoFeed (flat_map f xs)
no_feed_in f [] none = refl
no_feed_in f (x ∷ xs) none = no_feed_behind (f x) (flat_map f xs) (none x) (no_feed_in f xs none)

pub no_feed_byte : (b : ℕ) → 10 < b → NoFeed (b ∷ [])
no_feed_byte b above = rw (ne_eqb b 10 (λ same. omega (arith, above, same))) refl

-- Either of two texts.
pub no_feed_either : (test : Bool) (a b : List ℕ) → NoFeed a → NoFeed b → NoFeed (if test then a else b)
no_feed_either true a b none other = none
no_feed_either false a b none other = other

digit_is_no_feed : (n : ℕ) → NoFeed (hex_digit n ∷ [])
digit_is_no_feed n =
    elim (cases_lt n 10) [
      | inl less ↦ rw (lt-ltb n 10 less) (no_feed_byte (48 + n) (omega arith))
      | inr not_less ↦ rw (le-ltb n 10 not_less) (no_feed_byte (87 + n) (omega arith))
    ]

pub hex_no_feed : (digits n : ℕ) → NoFeed (hex digits n)
unfolding hex
hex_no_feed zero n = refl
hex_no_feed (suc digits) n =
    no_feed_behind (hex digits (n / 16)) (hex_digit (n % 16) ∷ []) (hex_no_feed digits (n / 16))
    (digit_is_no_feed (n % 16))

pub label_no_feed : (at : ℕ) → NoFeed (label at)
unfolding label
label_no_feed at = no_feed_behind (codes "IL_") (hex (label_digits at) at) refl (hex_no_feed (label_digits at) at)

glyph_no_feed : (d : ℕ) → d < 10 → NoFeed (digit_glyph false d ∷ [])
glyph_no_feed d small = rw (lt-ltb d 10 small) (no_feed_byte (48 + d) (omega arith))

digits_before : (count n : ℕ) (behind : List ℕ) → NoFeed behind → NoFeed (digits_onto count 10 false n behind)
digits_before zero n behind none = none
digits_before (suc count) n behind none =
    let more = no_feed_behind (digit_glyph false (n % 10) ∷ []) behind (glyph_no_feed (n % 10) (omega arith)) none in
    cond_both (n / 10 == 0) (digit_glyph false (n % 10) ∷ behind)
    (digits_onto count 10 false (n / 10) (digit_glyph false (n % 10) ∷ behind)) NoFeed (λ last. more)
    (λ others. digits_before count (n / 10) (digit_glyph false (n % 10) ∷ behind) more)

pub number_no_feed : (n : ℕ) → NoFeed (decimal n)
unfolding digits
number_no_feed n = digits_before 64 n [] refl

pub place_no_feed : (place : Place) → NoFeed (place_text place)
place_no_feed places.Void = refl
place_no_feed places.Bool = refl
place_no_feed places.Int = refl
place_no_feed places.Bools = refl
place_no_feed places.Ints = refl
