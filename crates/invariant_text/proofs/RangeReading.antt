-- Of two texts that begin with a range and then end it, the ranges are the same where the texts are.
use Rattle.std.proofs.Common.{◌≡◌, ℕ, ◌<◌, ◌^◌, ◌==◌, ℤ, pos, negsuc, ◌≤ℤ◌, Bool, false, ◌&&◌, List, ◌∷◌, ◌++◌, drop}
use Rattle.std.proofs.Common.{get_or, Option, Some, None, refl, sym, ap, ◌∙◌, arith, append_assoc, codes}
use Rattle.std.specs.Fmt.{signed_decimal}
use Rattle.std.specs.Int.Signed.{mag}
use Rattle.std.proofs.lemmas.Bool.{true≢false}
use Rattle.std.proofs.lemmas.Int.{ints}
use Rattle.cil_model.specs.Arithmetic.{LEAST, GREATEST}
use Rattle.interval_domain.specs.Interval.{Interval}
use Rattle.number_spans.specs.Stored.{IsNarrow}
use Rattle.invariant_text.specs.NumberTexts.{hole_text, range_text}
use Rattle.invariant_text.proofs.NumberReading.{begins_digit, signed_read}

-- The text begins as that of a hole does.
abbrev pub begins_hole : List ℕ → Bool
begins_hole text = get_or text 0 0 == 32 && get_or text 1 0 == 110

-- The text ends a range before it: it goes on with no digit, and with no hole.
pub record EndsRange (text : List ℕ) : Type 0 where
  pub no_digit : begins_digit text ≡ false
  pub no_hole : begins_hole text ≡ false

pub int32_small : (z : ℤ) → LEAST ≤ℤ z → z ≤ℤ GREATEST → mag z < 2 ^ 63
int32_small (pos n) least greatest = omega (arith, ints, greatest)
int32_small (negsuc n) least greatest = omega (arith, ints, least)

-- The hole is an int32.
abbrev pub IsSmallHole : Option ℤ → Type 0
IsSmallHole None = Unit {0}
IsSmallHole (Some hole) = mag hole < 2 ^ 63

pub hole_no_digit : (h : Option ℤ) (r : List ℕ) → begins_digit r ≡ false → begins_digit (hole_text h ++ r) ≡ false
hole_no_digit None r none = none
hole_no_digit (Some h) r none = refl

hole_read : (g h : Option ℤ) (r q : List ℕ) → IsSmallHole g → IsSmallHole h → EndsRange r → EndsRange q
    → hole_text g ++ r ≡ hole_text h ++ q → (g ≡ h) × (r ≡ q)
hole_read None None r q g_fits h_fits r_ends q_ends same = (refl, same)
hole_read None (Some h) r q g_fits h_fits r_ends q_ends same =
    absurd (true≢false (sym (ap begins_hole same) ∙ r_ends.no_hole))
hole_read (Some g) None r q g_fits h_fits r_ends q_ends same =
    absurd (true≢false (ap begins_hole same ∙ q_ends.no_hole))
hole_read (Some g) (Some h) r q g_fits h_fits r_ends q_ends same =
    let read = signed_read g h r q g_fits h_fits r_ends.no_digit q_ends.no_digit (ap (drop 5) same) in
    (ap (λ (n : ℤ). Some n) read.0, read.1)

pub small_hole : (lo hi : ℤ) (h : Option ℤ) (range : Interval) → range ≡ record { lo = lo; hi = hi; hole = h }
    → IsNarrow range → IsSmallHole h
small_hole lo hi None range is narrow = tt
small_hole lo hi (Some h) range is narrow =
    let n = rw is at narrow in
    int32_small h (omega (arith, ints, n.least, n.inner)) (omega (arith, ints, n.greatest, n.inner))

pub range_parts : (range : Interval) (r : List ℕ)
    → range_text range ++ r ≡ signed_decimal range.lo ++ 46 ∷ 46
    ∷ (signed_decimal range.hi ++ (hole_text range.hole ++ r))
unfolding range_text
range_parts range r =
    append_assoc (signed_decimal range.lo ++ codes ".." ++ signed_decimal range.hi) (hole_text range.hole) r
    ∙ append_assoc (signed_decimal range.lo ++ codes "..") (signed_decimal range.hi) (hole_text range.hole ++ r)
    ∙ append_assoc (signed_decimal range.lo) (codes "..") (signed_decimal range.hi ++ (hole_text range.hole ++ r))

pub range_read : (a b : Interval) (r q : List ℕ) → IsNarrow a → IsNarrow b → EndsRange r → EndsRange q
    → range_text a ++ r ≡ range_text b ++ q → (a ≡ b) × (r ≡ q)
range_read a b r q a_narrow b_narrow r_ends q_ends same =
    let behind = λ (range : Interval) (text : List ℕ). signed_decimal range.hi ++ (hole_text range.hole ++ text) in
    let a_lo = int32_small a.lo a_narrow.least (omega (arith, ints, a_narrow.ordered, a_narrow.greatest)) in
    let b_lo = int32_small b.lo b_narrow.least (omega (arith, ints, b_narrow.ordered, b_narrow.greatest)) in
    let a_hi = int32_small a.hi (omega (arith, ints, a_narrow.least, a_narrow.ordered)) a_narrow.greatest in
    let b_hi = int32_small b.hi (omega (arith, ints, b_narrow.least, b_narrow.ordered)) b_narrow.greatest in
    let least = signed_read a.lo b.lo (46 ∷ 46 ∷ behind a r) (46 ∷ 46 ∷ behind b q) a_lo b_lo refl refl
    (sym (range_parts a r) ∙ same ∙ range_parts b q) in
    let greatest = signed_read a.hi b.hi (hole_text a.hole ++ r) (hole_text b.hole ++ q) a_hi b_hi
    (hole_no_digit a.hole r r_ends.no_digit)
    (hole_no_digit b.hole q q_ends.no_digit) (ap (drop 2) least.1) in
    let hole = hole_read a.hole b.hole r q (small_hole a.lo a.hi a.hole a refl a_narrow)
    (small_hole b.lo b.hi b.hole b refl b_narrow) r_ends q_ends greatest.1 in
    ((λ i. record { lo = least.0 i; hi = greatest.0 i; hole = hole.0 i }), hole.1)
