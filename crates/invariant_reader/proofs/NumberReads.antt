-- Each number is read back from its text.
use Rattle.std.proofs.Common.{◌≡◌, ℕ, zero, suc, ◌+◌, ◌-◌, ◌*◌, ◌/◌, ◌%◌, ◌<◌, ◌≤◌, ◌^◌, ◌==◌, nat_le, ℤ}
use Rattle.std.proofs.Common.{pos, negsuc, ◌-ℤ◌}
use Rattle.std.proofs.Common.{true, false, List, [], ◌∷◌, ◌++◌, Some, None, refl, ap, ◌∙◌, arith, codes}
use Rattle.std.specs.Fmt.{decimal, digit_glyph, digits, digits_onto, signed_decimal}
use Rattle.std.specs.Int.Signed.{mag}
use Rattle.std.specs.List.{AllByRecursion}
use Rattle.std.specs.Str.Parse.{AllDigits}
use Rattle.std.proofs.lemmas.Bool.{and_parts, cond_both, le-leb, leb-true, lt-ltb, ne_eqb}
use Rattle.std.proofs.lemmas.Fmt.{decimal_is_IsNumeral, digits_value-decimal}
use Rattle.std.proofs.lemmas.Int.{ints}
use Rattle.std.proofs.lemmas.Str.Parse.{IsNumeralModel, digit_from_value, numerals_by_fold, tells_digits}
use Rattle.invariant_text.proofs.NumberReading.{begins_digit, behind_digits, is_digit, number_begins}
use Rattle.invariant_reader.specs.Numbers.{number_after, read_decimal, read_negative, read_positive, read_short}
use Rattle.invariant_reader.specs.Numbers.{read_signed}
use Rattle.invariant_reader.specs.Prefixes.{behind}

digit_is : (c : ℕ) → 48 ≤ c → c ≤ 57 → is_digit c ≡ true
digit_is c above below = rw (le-leb 48 c above, le-leb c 57 below)

-- ---- the value of digits

abbrev value_after : ℕ → List ℕ → ℕ
value_after n [] = n
value_after n (c ∷ digits) = value_after (n * 10 + (c - 48)) digits

own : IsNumeralModel (AllDigits 10) (value_after 0)
own = numerals_by_fold (AllDigits 10) tells_digits value_after
    (record { empty = λ n. refl; more = λ n c digits range. refl })

-- Digits make no number less.
no_less_after : (n : ℕ) (ds : List ℕ) → n ≤ value_after n ds
no_less_after n [] = omega arith
no_less_after n (d ∷ ds) = let more = no_less_after (n * 10 + (d - 48)) ds in omega (arith, more)

none_after : (n : ℕ) (rest : List ℕ) → begins_digit rest ≡ false → number_after n rest ≡ Some (n, rest)
none_after n [] none = refl
none_after n (c ∷ rest) none = rw none

after_reads : (n : ℕ) (ds rest : List ℕ) → AllDigits 10 ds → begins_digit rest ≡ false → value_after n ds < 2 ^ 64
    → number_after n (ds ++ rest) ≡ Some (value_after n ds, rest)
after_reads n [] rest all none fits = none_after n rest none
after_reads n (d ∷ ds) rest all none fits =
    let range = digit_from_value d all.0 in
    let least = no_less_after (n * 10 + (d - 48)) ds in
    rw (
      digit_is d (omega (arith, range)) (omega (arith, range)),
      lt-ltb (n * 10 + (d - 48)) (2 ^ 64) (omega (arith, least, fits)),
    )
    (after_reads (n * 10 + (d - 48)) ds rest all.1 none fits)

pub decimal_reads : (n : ℕ) (rest : List ℕ) → n < 2 ^ 64 → begins_digit rest ≡ false
    → read_decimal (decimal n ++ rest) ≡ Some (n, rest)
unfolding read_decimal
decimal_reads n rest fits none =
    let value = digits_value-decimal own n fits in
    rw (number_begins n rest fits)
    (after_reads 0 (decimal n) rest (decimal_is_IsNumeral n fits).0.1 none (omega (arith, value, fits))
    ∙ ap (λ (m : ℕ). Some (m, rest)) value)

-- ---- digits that are skipped, of any number

abbrev AreDigits : List ℕ → Type 0
AreDigits ds = AllByRecursion (λ c. is_digit c ≡ true) ds

glyph_digit : (d : ℕ) → d < 10 → is_digit (digit_glyph false d) ≡ true
glyph_digit d small = rw (lt-ltb d 10 small) (digit_is (48 + d) (omega arith) (omega (arith, small)))

digits_before : (count n : ℕ) (later : List ℕ) → AreDigits later → AreDigits (digits_onto count 10 false n later)
digits_before zero n later are = are
digits_before (suc count) n later are =
    let more : AreDigits (digit_glyph false (n % 10) ∷ later) = (glyph_digit (n % 10) (omega arith), are) in
    cond_both (n / 10 == 0) (digit_glyph false (n % 10) ∷ later)
    (digits_onto count 10 false (n / 10) (digit_glyph false (n % 10) ∷ later)) AreDigits (λ last. more)
    (λ others. digits_before count (n / 10) (digit_glyph false (n % 10) ∷ later) more)

are_digits : (n : ℕ) → AreDigits (decimal n)
unfolding digits
are_digits n = digits_before 64 n [] tt

none_skipped : (rest : List ℕ) → begins_digit rest ≡ false → behind_digits rest ≡ rest
none_skipped [] none = refl
none_skipped (c ∷ rest) none = rw none

skipped : (ds rest : List ℕ) → AreDigits ds → begins_digit rest ≡ false → behind_digits (ds ++ rest) ≡ rest
skipped [] rest are none = none_skipped rest none
skipped (d ∷ ds) rest are none = rw are.0 (skipped ds rest are.1 none)

pub digits_skipped : (n : ℕ) (rest : List ℕ) → begins_digit rest ≡ false → behind_digits (decimal n ++ rest) ≡ rest
digits_skipped n rest none = skipped (decimal n) rest (are_digits n) none

-- ---- numbers of 32 bits, and with a sign

pub short_reads : (n : ℕ) (rest : List ℕ) → n < 2 ^ 32 → begins_digit rest ≡ false
    → read_short (decimal n ++ rest) ≡ Some (n, rest)
unfolding read_short
short_reads n rest fits none = rw (decimal_reads n rest (omega (arith, fits)) none, lt-ltb n (2 ^ 32) fits)

pub positive_reads : (n : ℕ) (rest : List ℕ) → n < 2 ^ 63 → begins_digit rest ≡ false
    → read_positive (decimal n ++ rest) ≡ Some (pos n, rest)
unfolding read_positive
positive_reads n rest fits none = rw (decimal_reads n rest (omega (arith, fits)) none, lt-ltb n (2 ^ 63) fits)

below_zero : (n : ℕ) → pos 0 -ℤ pos (suc n) ≡ negsuc n
below_zero n = omega (arith, ints)

pub negative_reads : (n : ℕ) (rest : List ℕ) → n < 2 ^ 63 → begins_digit rest ≡ false
    → read_negative (decimal (suc n) ++ rest) ≡ Some (negsuc n, rest)
unfolding read_negative
negative_reads n rest fits none =
    rw (
      decimal_reads (suc n) rest (omega (arith, fits)) none,
      le-leb (suc n) (2 ^ 63) (omega (arith, fits)),
      below_zero n,
    )

no_sign : (text : List ℕ) → begins_digit text ≡ true → behind (codes "-") text ≡ None
no_sign [] is = refl
no_sign (c ∷ text) is =
    let least = leb-true 48 c (and_parts (nat_le 48 c) (nat_le c 57) is).0 in
    rw (ne_eqb c 45 (λ e. omega (arith, least, e)))

pub signed_reads : (z : ℤ) (rest : List ℕ) → mag z < 2 ^ 63 → begins_digit rest ≡ false
    → read_signed (signed_decimal z ++ rest) ≡ Some (z, rest)
unfolding read_signed
signed_reads (pos n) rest fits none =
    rw (no_sign (decimal n ++ rest) (number_begins n rest (omega (arith, fits)))) (positive_reads n rest fits none)
signed_reads (negsuc n) rest fits none = negative_reads n rest fits none
