-- A word is a number exactly where it is its decimal text.
use Rattle.std.proofs.Common.{◌≡◌, ℕ, ◌^◌, ◌<◌, ◌≤◌, ◌≢◌, suc, cond, neg_ℤ, drop, get_or, Bool, true, false, ◌&&◌, List, refl, sym, ap, subst, ◌∙◌, arith, ℤ, pos, negsuc, Some, None, Ok, Err, Result, FitsSigned, w32, if◌then◌else◌, nat_le}
use Rattle.std.proofs.lemmas.Bool.{leb-true, le-leb, ne_eqb, and_from, and_parts}
use Rattle.std.proofs.lemmas.Slice.Eq.{bytes_eq-Decides}
use Rattle.std.proofs.lemmas.Fmt.{decimal_is_IsNumeral, parse-decimal, parse-signed_decimal}
use Rattle.std.proofs.lemmas.Str.Parse.{not_in_digits, numerals_by_value, tells_digits, without_leading_plus_none}
use Rattle.std.specs.Int.{IsInRange}
use Rattle.std.specs.Fmt.{decimal, signed_decimal}
use Rattle.std.specs.Str.{bytes_eq}
use Rattle.std.specs.Str.Parse.{digits_value, signed_digits_value, ParsesUnsigned, ParsesSigned, starts_with_minus, without_leading_plus}
use Rattle.run_arguments.specs.Numbers.{number_of_word, int_of_word, is_int32}

-- ---- a value of which two tests are asked

some_if : {T : Type 0} (a b : Bool) (x : T) → a ≡ true → b ≡ true → (if a && b then Some x else None) ≡ Some x
some_if true true x p q = refl
some_if true false x p q = cc
some_if false b x p q = cc

none_if : {T : Type 0} (a b : Bool) (x : T) → (a ≡ true → b ≡ true → ⊥) → (if a && b then Some x else None) ≡ None
none_if true true x never = absurd (never refl refl)
none_if true false x never = refl
none_if false b x never = refl

-- Where there is a value, both tests hold.
record Passes {T : Type 0} (a b : Bool) (x y : T) : Type 0 where
  pub first : a ≡ true
  pub second : b ≡ true
  pub same : x ≡ y

passes_if : {T : Type 0} (a b : Bool) (x y : T) → (if a && b then Some x else None) ≡ Some y → Passes a b x y
passes_if true true x y e = record { first = refl; second = refl; same = cc }
passes_if true false x y e = absurd (cc)
passes_if false b x y e = absurd (cc)

-- ---- numbers

-- The decimal text of a number is that number.
pub number_some : (most : ℕ) (word : List ℕ) (n : ℕ) → most < 2 ^ 32 → n ≤ most → word ≡ decimal n → number_of_word most word ≡ Some n
unfolding number_of_word
number_some most word n small low e =
    let value : digits_value 10 word ≡ n = ap (digits_value 10) e ∙ (decimal_is_IsNumeral n (omega arith)).1 in
    let same : word ≡ decimal (digits_value 10 word) = e ∙ ap decimal (sym value) in
    some_if (nat_le (digits_value 10 word) most) _ _ (le-leb _ most (omega arith)) ((bytes_eq-Decides word (decimal (digits_value 10 word))).1 same) ∙ ap (λ (m : ℕ). Some m) value

pub number_text : (most : ℕ) (word : List ℕ) (n : ℕ) → number_of_word most word ≡ Some n → (n ≤ most) × (word ≡ decimal n)
unfolding number_of_word
number_text most word n e =
    let k = passes_if (nat_le (digits_value 10 word) most) (bytes_eq word (decimal (digits_value 10 word))) _ n e in
    let low = leb-true _ most k.first in
    (omega (arith, low, k.same), (bytes_eq-Decides word (decimal (digits_value 10 word))).0 k.second ∙ ap decimal k.same)

-- What std reads of a word that is a number's text is that number.
pub parsed_number : {E : Type 0} (word : List ℕ) (r : Result ℕ E) (m n : ℕ) → ParsesUnsigned 32 10 word r → r ≡ Ok m → n < 2 ^ 32 → word ≡ decimal n → m ≡ n
parsed_number word r m n h is small e =
    let read = parse-decimal 32 n word r small (omega arith) e h in
    let same : Ok m ≡ Ok n = sym is ∙ read in
    cc

-- Where std reads nothing, the word is no number's text.
pub unparsed_number : {E : Type 0} (word : List ℕ) (r : Result ℕ E) (e : E) (n : ℕ) → ParsesUnsigned 32 10 word r → r ≡ Err e → n < 2 ^ 32 → word ≡ decimal n → ⊥
unparsed_number word r e n h is small text =
    let read = parse-decimal 32 n word r small (omega arith) text h in
    cc

-- ---- a number as it is written

-- A word is not another than the text of the number that it is.
pub unshown : {N : Type 0} (text : N → List ℕ) (word shown : List ℕ) (m n : N) (same : Bool) → m ≡ n → word ≡ text n → shown ≡ text m → same ≡ bytes_eq shown word → same ≡ false → ⊥
unshown text word shown m n same is e written told differ =
    let equal : shown ≡ word = written ∙ ap text is ∙ sym e in
    let yes_equal : bytes_eq shown word ≡ true = (bytes_eq-Decides shown word).1 equal in
    cc

-- ---- int32

-- The first byte of a decimal text is a digit.
pub begins_otherwise : (n c : ℕ) → n < 2 ^ 64 → ¬ (IsInRange 48 57 c) → get_or (decimal n) 0 0 ≢ c
begins_otherwise n c small other =
    let k = decimal_is_IsNumeral n small in
    not_in_digits (numerals_by_value _ tells_digits) (decimal n) c k.0.1 other 0 k.0.0

-- std's value of the decimal text of an int32 is that int32.
signed_value : (n : ℤ) → FitsSigned w32 n → signed_digits_value 10 (signed_decimal n) ≡ n
signed_value (pos m) fits =
    let ds : List ℕ = decimal m in
    let small : m < 2 ^ 64 = omega (arith, fits.sfits) in
    let no_minus : starts_with_minus ds ≡ false = ne_eqb _ 45 (begins_otherwise m 45 small (λ h. omega arith)) in
    let no_plus : without_leading_plus ds ≡ ds = without_leading_plus_none ds (begins_otherwise m 43 small (λ h. omega arith)) in
    ap (λ (t : Bool). cond t (neg_ℤ (pos (digits_value 10 (cond t (drop 1 ds) (without_leading_plus ds))))) (pos (digits_value 10 (cond t (drop 1 ds) (without_leading_plus ds))))) no_minus
    ∙ ap (λ (xs : List ℕ). pos (digits_value 10 xs)) no_plus
    ∙ ap pos (decimal_is_IsNumeral m small).1
signed_value (negsuc m) fits =
    let small : suc m < 2 ^ 64 = omega (arith, fits.sfits) in
    ap (λ (k : ℕ). neg_ℤ (pos k)) (decimal_is_IsNumeral (suc m) small).1

fits_test : (n : ℤ) → FitsSigned w32 n → is_int32 n ≡ true
fits_test (pos m) fits = and_from _ _ refl (le-leb m 2147483647 (omega (arith, fits.sfits)))
fits_test (negsuc m) fits = and_from _ _ (le-leb m 2147483647 (omega (arith, fits.sfits))) refl

test_fits : (n : ℤ) → is_int32 n ≡ true → FitsSigned w32 n
test_fits (pos m) e = let k = leb-true m 2147483647 (and_parts true (nat_le m 2147483647) e).1 in record { sfits = omega (arith, k) }
test_fits (negsuc m) e = let k = leb-true m 2147483647 (and_parts (nat_le m 2147483647) true e).0 in record { sfits = omega (arith, k) }

-- The decimal text of an int32 is that int32.
pub int_some : (word : List ℕ) (n : ℤ) → FitsSigned w32 n → word ≡ signed_decimal n → int_of_word word ≡ Some n
unfolding int_of_word
int_some word n fits e =
    let value : signed_digits_value 10 word ≡ n = ap (signed_digits_value 10) e ∙ signed_value n fits in
    let same : word ≡ signed_decimal (signed_digits_value 10 word) = e ∙ ap signed_decimal (sym value) in
    some_if (is_int32 (signed_digits_value 10 word)) _ _ (ap is_int32 value ∙ fits_test n fits) ((bytes_eq-Decides word (signed_decimal (signed_digits_value 10 word))).1 same) ∙ ap (λ (m : ℤ). Some m) value

pub int_text : (word : List ℕ) (n : ℤ) → int_of_word word ≡ Some n → FitsSigned w32 n × (word ≡ signed_decimal n)
unfolding int_of_word
int_text word n e =
    let k = passes_if (is_int32 (signed_digits_value 10 word)) (bytes_eq word (signed_decimal (signed_digits_value 10 word))) _ n e in
    (subst (FitsSigned w32) k.same (test_fits _ k.first), (bytes_eq-Decides word (signed_decimal (signed_digits_value 10 word))).0 k.second ∙ ap signed_decimal k.same)

-- A word that is no int32's text is no int32.
pub int_none : (word : List ℕ) → ((n : ℤ) → FitsSigned w32 n → word ≡ signed_decimal n → ⊥) → int_of_word word ≡ None
unfolding int_of_word
int_none word never =
    none_if (is_int32 (signed_digits_value 10 word)) (bytes_eq word (signed_decimal (signed_digits_value 10 word))) _
    (λ p q. never (signed_digits_value 10 word) (test_fits _ p) ((bytes_eq-Decides word (signed_decimal (signed_digits_value 10 word))).0 q))

-- Where std reads nothing, the word is no int32's text.
pub unparsed_int : {E : Type 0} (word : List ℕ) (r : Result ℤ E) (e : E) (n : ℤ) → ParsesSigned w32 10 word r → r ≡ Err e → FitsSigned w32 n → word ≡ signed_decimal n → ⊥
unparsed_int word r e n h is fits text =
    let read = parse-signed_decimal w32 n word r fits (omega (arith, fits.sfits)) text h in
    cc
