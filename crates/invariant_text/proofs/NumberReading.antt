-- Of two texts that begin with a number and go on with no digit, the numbers are the same where the texts are.
use Rattle.std.proofs.Common.{◌≡◌, ℕ, suc, ◌<◌, ◌≤◌, ◌^◌, ◌==◌, ℤ, pos, negsuc, Bool, true, false, ◌&&◌, ◌||◌, nat_le}
use Rattle.std.proofs.Common.{List, [], ◌∷◌, ◌++◌, length, get_or, refl, sym, ap, ◌∙◌, arith, if◌then◌else◌, drop}
use Rattle.std.specs.Fmt.{decimal, signed_decimal}
use Rattle.std.specs.Int.Signed.{mag}
use Rattle.std.specs.Str.Parse.{AllDigits}
use Rattle.std.proofs.lemmas.Bool.{true≢false}
use Rattle.std.proofs.lemmas.Fmt.{decimal_injective, decimal_is_IsNumeral}
use Rattle.std.proofs.lemmas.Str.Parse.{digit_from_value}
use Rattle.std.proofs.lemmas.Bool.{le-leb}

abbrev pub is_digit : ℕ → Bool
is_digit c = nat_le 48 c && nat_le c 57

abbrev pub begins_digit : List ℕ → Bool
begins_digit [] = false
begins_digit (c ∷ cs) = is_digit c

-- The digits at the start, and what is behind them.
abbrev pub prefix_digits : List ℕ → List ℕ
prefix_digits [] = []
prefix_digits (c ∷ cs) = if is_digit c then c ∷ prefix_digits cs else []

abbrev pub behind_digits : List ℕ → List ℕ
behind_digits [] = []
behind_digits (c ∷ cs) = if is_digit c then behind_digits cs else c ∷ cs

digit_is : (c : ℕ) → 48 ≤ c → c ≤ 57 → is_digit c ≡ true
digit_is c above below = rw (le-leb 48 c above, le-leb c 57 below)

none_prefix : (r : List ℕ) → begins_digit r ≡ false → prefix_digits r ≡ []
none_prefix [] none = refl
none_prefix (c ∷ r) none = rw none

none_behind : (r : List ℕ) → begins_digit r ≡ false → behind_digits r ≡ r
none_behind [] none = refl
none_behind (c ∷ r) none = rw none

-- Digits, and then no more: the prefix and what is behind it are as they were put together.
digits_prefix : (ds r : List ℕ) → AllDigits 10 ds → begins_digit r ≡ false → prefix_digits (ds ++ r) ≡ ds
digits_prefix [] r all none = none_prefix r none
digits_prefix (d ∷ ds) r all none =
    let range = digit_from_value d all.0 in
    rw (digit_is d (omega (arith, range)) (omega (arith, range)), digits_prefix ds r all.1 none)

digits_behind : (ds r : List ℕ) → AllDigits 10 ds → begins_digit r ≡ false → behind_digits (ds ++ r) ≡ r
digits_behind [] r all none = none_behind r none
digits_behind (d ∷ ds) r all none =
    let range = digit_from_value d all.0 in
    rw (digit_is d (omega (arith, range)) (omega (arith, range)), digits_behind ds r all.1 none)

digits_begin : (ds r : List ℕ) → AllDigits 10 ds → 0 < length ds → begins_digit (ds ++ r) ≡ true
digits_begin [] r all some = absurd (omega (arith, some))
digits_begin (d ∷ ds) r all some =
    let range = digit_from_value d all.0 in
    digit_is d (omega (arith, range)) (omega (arith, range))

pub number_prefix : (n : ℕ) (r : List ℕ) → n < 2 ^ 64 → begins_digit r ≡ false
    → prefix_digits (decimal n ++ r) ≡ decimal n
number_prefix n r fits none = digits_prefix (decimal n) r (decimal_is_IsNumeral n fits).0.1 none

pub number_behind : (n : ℕ) (r : List ℕ) → n < 2 ^ 64 → begins_digit r ≡ false → behind_digits (decimal n ++ r) ≡ r
number_behind n r fits none = digits_behind (decimal n) r (decimal_is_IsNumeral n fits).0.1 none

pub number_begins : (n : ℕ) (r : List ℕ) → n < 2 ^ 64 → begins_digit (decimal n ++ r) ≡ true
number_begins n r fits = let is = decimal_is_IsNumeral n fits in digits_begin (decimal n) r is.0.1 is.0.0

-- Both numbers are the same, and so is what follows.
pub number_read : (m n : ℕ) (r q : List ℕ) → m < 2 ^ 64 → n < 2 ^ 64 → begins_digit r ≡ false → begins_digit q ≡ false
    → decimal m ++ r ≡ decimal n ++ q → (m ≡ n) × (r ≡ q)
number_read m n r q m_fits n_fits r_none q_none same = (
  decimal_injective m n m_fits n_fits
      (sym (number_prefix m r m_fits r_none) ∙ ap prefix_digits same ∙ number_prefix n q n_fits q_none),
  sym (number_behind m r m_fits r_none) ∙ ap behind_digits same ∙ number_behind n q n_fits q_none,
)

-- A sign is no digit.
no_sign : (n : ℕ) (r q : List ℕ) → n < 2 ^ 64 → decimal n ++ r ≡ 45 ∷ q → ⊥
no_sign n r q fits same = true≢false (sym (number_begins n r fits) ∙ ap begins_digit same)

pub signed_read : (y z : ℤ) (r q : List ℕ) → mag y < 2 ^ 63 → mag z < 2 ^ 63 → begins_digit r ≡ false
    → begins_digit q ≡ false
    → signed_decimal y ++ r ≡ signed_decimal z ++ q → (y ≡ z) × (r ≡ q)
signed_read (pos m) (pos n) r q y_fits z_fits r_none q_none same =
    let read = number_read m n r q (omega (arith, y_fits)) (omega (arith, z_fits)) r_none q_none same in
    (ap pos read.0, read.1)
signed_read (pos m) (negsuc n) r q y_fits z_fits r_none q_none same =
    absurd (no_sign m r _ (omega (arith, y_fits)) same)
signed_read (negsuc m) (pos n) r q y_fits z_fits r_none q_none same =
    absurd (no_sign n q _ (omega (arith, z_fits)) (sym same))
signed_read (negsuc m) (negsuc n) r q y_fits z_fits r_none q_none same =
    let read = number_read (suc m) (suc n) r q (omega (arith, y_fits)) (omega (arith, z_fits)) r_none q_none
    (ap (drop 1) same) in
    (ap negsuc (omega (arith, read.0)), read.1)

-- What a text of a signed number begins with.
abbrev pub begins_signed : List ℕ → Bool
begins_signed text = begins_digit text || get_or text 0 0 == 45

pub signed_begins : (z : ℤ) (r : List ℕ) → mag z < 2 ^ 63 → begins_signed (signed_decimal z ++ r) ≡ true
signed_begins (pos n) r fits = rw (number_begins n r (omega (arith, fits)))
signed_begins (negsuc n) r fits = refl
