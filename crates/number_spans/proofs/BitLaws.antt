-- What is known of the bits of two numbers is true of them.
use Rattle.std.proofs.Common.{◌≡◌, ℕ, ◌+◌, ◌-◌, ◌*◌, ◌/◌, ◌^◌, ◌<◌, ◌≤◌, ℤ, pos, negsuc, ◌≤ℤ◌, true, ◌&&◌, int_le, bit_and, FitsSigned, sym, ap, ◌∙◌, w32, to_z, of_z, arith}
use Rattle.std.specs.Int.{w64, int_max, int_bit_and, int_bit_or, int_bit_xor, leading_zeros}
use Rattle.std.specs.Int.Bits.{bit_or, bit_xor}
use Rattle.std.proofs.lemmas.Bool.{cond_both, and_parts}
use Rattle.std.proofs.lemmas.Int.{ints, clamps, to_z_pos}
use Rattle.std.proofs.lemmas.Nat.{and_le_l, and_le_r, or_lt, xor_lt, leading_length, le-div, mul-le, pow-add, pow_pos}
use Rattle.number_spans.specs.Bits.{common_bits, all_ones, is_bit, bits_of_either}
use Rattle.number_spans.specs.Sizes.{IsSmall}
use Rattle.number_spans.specs.Spans.{Has, between, is_not_negative}
use Rattle.number_spans.specs.declared.span.Span.{Span}
use Rattle.number_spans.proofs.Wrapping.{between_has, full_has}

bits_of : (x : ℕ) → x < 2 ^ 32 → FitsSigned w32 (to_z w32 x)
bits_of x h = omega (arith, ints)

and_fits : (m n : ℤ) → FitsSigned w32 m → FitsSigned w32 (int_bit_and w32 m n)
and_fits m n fits =
    let less = and_le_l (of_z w32 m) (of_z w32 n) in
    let all : of_z w32 m < 2 ^ 32 = omega (arith, ints, fits) in
    bits_of (bit_and (of_z w32 m) (of_z w32 n)) (omega (arith, less, all))

-- bits in common with a number that is not negative
with_first : (m n : ℤ) → pos 0 ≤ℤ m → FitsSigned w32 m → (pos 0 ≤ℤ int_bit_and w32 m n) × (int_bit_and w32 m n ≤ℤ m)
with_first (negsuc a) n h fits = omega (arith, ints, h)
with_first (pos a) n h fits =
    let less = and_le_l a (of_z w32 n) in
    let is = to_z_pos w32 (bit_and a (of_z w32 n)) (omega (arith, ints, less, fits)) in
    rw is (omega (arith, ints), omega (arith, ints, less))

with_second : (m n : ℤ) → pos 0 ≤ℤ n → FitsSigned w32 n → (pos 0 ≤ℤ int_bit_and w32 m n) × (int_bit_and w32 m n ≤ℤ n)
with_second m (negsuc a) h fits = omega (arith, ints, h)
with_second m (pos a) h fits =
    let less = and_le_r (of_z w32 m) a in
    let is = to_z_pos w32 (bit_and (of_z w32 m) a) (omega (arith, ints, less, fits)) in
    rw is (omega (arith, ints), omega (arith, ints, less))

not_negative : (r : Span) (m : ℤ) → Has r m → is_not_negative r ≡ true → pos 0 ≤ℤ m
not_negative r m has e = grind (arith, ints, e, has.above)

pub common_bits_have : (r q : Span) (m n : ℤ) → FitsSigned w32 m → FitsSigned w32 n → Has r m → Has q n → Has (common_bits r q) (int_bit_and w32 m n)
unfolding common_bits
common_bits_have r q m n one other first second =
    cond_both (is_not_negative r && is_not_negative q) _ _ (λ s. Has s (int_bit_and w32 m n))
    (λ e. let parts = and_parts (is_not_negative r) _ e in
    let low = with_first m n (not_negative r m first parts.0) one in
    let high = with_second m n (not_negative q n second parts.1) other in
    between_has _ _ _ low.0 (omega (arith, ints, clamps, low.1, high.1, first.below, second.below)))
    (λ e. cond_both (is_not_negative r) _ _ (λ s. Has s (int_bit_and w32 m n))
    (λ f. let low = with_first m n (not_negative r m first f) one in between_has _ _ _ low.0 (omega (arith, ints, low.1, first.below)))
    (λ f. cond_both (is_not_negative q) _ _ (λ s. Has s (int_bit_and w32 m n))
    (λ g. let low = with_second m n (not_negative q n second g) other in between_has _ _ _ low.0 (omega (arith, ints, low.1, second.below)))
    (λ g. full_has (int_bit_and w32 m n) (and_fits m n one))))

-- ---- bits of either

-- a number below p, where p times q is 2^64
below_ones : (x p q : ℕ) → x < p → p * q ≡ 18446744073709551616 → 0 < q → x * q ≤ 18446744073709551615
below_ones x p q h is some =
    let le = mul-le (x + 1) q p q (omega (arith, h)) (omega arith) in
    let one_more : (x + 1) * q ≡ x * q + q = omega arith in
    omega (arith, le, one_more, is, some)

-- no number of as many places as n is greater than as many ones
ones_above : (n x : ℕ) → n < 2 ^ 64 → ((m : ℕ) → n < 2 ^ m → x < 2 ^ m) → x ≤ (2 ^ 64 - 1) / 2 ^ leading_zeros w64 n
ones_above n x fits least =
    let top = leading_length 64 n fits in
    let less = least top.0 top.2 in
    let zeros = leading_zeros w64 n in
    let all : top.0 + zeros ≡ 64 = omega (arith, top.1) in
    let split : 2 ^ top.0 * 2 ^ zeros ≡ 18446744073709551616 = sym (pow-add 2 top.0 zeros) ∙ ap (λ k. 2 ^ k) all in
    le-div x (2 ^ 64 - 1) (2 ^ zeros) (pow_pos zeros) (below_ones x (2 ^ top.0) (2 ^ zeros) less split (pow_pos zeros))

-- the bits of either of two numbers that are not negative
upto_ones : (h : ℤ) (a b : ℕ) (f : ℕ → ℕ → ℕ) → ((k x y : ℕ) → x < 2 ^ k → y < 2 ^ k → f x y < 2 ^ k) → pos a ≤ℤ h → pos b ≤ℤ h → h ≤ℤ pos 9223372045444710400
    → pos (f a b) ≤ℤ all_ones h
unfolding all_ones
upto_ones (negsuc h) a b f keeps first second small = omega (arith, ints, first)
upto_ones (pos h) a b f keeps first second small =
    let le = ones_above h (f a b) (omega (arith, ints, small)) (λ m less. keeps m a b (omega (arith, ints, first, less)) (omega (arith, ints, second, less))) in
    omega (arith, ints, le)

-- an operation on bits that needs no more places than both of its numbers
abbrev Keeps : (ℕ → ℕ → ℕ) → Type 0
Keeps f = (k x y : ℕ) → x < 2 ^ k → y < 2 ^ k → f x y < 2 ^ k

abbrev of_bits : (ℕ → ℕ → ℕ) → ℤ → ℤ → ℤ
of_bits f m n = to_z w32 (f (of_z w32 m) (of_z w32 n))

plain_bits : (f : ℕ → ℕ → ℕ) (a b : ℕ) → Keeps f → FitsSigned w32 (pos a) → FitsSigned w32 (pos b) → of_bits f (pos a) (pos b) ≡ pos (f a b)
plain_bits f a b keeps first second = to_z_pos w32 (f a b) (keeps 31 a b (omega (arith, ints, first)) (omega (arith, ints, second)))

bit_has : (f : ℕ → ℕ → ℕ) (m n : ℤ) → Keeps f → pos 0 ≤ℤ m → m ≤ℤ pos 1 → pos 0 ≤ℤ n → n ≤ℤ pos 1 → Has (between (pos 0) (pos 1)) (of_bits f m n)
bit_has f (negsuc a) n keeps p q r s = omega (arith, ints, p)
bit_has f (pos a) (negsuc b) keeps p q r s = omega (arith, ints, r)
bit_has f (pos a) (pos b) keeps p q r s =
    let less = keeps 1 a b (omega (arith, ints, q)) (omega (arith, ints, s)) in
    rw (plain_bits f a b keeps (omega (arith, ints, q)) (omega (arith, ints, s))) (between_has _ _ _ (omega (arith, ints)) (omega (arith, ints, less)))

ones_has : (f : ℕ → ℕ → ℕ) (m n h : ℤ) → Keeps f → FitsSigned w32 m → FitsSigned w32 n → pos 0 ≤ℤ m → m ≤ℤ h → pos 0 ≤ℤ n → n ≤ℤ h → h ≤ℤ pos 9223372045444710400
    → Has (between (pos 0) (all_ones h)) (of_bits f m n)
ones_has f (negsuc a) n h keeps first second p q r s small = omega (arith, ints, p)
ones_has f (pos a) (negsuc b) h keeps first second p q r s small = omega (arith, ints, r)
ones_has f (pos a) (pos b) h keeps first second p q r s small =
    rw (plain_bits f a b keeps first second) (between_has _ _ _ (omega (arith, ints)) (upto_ones h a b f keeps q s small))

any_fits : (f : ℕ → ℕ → ℕ) (m n : ℤ) → Keeps f → FitsSigned w32 m → FitsSigned w32 n → FitsSigned w32 (of_bits f m n)
any_fits f m n keeps first second = bits_of _ (keeps 32 (of_z w32 m) (of_z w32 n) (omega (arith, ints, first)) (omega (arith, ints, second)))

is_bit-ends : (r : Span) (m : ℤ) → Has r m → is_bit r ≡ true → (pos 0 ≤ℤ m) × (m ≤ℤ pos 1)
is_bit-ends r m has e = let parts = and_parts (int_le (pos 0) r.lo) _ e in (grind (arith, ints, parts.0, has.above), grind (arith, ints, parts.1, has.below))

either_has : (f : ℕ → ℕ → ℕ) (r q : Span) (m n : ℤ) → Keeps f → IsSmall r → IsSmall q → FitsSigned w32 m → FitsSigned w32 n → Has r m → Has q n
    → Has (bits_of_either r q) (of_bits f m n)
unfolding bits_of_either
either_has f r q m n keeps small other one two first second =
    cond_both (is_bit r && is_bit q) _ _ (λ s. Has s (of_bits f m n))
    (λ e. let parts = and_parts (is_bit r) _ e in
    let low = is_bit-ends r m first parts.0 in let high = is_bit-ends q n second parts.1 in
    bit_has f m n keeps low.0 low.1 high.0 high.1)
    (λ e. cond_both (is_not_negative r && is_not_negative q) _ _ (λ s. Has s (of_bits f m n))
    (λ g. let parts = and_parts (is_not_negative r) _ g in
    ones_has f m n (int_max (pos 0) (int_max r.hi q.hi)) keeps one two (not_negative r m first parts.0) (omega (arith, ints, clamps, first.below)) (not_negative q n second parts.1)
    (omega (arith, ints, clamps, second.below)) (omega (arith, ints, clamps, small.high.greatest, other.high.greatest)))
    (λ g. full_has (of_bits f m n) (any_fits f m n keeps one two)))

pub bits_of_either_have : (r q : Span) (m n : ℤ) → IsSmall r → IsSmall q → FitsSigned w32 m → FitsSigned w32 n → Has r m → Has q n
    → Has (bits_of_either r q) (int_bit_or w32 m n)
bits_of_either_have r q m n small other one two first second = either_has bit_or r q m n or_lt small other one two first second

pub bits_of_one_have : (r q : Span) (m n : ℤ) → IsSmall r → IsSmall q → FitsSigned w32 m → FitsSigned w32 n → Has r m → Has q n
    → Has (bits_of_either r q) (int_bit_xor w32 m n)
bits_of_one_have r q m n small other one two first second = either_has bit_xor r q m n xor_lt small other one two first second
