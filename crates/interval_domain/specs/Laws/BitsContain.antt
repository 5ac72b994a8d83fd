-- What the common bits of ranges have.
use Rattle.std.proofs.Common.{◌≡◌, ℕ, suc, ◌+◌, ◌-◌, ◌*◌, ◌^◌, ◌<◌, ℤ, pos, negsuc, ◌≤ℤ◌, true, false, ltb, refl, ◌&&◌, int_le, bit_and, ap, ◌∙◌, sym, w32, w64, to_z, of_z, FitsSigned, arith}
use Rattle.std.specs.Int.{int_min, int_bit_and}
use Rattle.std.proofs.lemmas.Int.{ints, clamps, to_z_pos}
use Rattle.std.proofs.lemmas.Nat.{and_le_l, and_le_r, and_block}
use Rattle.std.proofs.lemmas.Bool.{cond_both, and_parts, le-ltb}
use Rattle.interval_domain.specs.Interval.{Interval, Contains, between}
use Rattle.interval_domain.specs.Joins.{LEAST_32, GREATEST_32, LEAST_64, GREATEST_64, full}
use Rattle.interval_domain.specs.Arithmetic.{is_one, is_narrow, bits_below, common_bits}
use Rattle.interval_domain.specs.Laws.SumContains.{the_one}
use Rattle.interval_domain.specs.Laws.JoinsContain.{one_contains, full_contains}

bits_of : (x : ℕ) → x < 2 ^ 64 → FitsSigned w64 (to_z w64 x)
bits_of x h = omega (arith, ints)

bits_fit : (m n : ℤ) → FitsSigned w64 m → FitsSigned w64 (int_bit_and w64 m n)
bits_fit m n fits =
    let less = and_le_l (of_z w64 m) (of_z w64 n) in
    let all : of_z w64 m < 2 ^ 64 = omega (arith, ints, fits) in
    bits_of (bit_and (of_z w64 m) (of_z w64 n)) (omega (arith, less, all))

-- bits in common with a number that is not negative
with_first : (m n : ℤ) → pos 0 ≤ℤ m → FitsSigned w64 m → (pos 0 ≤ℤ int_bit_and w64 m n) × (int_bit_and w64 m n ≤ℤ m)
with_first (negsuc a) n h fits = omega (arith, ints, h)
with_first (pos a) n h fits =
    let less = and_le_l a (of_z w64 n) in
    let is = to_z_pos w64 (bit_and a (of_z w64 n)) (omega (arith, ints, less, fits)) in
    rw is (omega (arith, ints), omega (arith, ints, less))

with_second : (m n : ℤ) → pos 0 ≤ℤ n → FitsSigned w64 n → (pos 0 ≤ℤ int_bit_and w64 m n) × (int_bit_and w64 m n ≤ℤ n)
with_second m (negsuc a) h fits = omega (arith, ints, h)
with_second m (pos a) h fits =
    let less = and_le_r (of_z w64 m) a in
    let is = to_z_pos w64 (bit_and (of_z w64 m) a) (omega (arith, ints, less, fits)) in
    rw is (omega (arith, ints), omega (arith, ints, less))

-- numbers of 32 bits have bits of 32 in common: those of two negative numbers are 33 set ones, and 31 more
little_negative : (x z : ℕ) → x ≡ 8589934591 * 2 ^ 31 + z → z < 2147483648 → FitsSigned w32 (to_z w64 x)
little_negative x z is h =
    let high : ltb x (2 ^ 63) ≡ false = le-ltb x (2 ^ 63) (omega (arith, is)) in
    rw high (omega (arith, ints, is, h))

negative_bits : (x y : ℕ) → x < 2147483648 → y < 2147483648 → FitsSigned w32 (to_z w64 (bit_and (8589934591 * 2 ^ 31 + x) (8589934591 * 2 ^ 31 + y)))
negative_bits x y h k =
    let ones : bit_and 8589934591 8589934591 ≡ 8589934591 = refl in
    let split = and_block 31 8589934591 8589934591 x y h k in
    let less = and_le_l x y in
    little_negative (bit_and (8589934591 * 2 ^ 31 + x) (8589934591 * 2 ^ 31 + y)) (bit_and x y) (split ∙ ap (λ t. t * 2 ^ 31 + bit_and x y) ones) (omega (arith, less, h))

narrow_bits : (m n : ℤ) → FitsSigned w32 m → FitsSigned w32 n → FitsSigned w32 (int_bit_and w64 m n)
narrow_bits (pos a) n first second =
    let bits = with_first (pos a) n (omega (arith, ints)) (omega (arith, ints, first)) in
    omega (arith, ints, first, bits.0, bits.1)
narrow_bits (negsuc a) (pos c) first second =
    let bits = with_second (negsuc a) (pos c) (omega (arith, ints)) (omega (arith, ints, second)) in
    omega (arith, ints, second, bits.0, bits.1)
narrow_bits (negsuc a) (negsuc c) first second =
    let x : (2 ^ 64 - suc a) ≡ (8589934591 * 2 ^ 31 + (2147483647 - a)) = omega (arith, ints, first) in
    let y : (2 ^ 64 - suc c) ≡ (8589934591 * 2 ^ 31 + (2147483647 - c)) = omega (arith, ints, second) in
    rw x (rw y (negative_bits (2147483647 - a) (2147483647 - c) (omega arith) (omega arith)))

-- what ranges have where one is not negative, or both
of_first : (hi m n : ℤ) → pos 0 ≤ℤ m → FitsSigned w64 m → m ≤ℤ hi → Contains (between (pos 0) hi) (int_bit_and w64 m n)
of_first hi m n h fits below =
    let bits = with_first m n h fits in
    record { fits = bits_fit m n fits; above = bits.0; below = omega (arith, ints, bits.1, below); no_hole = λ is. grind arith }

of_second : (hi m n : ℤ) → pos 0 ≤ℤ n → FitsSigned w64 m → FitsSigned w64 n → n ≤ℤ hi → Contains (between (pos 0) hi) (int_bit_and w64 m n)
of_second hi m n h first second below =
    let bits = with_second m n h second in
    record { fits = bits_fit m n first; above = bits.0; below = omega (arith, ints, bits.1, below); no_hole = λ is. grind arith }

of_both : (g h m n : ℤ) → pos 0 ≤ℤ m → pos 0 ≤ℤ n → FitsSigned w64 m → FitsSigned w64 n → m ≤ℤ g → n ≤ℤ h
    → Contains (between (pos 0) (int_min g h)) (int_bit_and w64 m n)
of_both g h m n p q first second below under =
    let bits = with_first m n p first in
    let others = with_second m n q second in
    record { fits = bits_fit m n first; above = bits.0; below = omega (arith, ints, clamps, bits.1, others.1, below, under); no_hole = λ is. grind arith }

has_narrow : (r : Interval) (m : ℤ) → is_narrow r ≡ true → Contains r m → FitsSigned w32 m
has_narrow r m narrow has =
    let parts = and_parts (int_le LEAST_32 r.lo) _ narrow in
    let lo : LEAST_32 ≤ℤ r.lo = grind (arith, ints, parts.0) in
    let hi : r.hi ≤ℤ GREATEST_32 = grind (arith, ints, parts.1) in
    omega (arith, ints, lo, hi, has.above, has.below)

narrow_contains : (a b : Interval) (m n : ℤ) → (is_narrow a && is_narrow b) ≡ true → Contains a m → Contains b n → Contains full (int_bit_and w64 m n)
narrow_contains a b m n narrow first second =
    let parts = and_parts (is_narrow a) _ narrow in
    full_contains (int_bit_and w64 m n) (narrow_bits m n (has_narrow a m parts.0 first) (has_narrow b n parts.1 second))

all_contains : (n : ℤ) → FitsSigned w64 n → Contains (between LEAST_64 GREATEST_64) n
all_contains n fits = record { fits = fits; above = omega (arith, ints); below = omega (arith, ints); no_hole = λ is. grind arith }

bits_below_contain : (a b : Interval) (m n : ℤ) → Contains a m → Contains b n → Contains (bits_below a b) (int_bit_and w64 m n)
unfolding bits_below
bits_below_contain a b m n first second =
    let fits = bits_fit m n first.fits in
    cond_both (int_le (pos 0) a.lo && int_le (pos 0) b.lo) _ _ (λ r. Contains r (int_bit_and w64 m n))
    (λ e. let parts = and_parts (int_le (pos 0) a.lo) _ e in
    of_both a.hi b.hi m n (grind (arith, ints, parts.0, first.above)) (grind (arith, ints, parts.1, second.above)) first.fits second.fits first.below second.below)
    (λ e. cond_both (int_le (pos 0) a.lo) _ _ (λ r. Contains r (int_bit_and w64 m n))
    (λ f. of_first a.hi m n (grind (arith, ints, f, first.above)) first.fits first.below)
    (λ f. cond_both (int_le (pos 0) b.lo) _ _ (λ r. Contains r (int_bit_and w64 m n))
    (λ g. of_second b.hi m n (grind (arith, ints, g, second.above)) first.fits second.fits second.below)
    (λ g. cond_both (is_narrow a && is_narrow b) _ _ (λ r. Contains r (int_bit_and w64 m n))
    (λ h. narrow_contains a b m n h first second)
    (λ h. all_contains (int_bit_and w64 m n) fits))))

pub bits_contain : (a b : Interval) (m n : ℤ) → Contains a m → Contains b n → Contains (common_bits a b) (int_bit_and w64 m n)
unfolding common_bits
bits_contain a b m n first second =
    cond_both (is_one a && is_one b) _ _ (λ r. Contains r (int_bit_and w64 m n))
    (λ e. let parts = and_parts (is_one a) _ e in
    rw (sym (the_one a m parts.0 first)) (rw (sym (the_one b n parts.1 second)) (one_contains (int_bit_and w64 m n) (bits_fit m n first.fits))))
    (λ e. bits_below_contain a b m n first second)
