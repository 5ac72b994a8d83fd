-- What is known of remainders is true of them.
use Rattle.std.proofs.Common.{◌≢◌, zero, suc, ◌%◌, ◌<◌, ℤ, pos, negsuc, neg_ℤ, ◌-ℤ◌, ◌≤ℤ◌, cond, int_lt, int_rem, unsigned_abs, refl, arith}
use Rattle.std.specs.Int.{int_min, int_max}
use Rattle.std.proofs.lemmas.Int.{ints, clamps}
use Rattle.std.proofs.lemmas.Nat.{mod_below}
use Rattle.std.proofs.Math.Nat.{mod-le}
use Rattle.std.proofs.lemmas.Bool.{cond_both}
use Rattle.number_spans.specs.Quotient.{size}
use Rattle.number_spans.specs.Remainder.{remainders}
use Rattle.number_spans.specs.Spans.{Has}
use Rattle.number_spans.specs.declared.span.Span.{Span}
use Rattle.number_spans.proofs.QuotientLaws.{has_size}
use Rattle.number_spans.proofs.Wrapping.{between_has}

size_positive : (n : ℤ) → n ≢ pos 0 → 0 < unsigned_abs n
size_positive (pos zero) apart = elim (apart refl) [ ]
size_positive (pos (suc n)) apart = omega arith
size_positive (negsuc n) apart = omega arith

-- the lower end of remainders, of dividends from lo on by divisors of size s at most
remainder_above : (lo m n s : ℤ) → n ≢ pos 0 → lo ≤ℤ m → pos (unsigned_abs n) ≤ℤ s
    → cond (int_lt lo (pos 0)) (int_max lo (neg_ℤ (s -ℤ pos 1))) (pos 0) ≤ℤ int_rem m n
remainder_above (pos l) (pos a) n s apart h k =
    cond_both (int_lt (pos l) (pos 0)) _ _ (λ e. e ≤ℤ pos (a % unsigned_abs n)) (λ e. grind (arith, ints, e)) (λ e. omega (arith, ints))
remainder_above (pos l) (negsuc a) n s apart h k = omega (arith, ints, h)
remainder_above (negsuc l) (pos a) n s apart h k = let some = size_positive n apart in omega (arith, ints, clamps, k, some)
remainder_above (negsuc l) (negsuc a) n s apart h k =
    let less = mod_below (suc a) (unsigned_abs n) (size_positive n apart) in
    omega (arith, ints, clamps, h, k, less, mod-le (suc a) (unsigned_abs n))

remainder_below : (hi m n s : ℤ) → n ≢ pos 0 → m ≤ℤ hi → pos (unsigned_abs n) ≤ℤ s
    → int_rem m n ≤ℤ cond (int_lt (pos 0) hi) (int_min hi (s -ℤ pos 1)) (pos 0)
remainder_below (pos h) (pos a) n s apart le k =
    let less = mod_below a (unsigned_abs n) (size_positive n apart) in
    let no_more = mod-le a (unsigned_abs n) in
    cond_both (int_lt (pos 0) (pos h)) _ _ (λ e. pos (a % unsigned_abs n) ≤ℤ e)
    (λ e. omega (arith, ints, clamps, le, k, less, no_more))
    (λ e. grind (arith, ints, le, no_more, e))
remainder_below (pos h) (negsuc a) n s apart le k =
    let some = size_positive n apart in
    cond_both (int_lt (pos 0) (pos h)) _ _ (λ e. neg_ℤ (pos (suc a % unsigned_abs n)) ≤ℤ e)
    (λ e. omega (arith, ints, clamps, k, some))
    (λ e. omega (arith, ints))
remainder_below (negsuc h) (pos a) n s apart le k = omega (arith, ints, le)
remainder_below (negsuc h) (negsuc a) n s apart le k = omega (arith, ints)

pub remainders_have : (r q : Span) (m n : ℤ) → Has r m → Has q n → n ≢ pos 0 → Has (remainders r q) (int_rem m n)
unfolding remainders
remainders_have r q m n first second apart =
    between_has _ _ _ (remainder_above r.lo m n (size q) apart first.above (has_size q n second)) (remainder_below r.hi m n (size q) apart first.below (has_size q n second))
