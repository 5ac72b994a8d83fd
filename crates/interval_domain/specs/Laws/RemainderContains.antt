-- What remainders of ranges have.
use Rattle.std.proofs.Common.{◌≡◌, ◌≢◌, ℕ, zero, suc, ◌-◌, ◌%◌, ◌<◌, ◌≤◌, ℤ, pos, negsuc, neg_ℤ, ◌≤ℤ◌, ◌&&◌, cond, int_eq, int_lt, int_rem, unsigned_abs, refl, sym, ◌∙◌, w64, FitsSigned, arith}
use Rattle.std.specs.Int.{int_min, int_max}
use Rattle.std.proofs.lemmas.Int.{ints, clamps}
use Rattle.std.proofs.lemmas.Nat.{mod_below}
use Rattle.std.proofs.Math.Nat.{mod-le}
use Rattle.std.proofs.lemmas.Bool.{cond_both, and_parts}
use Rattle.std.proofs.lemmas.Bool.Decides.{Decides-int_eq}
use Rattle.interval_domain.specs.Interval.{Interval, Contains, one}
use Rattle.interval_domain.specs.Arithmetic.{is_one, size, remainders, remainder}
use Rattle.interval_domain.specs.Laws.SumContains.{the_one}
use Rattle.interval_domain.specs.Laws.JoinsContain.{one_contains}
use Rattle.interval_domain.specs.Laws.QuotientContains.{has_size}

size_positive : (n : ℤ) → n ≢ pos 0 → 0 < unsigned_abs n
size_positive (pos zero) apart = elim (apart refl) [ ]
size_positive (pos (suc n)) apart = omega arith
size_positive (negsuc n) apart = omega arith

remainder_fits : (m n : ℤ) → FitsSigned w64 m → FitsSigned w64 (int_rem m n)
remainder_fits (pos a) n fits = omega (arith, ints, mod-le a (unsigned_abs n))
remainder_fits (negsuc a) n fits = omega (arith, ints, mod-le (suc a) (unsigned_abs n))

-- the lower end of remainders, of dividends from lo on by divisors of size s at most
remainder_above : (lo m n : ℤ) (s : ℕ) → n ≢ pos 0 → lo ≤ℤ m → unsigned_abs n ≤ s
    → cond (int_lt lo (pos 0)) (int_max lo (neg_ℤ (pos (s - 1)))) (pos 0) ≤ℤ int_rem m n
remainder_above (pos l) (pos a) n s apart h k =
    cond_both (int_lt (pos l) (pos 0)) _ _ (λ e. e ≤ℤ pos (a % unsigned_abs n)) (λ e. grind (arith, ints, e)) (λ e. omega (arith, ints))
remainder_above (pos l) (negsuc a) n s apart h k = omega (arith, ints, h)
remainder_above (negsuc l) (pos a) n s apart h k = omega (arith, ints, clamps)
remainder_above (negsuc l) (negsuc a) n s apart h k =
    let less = mod_below (suc a) (unsigned_abs n) (size_positive n apart) in
    omega (arith, ints, clamps, h, k, less, mod-le (suc a) (unsigned_abs n))

remainder_below : (hi m n : ℤ) (s : ℕ) → n ≢ pos 0 → m ≤ℤ hi → unsigned_abs n ≤ s
    → int_rem m n ≤ℤ cond (int_lt (pos 0) hi) (int_min hi (pos (s - 1))) (pos 0)
remainder_below (pos h) (pos a) n s apart le k =
    let less = mod_below a (unsigned_abs n) (size_positive n apart) in
    let no_more = mod-le a (unsigned_abs n) in
    cond_both (int_lt (pos 0) (pos h)) _ _ (λ e. pos (a % unsigned_abs n) ≤ℤ e)
    (λ e. omega (arith, ints, clamps, le, k, less, no_more))
    (λ e. grind (arith, ints, le, no_more, e))
remainder_below (pos h) (negsuc a) n s apart le k =
    cond_both (int_lt (pos 0) (pos h)) _ _ (λ e. neg_ℤ (pos (suc a % unsigned_abs n)) ≤ℤ e)
    (λ e. omega (arith, ints, clamps))
    (λ e. omega (arith, ints))
remainder_below (negsuc h) (pos a) n s apart le k = omega (arith, ints, le)
remainder_below (negsuc h) (negsuc a) n s apart le k = omega (arith, ints)

remainders_contain : (a b : Interval) (m n : ℤ) → Contains a m → Contains b n → n ≢ pos 0 → Contains (remainders a b) (int_rem m n)
unfolding remainders
remainders_contain a b m n first second apart = record {
  fits = remainder_fits m n first.fits;
  above = remainder_above a.lo m n (size b) apart first.above (has_size b n second);
  below = remainder_below a.hi m n (size b) apart first.below (has_size b n second);
  no_hole = λ is. grind arith;
}

-- the remainder of one number by one
of_two : (x y m n : ℤ) → m ≡ x → n ≡ y → n ≢ pos 0 → FitsSigned w64 m
    → Contains (one (cond (int_eq y (pos 0)) (pos 0) (int_rem x y))) (int_rem m n)
of_two x y m n first second apart fits =
    cond_both (int_eq y (pos 0)) _ _ (λ r. Contains (one r) (int_rem m n))
    (λ e. elim (apart (second ∙ (Decides-int_eq y (pos 0)).0 e)) [ ])
    (λ e. rw (sym first) (rw (sym second) (one_contains (int_rem m n) (remainder_fits m n fits))))

pub remainder_contains : (a b : Interval) (m n : ℤ) → Contains a m → Contains b n → n ≢ pos 0 → Contains (remainder a b) (int_rem m n)
unfolding remainder
remainder_contains a b m n first second apart =
    cond_both (is_one a && is_one b) _ _ (λ r. Contains r (int_rem m n))
    (λ e. let parts = and_parts (is_one a) _ e in
    of_two a.lo b.lo m n (the_one a m parts.0 first) (the_one b n parts.1 second) apart first.fits)
    (λ e. remainders_contain a b m n first second apart)
