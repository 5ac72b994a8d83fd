-- What truncated quotients of ranges have.
use Rattle.std.proofs.Common.{◌≡◌, ◌≢◌, ℕ, zero, suc, ◌/◌, ◌≤◌, max, ℤ, pos, negsuc, neg_ℤ, ◌≤ℤ◌, ◌⊎◌, inl, inr, true, refl, None, ◌&&◌, int_eq, int_le, int_div, unsigned_abs, sym, w64, FitsSigned, arith}
use Rattle.std.specs.Int.{int_min, int_max}
use Rattle.std.proofs.lemmas.Int.{ints, clamps}
use Rattle.std.proofs.lemmas.Nat.{mul-le, le-div}
use Rattle.std.proofs.Math.Nat.{div-mul-le_self, div-le_self}
use Rattle.std.proofs.lemmas.Bool.{cond_both, and_parts}
use Rattle.std.proofs.lemmas.Bool.Decides.{Decides-int_eq}
use Rattle.interval_domain.specs.Interval.{Interval, Contains}
use Rattle.interval_domain.specs.Arithmetic.{near, is_one, size, quotient_by, quotient}
use Rattle.interval_domain.specs.Laws.Ends.{near_below, near_above}
use Rattle.interval_domain.specs.Laws.SumContains.{the_one, near_between_contains}

div_rises : (a b k : ℕ) → a ≤ b → a / suc k ≤ b / suc k
div_rises a b k h = le-div (a / suc k) b (suc k) (omega arith) (omega (arith, h, div-mul-le_self a (suc k)))

div_falls : (a k l : ℕ) → k ≤ l → a / suc l ≤ a / suc k
div_falls a k l h =
    let less = mul-le (a / suc l) (suc k) (a / suc l) (suc l) (omega arith) (omega (arith, h)) in
    le-div (a / suc l) a (suc k) (omega arith) (omega (arith, less, div-mul-le_self a (suc l)))

-- quotients by a positive number rise, and by a negative one they fall
quotient_rises : (x y : ℤ) (k : ℕ) → x ≤ℤ y → int_div x (pos (suc k)) ≤ℤ int_div y (pos (suc k))
quotient_rises (pos a) (pos b) k h = let le = div_rises a b k (omega (arith, ints, h)) in omega (arith, ints, le)
quotient_rises (pos a) (negsuc b) k h = omega (arith, ints, h)
quotient_rises (negsuc a) (pos b) k h = omega (arith, ints)
quotient_rises (negsuc a) (negsuc b) k h = let le = div_rises (suc b) (suc a) k (omega (arith, ints, h)) in omega (arith, ints, le)

quotient_falls : (x y : ℤ) (k : ℕ) → x ≤ℤ y → int_div y (negsuc k) ≤ℤ int_div x (negsuc k)
quotient_falls (pos a) (pos b) k h = let le = div_rises a b k (omega (arith, ints, h)) in omega (arith, ints, le)
quotient_falls (pos a) (negsuc b) k h = omega (arith, ints, h)
quotient_falls (negsuc a) (pos b) k h = omega (arith, ints)
quotient_falls (negsuc a) (negsuc b) k h = let le = div_rises (suc b) (suc a) k (omega (arith, ints, h)) in omega (arith, ints, le)

quotient_above : (lo hi x k : ℤ) → k ≢ pos 0 → lo ≤ℤ x → x ≤ℤ hi → (int_div lo k ≤ℤ int_div x k) ⊎ (int_div hi k ≤ℤ int_div x k)
quotient_above lo hi x (pos zero) apart above below = elim (apart refl) [ ]
quotient_above lo hi x (pos (suc k)) apart above below = inl (quotient_rises lo x k above)
quotient_above lo hi x (negsuc k) apart above below = inr (quotient_falls x hi k below)

quotient_below : (lo hi x k : ℤ) → k ≢ pos 0 → lo ≤ℤ x → x ≤ℤ hi → (int_div x k ≤ℤ int_div lo k) ⊎ (int_div x k ≤ℤ int_div hi k)
quotient_below lo hi x (pos zero) apart above below = elim (apart refl) [ ]
quotient_below lo hi x (pos (suc k)) apart above below = inr (quotient_rises x hi k below)
quotient_below lo hi x (negsuc k) apart above below = inl (quotient_falls lo x k above)

lesser_below : (p q x : ℤ) → FitsSigned w64 x → (p ≤ℤ x) ⊎ (q ≤ℤ x) → int_min (near p) (near q) ≤ℤ x
lesser_below p q x fits (inl h) = let below = near_below p x h fits in omega (arith, ints, clamps, below)
lesser_below p q x fits (inr h) = let below = near_below q x h fits in omega (arith, ints, clamps, below)

greater_above : (p q x : ℤ) → FitsSigned w64 x → (x ≤ℤ p) ⊎ (x ≤ℤ q) → x ≤ℤ int_max (near p) (near q)
greater_above p q x fits (inl h) = let above = near_above p x h fits in omega (arith, ints, clamps, above)
greater_above p q x fits (inr h) = let above = near_above q x h fits in omega (arith, ints, clamps, above)

by_one : (r : Interval) (m n : ℤ) → Contains r m → n ≢ pos 0 → FitsSigned w64 (int_div m n) → Contains (quotient_by r n) (int_div m n)
unfolding quotient_by
by_one r m n has apart fits = cond_both (int_eq n (pos 0)) _ _ (λ s. Contains s (int_div m n))
    (λ e. elim (apart ((Decides-int_eq n (pos 0)).0 e)) [ ])
    (λ e. record {
      fits = fits;
      above = lesser_below _ _ _ fits (quotient_above r.lo r.hi m n apart has.above has.below);
      below = greater_above _ _ _ fits (quotient_below r.lo r.hi m n apart has.above has.below);
      no_hole = λ is. grind arith;
    })

-- no quotient of numbers that are not negative is above the greatest by the least
quotient_upto : (h l m n : ℤ) → pos 0 ≤ℤ m → m ≤ℤ h → pos 1 ≤ℤ l → l ≤ℤ n → int_div m n ≤ℤ int_div h l
quotient_upto h l (negsuc m) n p q r s = omega (arith, ints, p)
quotient_upto (negsuc h) l (pos m) n p q r s = omega (arith, ints, q)
quotient_upto (pos h) (negsuc l) (pos m) n p q r s = omega (arith, ints, r)
quotient_upto (pos h) (pos l) (pos m) (negsuc n) p q r s = omega (arith, ints, s)
quotient_upto (pos h) (pos zero) (pos m) (pos n) p q r s = omega (arith, ints, r)
quotient_upto (pos h) (pos (suc l)) (pos m) (pos zero) p q r s = omega (arith, ints, s)
quotient_upto (pos h) (pos (suc l)) (pos m) (pos (suc n)) p q r s =
    let first = div_falls m l n (omega (arith, ints, s)) in
    let second = div_rises m h l (omega (arith, ints, q)) in
    omega (arith, ints, first, second)

quotient_from : (m n : ℤ) → pos 0 ≤ℤ m → pos 1 ≤ℤ n → pos 0 ≤ℤ int_div m n
quotient_from (negsuc m) n p q = omega (arith, ints, p)
quotient_from (pos m) (negsuc n) p q = omega (arith, ints, q)
quotient_from (pos m) (pos n) p q = omega (arith, ints)

no_quotient_more : (a b : Interval) (m n : ℤ) → (int_le (pos 0) a.lo && int_le (pos 1) b.lo) ≡ true → Contains a m → Contains b n
    → FitsSigned w64 (int_div m n) → Contains (record { lo = pos 0; hi = int_div a.hi b.lo; hole = None }) (int_div m n)
no_quotient_more a b m n low first second fits =
    let parts = and_parts (int_le (pos 0) a.lo) _ low in
    let dividend : pos 0 ≤ℤ m = grind (arith, ints, parts.0, first.above) in
    let divisor : pos 1 ≤ℤ b.lo = grind (arith, ints, parts.1) in
    record {
      fits = fits;
      above = quotient_from m n dividend (omega (arith, ints, divisor, second.above));
      below = quotient_upto a.hi b.lo m n dividend first.below divisor second.above;
      no_hole = λ is. grind arith;
    }

-- the size of a number of a range
within_size : (lo hi m : ℤ) → lo ≤ℤ m → m ≤ℤ hi → unsigned_abs m ≤ max (unsigned_abs lo) (unsigned_abs hi)
within_size (pos lo) (pos hi) (pos m) h k = omega (arith, ints, h, k)
within_size (pos lo) (pos hi) (negsuc m) h k = omega (arith, ints, h, k)
within_size (pos lo) (negsuc hi) (pos m) h k = omega (arith, ints, h, k)
within_size (pos lo) (negsuc hi) (negsuc m) h k = omega (arith, ints, h, k)
within_size (negsuc lo) (pos hi) (pos m) h k = omega (arith, ints, h, k)
within_size (negsuc lo) (pos hi) (negsuc m) h k = omega (arith, ints, h, k)
within_size (negsuc lo) (negsuc hi) (pos m) h k = omega (arith, ints, h, k)
within_size (negsuc lo) (negsuc hi) (negsuc m) h k = omega (arith, ints, h, k)

pub has_size : (r : Interval) (m : ℤ) → Contains r m → unsigned_abs m ≤ size r
unfolding size
has_size r m has = within_size r.lo r.hi m has.above has.below

-- a quotient is no larger than the dividend
size_above : (m n : ℤ) (s : ℕ) → unsigned_abs m ≤ s → neg_ℤ (pos s) ≤ℤ int_div m n
size_above (pos a) (pos b) s h = omega (arith, ints)
size_above (pos a) (negsuc b) s h = omega (arith, ints, h, div-le_self a (suc b))
size_above (negsuc a) (pos b) s h = omega (arith, ints, h, div-le_self (suc a) b)
size_above (negsuc a) (negsuc b) s h = omega (arith, ints)

size_below : (m n : ℤ) (s : ℕ) → unsigned_abs m ≤ s → int_div m n ≤ℤ pos s
size_below (pos a) (pos b) s h = omega (arith, ints, h, div-le_self a b)
size_below (pos a) (negsuc b) s h = omega (arith, ints)
size_below (negsuc a) (pos b) s h = omega (arith, ints)
size_below (negsuc a) (negsuc b) s h = omega (arith, ints, h, div-le_self (suc a) (suc b))

pub quotient_contains : (a b : Interval) (m n : ℤ) → Contains a m → Contains b n → n ≢ pos 0 → FitsSigned w64 (int_div m n)
    → Contains (quotient a b) (int_div m n)
unfolding quotient
quotient_contains a b m n first second apart fits =
    cond_both (is_one b) _ _ (λ r. Contains r (int_div m n))
    (λ e. rw (sym (the_one b n e second)) (by_one a m n first apart fits))
    (λ e. cond_both (int_le (pos 0) a.lo && int_le (pos 1) b.lo) _ _ (λ r. Contains r (int_div m n))
    (λ f. no_quotient_more a b m n f first second fits)
    (λ f. let large = has_size a m first in
    near_between_contains (neg_ℤ (pos (size a))) (pos (size a)) (int_div m n) (size_above m n (size a) large) (size_below m n (size a) large) fits))
