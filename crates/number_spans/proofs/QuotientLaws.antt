-- What is known of truncated quotients is true of them.
use Rattle.std.proofs.Common.{◌≡◌, ◌≢◌, ℕ, zero, suc, ◌/◌, ◌≤◌, max, ℤ, pos, negsuc, neg_ℤ, ◌≤ℤ◌, ◌⊎◌, inl, inr, true, ◌&&◌, cond, Bool, false, int_le, int_div, unsigned_abs, refl, arith}
use Rattle.std.specs.Int.{int_min, int_max}
use Rattle.std.proofs.lemmas.Bool.{cond_both, and_parts}
use Rattle.std.proofs.lemmas.Int.{ints, clamps}
use Rattle.std.proofs.lemmas.Nat.{mul-le, le-div}
use Rattle.std.proofs.Math.Nat.{div-mul-le_self, div-le_self}
use Rattle.number_spans.specs.Quotient.{size, quotients_by, plain_quotients, quotients}
use Rattle.number_spans.specs.Spans.{Has, between}
use Rattle.number_spans.specs.declared.span.Span.{Span}
use Rattle.number_spans.proofs.Wrapping.{between_has}

div_rises : (a b k : ℕ) → a ≤ b → a / suc k ≤ b / suc k
div_rises a b k h = le-div (a / suc k) b (suc k) (omega arith) (omega (arith, h, div-mul-le_self a (suc k)))

div_falls : (a k l : ℕ) → k ≤ l → a / suc l ≤ a / suc k
div_falls a k l h =
    let less = mul-le (a / suc l) (suc k) (a / suc l) (suc l) (omega arith) (omega (arith, h)) in
    le-div (a / suc l) a (suc k) (omega arith) (omega (arith, less, div-mul-le_self a (suc l)))

-- quotients by a positive number rise, and by a negative one they fall
quotient_rises : (x y : ℤ) (k : ℕ) → x ≤ℤ y → int_div x (pos (suc k)) ≤ℤ int_div y (pos (suc k))
quotient_rises (pos a) (pos b) k h = let le = div_rises a b k (omega (arith, ints, h)) in omega (arith, ints, le)
quotient_rises (pos a) (negsuc b) k h = omega (arith, ints, h)
quotient_rises (negsuc a) (pos b) k h = omega (arith, ints)
quotient_rises (negsuc a) (negsuc b) k h = let le = div_rises (suc b) (suc a) k (omega (arith, ints, h)) in omega (arith, ints, le)

quotient_falls : (x y : ℤ) (k : ℕ) → x ≤ℤ y → int_div y (negsuc k) ≤ℤ int_div x (negsuc k)
quotient_falls (pos a) (pos b) k h = let le = div_rises a b k (omega (arith, ints, h)) in omega (arith, ints, le)
quotient_falls (pos a) (negsuc b) k h = omega (arith, ints, h)
quotient_falls (negsuc a) (pos b) k h = omega (arith, ints)
quotient_falls (negsuc a) (negsuc b) k h = let le = div_rises (suc b) (suc a) k (omega (arith, ints, h)) in omega (arith, ints, le)

quotient_above : (lo hi x k : ℤ) → k ≢ pos 0 → lo ≤ℤ x → x ≤ℤ hi → (int_div lo k ≤ℤ int_div x k) ⊎ (int_div hi k ≤ℤ int_div x k)
quotient_above lo hi x (pos zero) apart above below = elim (apart refl) [ ]
quotient_above lo hi x (pos (suc k)) apart above below = inl (quotient_rises lo x k above)
quotient_above lo hi x (negsuc k) apart above below = inr (quotient_falls x hi k below)

quotient_below : (lo hi x k : ℤ) → k ≢ pos 0 → lo ≤ℤ x → x ≤ℤ hi → (int_div x k ≤ℤ int_div lo k) ⊎ (int_div x k ≤ℤ int_div hi k)
quotient_below lo hi x (pos zero) apart above below = elim (apart refl) [ ]
quotient_below lo hi x (pos (suc k)) apart above below = inr (quotient_rises x hi k below)
quotient_below lo hi x (negsuc k) apart above below = inl (quotient_falls lo x k above)

lesser_below : (p q x : ℤ) → (p ≤ℤ x) ⊎ (q ≤ℤ x) → int_min p q ≤ℤ x
lesser_below p q x (inl h) = omega (arith, ints, clamps, h)
lesser_below p q x (inr h) = omega (arith, ints, clamps, h)

greater_above : (p q x : ℤ) → (x ≤ℤ p) ⊎ (x ≤ℤ q) → x ≤ℤ int_max p q
greater_above p q x (inl h) = omega (arith, ints, clamps, h)
greater_above p q x (inr h) = omega (arith, ints, clamps, h)

-- the quotient of a number of a range by a number
by_has : (r : Span) (m n : ℤ) → Has r m → n ≢ pos 0 → Has (quotients_by r n) (int_div m n)
unfolding quotients_by
by_has r m n has apart =
    between_has _ _ _ (lesser_below _ _ _ (quotient_above r.lo r.hi m n apart has.above has.below)) (greater_above _ _ _ (quotient_below r.lo r.hi m n apart has.above has.below))

-- no quotient of numbers that are not negative is above the greatest by the least
quotient_upto : (h l m n : ℤ) → pos 0 ≤ℤ m → m ≤ℤ h → pos 1 ≤ℤ l → l ≤ℤ n → int_div m n ≤ℤ int_div h l
quotient_upto h l (negsuc m) n p q r s = omega (arith, ints, p)
quotient_upto (negsuc h) l (pos m) n p q r s = omega (arith, ints, q)
quotient_upto (pos h) (negsuc l) (pos m) n p q r s = omega (arith, ints, r)
quotient_upto (pos h) (pos l) (pos m) (negsuc n) p q r s = omega (arith, ints, s)
quotient_upto (pos h) (pos zero) (pos m) (pos n) p q r s = omega (arith, ints, r)
quotient_upto (pos h) (pos (suc l)) (pos m) (pos zero) p q r s = omega (arith, ints, s)
quotient_upto (pos h) (pos (suc l)) (pos m) (pos (suc n)) p q r s =
    let first = div_rises m h n (omega (arith, ints, q)) in
    let second = div_falls h l n (omega (arith, ints, s)) in
    omega (arith, ints, first, second)

quotient_from : (m n : ℤ) → pos 0 ≤ℤ m → pos 1 ≤ℤ n → pos 0 ≤ℤ int_div m n
quotient_from (negsuc m) n p q = omega (arith, ints, p)
quotient_from (pos m) (negsuc n) p q = omega (arith, ints, q)
quotient_from (pos m) (pos n) p q = omega (arith, ints)

-- the size of a number of a range
within_size : (lo hi m : ℤ) → lo ≤ℤ m → m ≤ℤ hi → unsigned_abs m ≤ max (unsigned_abs lo) (unsigned_abs hi)
within_size (pos lo) (pos hi) (pos m) h k = omega (arith, ints, h, k)
within_size (pos lo) (pos hi) (negsuc m) h k = omega (arith, ints, h, k)
within_size (pos lo) (negsuc hi) (pos m) h k = omega (arith, ints, h, k)
within_size (pos lo) (negsuc hi) (negsuc m) h k = omega (arith, ints, h, k)
within_size (negsuc lo) (pos hi) (pos m) h k = omega (arith, ints, h, k)
within_size (negsuc lo) (pos hi) (negsuc m) h k = omega (arith, ints, h, k)
within_size (negsuc lo) (negsuc hi) (pos m) h k = omega (arith, ints, h, k)
within_size (negsuc lo) (negsuc hi) (negsuc m) h k = omega (arith, ints, h, k)

pub has_size : (r : Span) (m : ℤ) → Has r m → pos (unsigned_abs m) ≤ℤ size r
unfolding size
has_size r m has = let le = within_size r.lo r.hi m has.above has.below in omega (arith, ints, le)

-- a quotient is no larger than the dividend
size_above : (m n s : ℤ) → pos (unsigned_abs m) ≤ℤ s → neg_ℤ s ≤ℤ int_div m n
size_above (pos a) (pos b) s h = omega (arith, ints, h)
size_above (pos a) (negsuc b) s h = omega (arith, ints, h, div-le_self a (suc b))
size_above (negsuc a) (pos b) s h = omega (arith, ints, h, div-le_self (suc a) b)
size_above (negsuc a) (negsuc b) s h = omega (arith, ints, h)

size_below : (m n s : ℤ) → pos (unsigned_abs m) ≤ℤ s → int_div m n ≤ℤ s
size_below (pos a) (pos b) s h = omega (arith, ints, h, div-le_self a b)
size_below (pos a) (negsuc b) s h = omega (arith, ints, h)
size_below (negsuc a) (pos b) s h = omega (arith, ints, h)
size_below (negsuc a) (negsuc b) s h = omega (arith, ints, h, div-le_self (suc a) (suc b))

le-true : (m n : ℤ) → int_le m n ≡ true → m ≤ℤ n
le-true m n e = omega (arith, ints)

-- what is known of the divisor where it is a constant: the ends are it
abbrev IsConstantEnd : Bool → Span → ℤ → Type 0
IsConstantEnd by_constant q n = by_constant ≡ true → n ≡ q.lo

plain_has : (r q : Span) (m n : ℤ) (c : Bool) → pos 0 ≤ℤ r.lo → pos 1 ≤ℤ q.lo → Has r m → Has q n → IsConstantEnd c q n → Has (plain_quotients r q c) (int_div m n)
plain_has r q m n true low one first second is =
    let lower = quotient_upto m n r.lo q.lo low first.above (omega (arith, ints, one, second.above)) (omega (arith, ints, is refl)) in
    between_has _ _ _ lower (quotient_upto r.hi q.lo m n (omega (arith, ints, low, first.above)) first.below one second.above)
plain_has r q m n false low one first second is =
    let dividend : pos 0 ≤ℤ m = omega (arith, ints, low, first.above) in
    between_has _ _ _ (quotient_from m n dividend (omega (arith, ints, one, second.above))) (quotient_upto r.hi q.lo m n dividend first.below one second.above)

otherwise_has : (r q : Span) (m n : ℤ) (c : Bool) → Has r m → n ≢ pos 0 → IsConstantEnd c q n
    → Has (cond c (quotients_by r q.lo) (between (neg_ℤ (size r)) (size r))) (int_div m n)
otherwise_has r q m n true first apart is = rw (← is refl) (by_has r m n first apart)
otherwise_has r q m n false first apart is =
    let large = has_size r m first in between_has _ _ _ (size_above m n (size r) large) (size_below m n (size r) large)

pub quotients_have : (r q : Span) (m n : ℤ) (c : Bool) → Has r m → Has q n → n ≢ pos 0 → IsConstantEnd c q n → Has (quotients r q c) (int_div m n)
unfolding quotients
quotients_have r q m n c first second apart is =
    cond_both (int_le (pos 0) r.lo && int_le (pos 1) q.lo) _ _ (λ s. Has s (int_div m n))
    (λ e. let parts = and_parts (int_le (pos 0) r.lo) _ e in
    plain_has r q m n c (le-true (pos 0) r.lo parts.0) (le-true (pos 1) q.lo parts.1) first second is)
    (λ e. otherwise_has r q m n c first apart is)
