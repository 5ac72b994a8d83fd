-- What products of ranges have.
use Rattle.std.proofs.Common.{◌≡◌, ℕ, suc, ℤ, pos, negsuc, ◌*ℤ◌, ◌≤ℤ◌, ◌⊎◌, inl, inr, int_eq, true, w64, FitsSigned, arith}
use Rattle.std.proofs.lemmas.Int.{ints, clamps}
use Rattle.std.proofs.lemmas.Nat.{mul-le}
use Rattle.std.proofs.lemmas.Bool.{cond_both, and_parts}
use Rattle.std.proofs.lemmas.Bool.Decides.{Decides-int_eq}
use lib.IntN.{*ℤ_comm}
use Rattle.interval_domain.specs.Interval.{Interval, Contains}
use Rattle.interval_domain.specs.Arithmetic.{least, greatest, near_product, corners, is_number_one, product}
use Rattle.interval_domain.specs.Laws.Ends.{near_below, near_above}

-- products by a number that is not negative rise, and by a negative one they fall
times_rises : (x y : ℤ) (k : ℕ) → x ≤ℤ y → (x *ℤ pos k) ≤ℤ (y *ℤ pos k)
times_rises (pos a) (pos b) k h = let le = mul-le a k b k (omega (arith, ints, h)) (omega arith) in omega (arith, ints, le)
times_rises (pos a) (negsuc b) k h = omega (arith, ints, h)
times_rises (negsuc a) (pos b) k h = omega (arith, ints)
times_rises (negsuc a) (negsuc b) k h = let le = mul-le (suc b) k (suc a) k (omega (arith, ints, h)) (omega arith) in omega (arith, ints, le)

times_falls : (x y : ℤ) (k : ℕ) → x ≤ℤ y → (y *ℤ negsuc k) ≤ℤ (x *ℤ negsuc k)
times_falls (pos a) (pos b) k h = let le = mul-le a (suc k) b (suc k) (omega (arith, ints, h)) (omega arith) in omega (arith, ints, le)
times_falls (pos a) (negsuc b) k h = omega (arith, ints, h)
times_falls (negsuc a) (pos b) k h = omega (arith, ints)
times_falls (negsuc a) (negsuc b) k h = let le = mul-le (suc b) (suc k) (suc a) (suc k) (omega (arith, ints, h)) (omega arith) in omega (arith, ints, le)

-- a number between two, times k: one of the two times k lies below, and one above
first_below : (lo hi x k : ℤ) → lo ≤ℤ x → x ≤ℤ hi → ((lo *ℤ k) ≤ℤ (x *ℤ k)) ⊎ ((hi *ℤ k) ≤ℤ (x *ℤ k))
first_below lo hi x (pos k) above below = inl (times_rises lo x k above)
first_below lo hi x (negsuc k) above below = inr (times_falls x hi k below)

first_above : (lo hi x k : ℤ) → lo ≤ℤ x → x ≤ℤ hi → ((x *ℤ k) ≤ℤ (lo *ℤ k)) ⊎ ((x *ℤ k) ≤ℤ (hi *ℤ k))
first_above lo hi x (pos k) above below = inr (times_rises x hi k below)
first_above lo hi x (negsuc k) above below = inl (times_falls lo x k above)

second_below : (lo hi x k : ℤ) → lo ≤ℤ x → x ≤ℤ hi → ((k *ℤ lo) ≤ℤ (k *ℤ x)) ⊎ ((k *ℤ hi) ≤ℤ (k *ℤ x))
second_below lo hi x k above below = rw (*ℤ_comm k lo) (rw (*ℤ_comm k hi) (rw (*ℤ_comm k x) (first_below lo hi x k above below)))

second_above : (lo hi x k : ℤ) → lo ≤ℤ x → x ≤ℤ hi → ((k *ℤ x) ≤ℤ (k *ℤ lo)) ⊎ ((k *ℤ x) ≤ℤ (k *ℤ hi))
second_above lo hi x k above below = rw (*ℤ_comm k lo) (rw (*ℤ_comm k hi) (rw (*ℤ_comm k x) (first_above lo hi x k above below)))

-- the least of four is below what one of them is below
least_below : (p q r s x : ℤ) → ((p ≤ℤ x) ⊎ (q ≤ℤ x)) ⊎ ((r ≤ℤ x) ⊎ (s ≤ℤ x)) → least p q r s ≤ℤ x
unfolding least
least_below p q r s x (inl (inl h)) = omega (arith, ints, clamps, h)
least_below p q r s x (inl (inr h)) = omega (arith, ints, clamps, h)
least_below p q r s x (inr (inl h)) = omega (arith, ints, clamps, h)
least_below p q r s x (inr (inr h)) = omega (arith, ints, clamps, h)

greatest_above : (p q r s x : ℤ) → ((x ≤ℤ p) ⊎ (x ≤ℤ q)) ⊎ ((x ≤ℤ r) ⊎ (x ≤ℤ s)) → x ≤ℤ greatest p q r s
unfolding greatest
greatest_above p q r s x (inl (inl h)) = omega (arith, ints, clamps, h)
greatest_above p q r s x (inl (inr h)) = omega (arith, ints, clamps, h)
greatest_above p q r s x (inr (inl h)) = omega (arith, ints, clamps, h)
greatest_above p q r s x (inr (inr h)) = omega (arith, ints, clamps, h)

-- a product lies between the least and the greatest product of two ends
low_corner : (a b c d m n : ℤ) → a ≤ℤ m → m ≤ℤ b → c ≤ℤ n → n ≤ℤ d → FitsSigned w64 (m *ℤ n)
    → least (near_product a c) (near_product a d) (near_product b c) (near_product b d) ≤ℤ (m *ℤ n)
low_corner a b c d m n ma mb nc nd fits = least_below _ _ _ _ _ (elim (second_below c d n m nc nd) [
  | inl h ↦ elim (first_below a b m c ma mb) [
    | inl k ↦ inl (inl (near_below (a *ℤ c) (m *ℤ n) (omega (arith, ints, h, k)) fits))
    | inr k ↦ inr (inl (near_below (b *ℤ c) (m *ℤ n) (omega (arith, ints, h, k)) fits))
  ]
  | inr h ↦ elim (first_below a b m d ma mb) [
    | inl k ↦ inl (inr (near_below (a *ℤ d) (m *ℤ n) (omega (arith, ints, h, k)) fits))
    | inr k ↦ inr (inr (near_below (b *ℤ d) (m *ℤ n) (omega (arith, ints, h, k)) fits))
  ]
])

high_corner : (a b c d m n : ℤ) → a ≤ℤ m → m ≤ℤ b → c ≤ℤ n → n ≤ℤ d → FitsSigned w64 (m *ℤ n)
    → (m *ℤ n) ≤ℤ greatest (near_product a c) (near_product a d) (near_product b c) (near_product b d)
high_corner a b c d m n ma mb nc nd fits = greatest_above _ _ _ _ _ (elim (second_above c d n m nc nd) [
  | inl h ↦ elim (first_above a b m c ma mb) [
    | inl k ↦ inl (inl (near_above (a *ℤ c) (m *ℤ n) (omega (arith, ints, h, k)) fits))
    | inr k ↦ inr (inl (near_above (b *ℤ c) (m *ℤ n) (omega (arith, ints, h, k)) fits))
  ]
  | inr h ↦ elim (first_above a b m d ma mb) [
    | inl k ↦ inl (inr (near_above (a *ℤ d) (m *ℤ n) (omega (arith, ints, h, k)) fits))
    | inr k ↦ inr (inr (near_above (b *ℤ d) (m *ℤ n) (omega (arith, ints, h, k)) fits))
  ]
])

corners_contain : (a b : Interval) (m n : ℤ) → Contains a m → Contains b n → FitsSigned w64 (m *ℤ n) → Contains (corners a b) (m *ℤ n)
unfolding corners
corners_contain a b m n first second fits = record {
  fits = fits;
  above = low_corner a.lo a.hi b.lo b.hi m n first.above first.below second.above second.below fits;
  below = high_corner a.lo a.hi b.lo b.hi m n first.above first.below second.above second.below fits;
  no_hole = λ is. grind arith;
}

number_one : (r : Interval) (n : ℤ) → is_number_one r ≡ true → Contains r n → n ≡ pos 1
number_one r n one has =
    let parts = and_parts (int_eq r.lo (pos 1)) _ one in
    let lo = (Decides-int_eq r.lo (pos 1)).0 parts.0 in
    let hi = (Decides-int_eq r.hi (pos 1)).0 parts.1 in
    omega (arith, ints, lo, hi, has.above, has.below)

times_one : (m : ℤ) → m *ℤ pos 1 ≡ m
times_one (pos a) = omega (arith, ints)
times_one (negsuc a) = omega (arith, ints)

pub product_contains : (a b : Interval) (m n : ℤ) → Contains a m → Contains b n → FitsSigned w64 (m *ℤ n) → Contains (product a b) (m *ℤ n)
unfolding product
product_contains a b m n first second fits =
    cond_both (is_number_one b) _ _ (λ r. Contains r (m *ℤ n))
    (λ e. rw (number_one b n e second) (rw (times_one m) first))
    (λ e. cond_both (is_number_one a) _ _ (λ r. Contains r (m *ℤ n))
    (λ f. rw (number_one a m f first) (rw (*ℤ_comm (pos 1) n) (rw (times_one n) second)))
    (λ f. corners_contain a b m n first second fits))
