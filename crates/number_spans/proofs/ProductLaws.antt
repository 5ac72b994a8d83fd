-- What corners say of products is true of them.
use Rattle.std.proofs.Common.{◌≡◌, ℕ, suc, ℤ, pos, negsuc, ◌*ℤ◌, ◌≤ℤ◌, ◌⊎◌, inl, inr, FitsSigned, sym, arith, w32}
use Rattle.std.proofs.lemmas.Int.{ints, clamps, int_wrap_fits}
use Rattle.std.proofs.lemmas.Nat.{mul-le}
use lib.IntN.{*ℤ_comm}
use Rattle.cc_base.specs.Wrap.{wrap32}
use Rattle.interval_domain.specs.Arithmetic.{least, greatest}
use Rattle.number_spans.specs.Product.{corners}
use Rattle.number_spans.specs.Spans.{Has}
use Rattle.number_spans.specs.declared.span.Span.{Span}
use Rattle.number_spans.proofs.Wrapping.{between_has}

-- products by a number that is not negative rise, and by a negative one they fall
times_rises : (x y : ℤ) (k : ℕ) → x ≤ℤ y → (x *ℤ pos k) ≤ℤ (y *ℤ pos k)
times_rises (pos a) (pos b) k h = let le = mul-le a k b k (omega (arith, ints, h)) (omega arith) in omega (arith, ints, le)
times_rises (pos a) (negsuc b) k h = omega (arith, ints, h)
times_rises (negsuc a) (pos b) k h = omega (arith, ints)
times_rises (negsuc a) (negsuc b) k h = let le = mul-le (suc b) k (suc a) k (omega (arith, ints, h)) (omega arith) in omega (arith, ints, le)

times_falls : (x y : ℤ) (k : ℕ) → x ≤ℤ y → (y *ℤ negsuc k) ≤ℤ (x *ℤ negsuc k)
times_falls (pos a) (pos b) k h = let le = mul-le a (suc k) b (suc k) (omega (arith, ints, h)) (omega arith) in omega (arith, ints, le)
times_falls (pos a) (negsuc b) k h = omega (arith, ints, h)
times_falls (negsuc a) (pos b) k h = omega (arith, ints)
times_falls (negsuc a) (negsuc b) k h = let le = mul-le (suc b) (suc k) (suc a) (suc k) (omega (arith, ints, h)) (omega arith) in omega (arith, ints, le)

-- a number between two, times k: one of the two times k lies below, and one above
first_below : (lo hi x k : ℤ) → lo ≤ℤ x → x ≤ℤ hi → ((lo *ℤ k) ≤ℤ (x *ℤ k)) ⊎ ((hi *ℤ k) ≤ℤ (x *ℤ k))
first_below lo hi x (pos k) above below = inl (times_rises lo x k above)
first_below lo hi x (negsuc k) above below = inr (times_falls x hi k below)

first_above : (lo hi x k : ℤ) → lo ≤ℤ x → x ≤ℤ hi → ((x *ℤ k) ≤ℤ (lo *ℤ k)) ⊎ ((x *ℤ k) ≤ℤ (hi *ℤ k))
first_above lo hi x (pos k) above below = inr (times_rises x hi k below)
first_above lo hi x (negsuc k) above below = inl (times_falls lo x k above)

second_below : (lo hi x k : ℤ) → lo ≤ℤ x → x ≤ℤ hi → ((k *ℤ lo) ≤ℤ (k *ℤ x)) ⊎ ((k *ℤ hi) ≤ℤ (k *ℤ x))
second_below lo hi x k above below = rw (*ℤ_comm k lo) (rw (*ℤ_comm k hi) (rw (*ℤ_comm k x) (first_below lo hi x k above below)))

second_above : (lo hi x k : ℤ) → lo ≤ℤ x → x ≤ℤ hi → ((k *ℤ x) ≤ℤ (k *ℤ lo)) ⊎ ((k *ℤ x) ≤ℤ (k *ℤ hi))
second_above lo hi x k above below = rw (*ℤ_comm k lo) (rw (*ℤ_comm k hi) (rw (*ℤ_comm k x) (first_above lo hi x k above below)))

-- the least of four is below what one of them is below
least_below : (p q r s x : ℤ) → ((p ≤ℤ x) ⊎ (q ≤ℤ x)) ⊎ ((r ≤ℤ x) ⊎ (s ≤ℤ x)) → least p q r s ≤ℤ x
unfolding least
least_below p q r s x (inl (inl h)) = omega (arith, ints, clamps, h)
least_below p q r s x (inl (inr h)) = omega (arith, ints, clamps, h)
least_below p q r s x (inr (inl h)) = omega (arith, ints, clamps, h)
least_below p q r s x (inr (inr h)) = omega (arith, ints, clamps, h)

greatest_above : (p q r s x : ℤ) → ((x ≤ℤ p) ⊎ (x ≤ℤ q)) ⊎ ((x ≤ℤ r) ⊎ (x ≤ℤ s)) → x ≤ℤ greatest p q r s
unfolding greatest
greatest_above p q r s x (inl (inl h)) = omega (arith, ints, clamps, h)
greatest_above p q r s x (inl (inr h)) = omega (arith, ints, clamps, h)
greatest_above p q r s x (inr (inl h)) = omega (arith, ints, clamps, h)
greatest_above p q r s x (inr (inr h)) = omega (arith, ints, clamps, h)

-- a product lies between the least and the greatest product of two ends
low_corner : (a b c d m n : ℤ) → a ≤ℤ m → m ≤ℤ b → c ≤ℤ n → n ≤ℤ d → least (a *ℤ c) (a *ℤ d) (b *ℤ c) (b *ℤ d) ≤ℤ (m *ℤ n)
low_corner a b c d m n ma mb nc nd = least_below _ _ _ _ _ (elim (second_below c d n m nc nd) [
  | inl h ↦ elim (first_below a b m c ma mb) [
    | inl k ↦ inl (inl (omega (arith, ints, h, k)))
    | inr k ↦ inr (inl (omega (arith, ints, h, k)))
  ]
  | inr h ↦ elim (first_below a b m d ma mb) [
    | inl k ↦ inl (inr (omega (arith, ints, h, k)))
    | inr k ↦ inr (inr (omega (arith, ints, h, k)))
  ]
])

high_corner : (a b c d m n : ℤ) → a ≤ℤ m → m ≤ℤ b → c ≤ℤ n → n ≤ℤ d → (m *ℤ n) ≤ℤ greatest (a *ℤ c) (a *ℤ d) (b *ℤ c) (b *ℤ d)
high_corner a b c d m n ma mb nc nd = greatest_above _ _ _ _ _ (elim (second_above c d n m nc nd) [
  | inl h ↦ elim (first_above a b m c ma mb) [
    | inl k ↦ inl (inl (omega (arith, ints, h, k)))
    | inr k ↦ inr (inl (omega (arith, ints, h, k)))
  ]
  | inr h ↦ elim (first_above a b m d ma mb) [
    | inl k ↦ inl (inr (omega (arith, ints, h, k)))
    | inr k ↦ inr (inr (omega (arith, ints, h, k)))
  ]
])

pub corners_have : (r q : Span) (m n : ℤ) → Has r m → Has q n → Has (corners r q) (m *ℤ n)
unfolding corners
corners_have r q m n first second =
    between_has _ _ _ (low_corner r.lo r.hi q.lo q.hi m n first.above first.below second.above second.below)
    (high_corner r.lo r.hi q.lo q.hi m n first.above first.below second.above second.below)

pub times_one : (m : ℤ) → m *ℤ pos 1 ≡ m
times_one (pos a) = omega (arith, ints)
times_one (negsuc a) = omega (arith, ints)

-- a product by 1 is the other number, wrapped
pub by_one : (m n : ℤ) → FitsSigned w32 m → n ≡ pos 1 → m ≡ wrap32 (m *ℤ n)
by_one m n fits is = rw is (rw (times_one m) (sym (int_wrap_fits w32 m fits)))
