-- What sums and differences of ranges have.
use Rattle.std.proofs.Common.{◌≡◌, ◌≢◌, ℤ, pos, negsuc, ◌+ℤ◌, ◌-ℤ◌, ◌≤ℤ◌, ◌<ℤ◌, true, int_lt, Option, Some, None, sym, ap, w64, FitsSigned, arith}
use Rattle.std.proofs.lemmas.Int.{ints}
use Rattle.std.proofs.lemmas.Bool.{cond_both, and_parts}
use Rattle.std.proofs.lemmas.Bool.Decides.{Decides-int_eq}
use Rattle.interval_domain.specs.Interval.{Interval, Contains, inner_hole, is_inside, holed}
use Rattle.interval_domain.specs.Joins.{LEAST_64, GREATEST_64}
use Rattle.interval_domain.specs.Arithmetic.{near, near_between, is_one, moved_hole, shifted, hole_down, shifted_down, sum, difference}
use Rattle.interval_domain.specs.Laws.Ends.{near_below, near_above}

-- a number that is brought to 64 bits, and stays below both ends, is itself
near_same : (x : ℤ) → LEAST_64 <ℤ near x → near x <ℤ GREATEST_64 → near x ≡ x
unfolding near
near_same (pos a) h k = grind (arith, ints)
near_same (negsuc a) h k = grind (arith, ints)

near_least : (x : ℤ) → LEAST_64 ≤ℤ near x
unfolding near
near_least (pos a) = grind (arith, ints)
near_least (negsuc a) = grind (arith, ints)

near_greatest : (x : ℤ) → near x ≤ℤ GREATEST_64
unfolding near
near_greatest (pos a) = grind (arith, ints)
near_greatest (negsuc a) = grind (arith, ints)

between_same : (a b x : ℤ) → is_inside (near a) (near b) (near x) ≡ true → near x ≡ x
between_same a b x inside =
    let parts = and_parts (int_lt (near a) (near x)) _ inside in
    let least = near_least a in
    let greatest = near_greatest b in
    near_same x (grind (arith, ints, least, parts.0)) (grind (arith, ints, greatest, parts.1))

-- a hole that goes along counts only where it is exact
near_apart : (a b x n : ℤ) → x ≢ n → inner_hole (near a) (near b) (Some (near x)) ≢ Some n
unfolding inner_hole
near_apart a b x n apart =
    cond_both (is_inside (near a) (near b) (near x)) (Some (near x)) None (λ o. o ≢ Some n)
    (λ e is. let same = between_same a b x e in grind arith) (λ e is. grind arith)

near_none : (a b n : ℤ) → inner_hole a b None ≢ Some n
unfolding inner_hole
near_none a b n = λ is. grind arith

moved_apart : (a b k m : ℤ) (hole : Option ℤ) → hole ≢ Some m → inner_hole (near a) (near b) (moved_hole hole k) ≢ Some (m +ℤ k)
moved_apart a b k m None apart = near_none (near a) (near b) (m +ℤ k)
moved_apart a b k m (Some h) apart = near_apart a b (h +ℤ k) (m +ℤ k) (λ e. apart (ap Some (omega (arith, ints))))

down_apart : (a b k m : ℤ) (hole : Option ℤ) → hole ≢ Some m → inner_hole (near a) (near b) (hole_down hole k) ≢ Some (m -ℤ k)
down_apart a b k m None apart = near_none (near a) (near b) (m -ℤ k)
down_apart a b k m (Some h) apart = near_apart a b (h -ℤ k) (m -ℤ k) (λ e. apart (ap Some (omega (arith, ints))))

pub near_between_contains : (lo hi n : ℤ) → lo ≤ℤ n → n ≤ℤ hi → FitsSigned w64 n → Contains (near_between lo hi) n
unfolding near_between
near_between_contains lo hi n above below fits =
    record { fits = fits; above = near_below lo n above fits; below = near_above hi n below fits; no_hole = λ is. grind arith }

shifted_contains : (r : Interval) (m k : ℤ) → Contains r m → FitsSigned w64 (m +ℤ k) → Contains (shifted r k) (m +ℤ k)
unfolding shifted holed
shifted_contains r m k has fits = record {
  fits = fits;
  above = near_below (r.lo +ℤ k) (m +ℤ k) (omega (arith, ints, has.above)) fits;
  below = near_above (r.hi +ℤ k) (m +ℤ k) (omega (arith, ints, has.below)) fits;
  no_hole = moved_apart (r.lo +ℤ k) (r.hi +ℤ k) k m r.hole has.no_hole;
}

shifted_down_contains : (r : Interval) (m k : ℤ) → Contains r m → FitsSigned w64 (m -ℤ k) → Contains (shifted_down r k) (m -ℤ k)
unfolding shifted_down holed
shifted_down_contains r m k has fits = record {
  fits = fits;
  above = near_below (r.lo -ℤ k) (m -ℤ k) (omega (arith, ints, has.above)) fits;
  below = near_above (r.hi -ℤ k) (m -ℤ k) (omega (arith, ints, has.below)) fits;
  no_hole = down_apart (r.lo -ℤ k) (r.hi -ℤ k) k m r.hole has.no_hole;
}

-- a range of one number has that alone
pub the_one : (r : Interval) (n : ℤ) → is_one r ≡ true → Contains r n → n ≡ r.lo
the_one r n one has =
    let same = (Decides-int_eq r.lo r.hi).0 one in
    omega (arith, ints, same, has.above, has.below)

one_first : (a b : Interval) (m n : ℤ) → is_one a ≡ true → Contains a m → Contains b n → FitsSigned w64 (m +ℤ n) → Contains (shifted b a.lo) (m +ℤ n)
one_first a b m n one first second fits =
    let is = the_one a m one first in
    let turned : (m +ℤ n) ≡ (n +ℤ m) = omega (arith, ints) in
    rw (sym is) (rw turned (shifted_contains b n m second (rw (sym turned) fits)))

pub sum_contains : (a b : Interval) (m n : ℤ) → Contains a m → Contains b n → FitsSigned w64 (m +ℤ n) → Contains (sum a b) (m +ℤ n)
unfolding sum
sum_contains a b m n first second fits =
    cond_both (is_one b) _ _ (λ r. Contains r (m +ℤ n))
    (λ e. rw (sym (the_one b n e second)) (shifted_contains a m n first fits))
    (λ e. cond_both (is_one a) _ _ (λ r. Contains r (m +ℤ n))
    (λ f. one_first a b m n f first second fits)
    (λ f. near_between_contains (a.lo +ℤ b.lo) (a.hi +ℤ b.hi) (m +ℤ n) (omega (arith, ints, first.above, second.above)) (omega (arith, ints, first.below, second.below)) fits))

pub difference_contains : (a b : Interval) (m n : ℤ) → Contains a m → Contains b n → FitsSigned w64 (m -ℤ n) → Contains (difference a b) (m -ℤ n)
unfolding difference
difference_contains a b m n first second fits =
    cond_both (is_one b) _ _ (λ r. Contains r (m -ℤ n))
    (λ e. rw (sym (the_one b n e second)) (shifted_down_contains a m n first fits))
    (λ e. near_between_contains (a.lo -ℤ b.hi) (a.hi -ℤ b.lo) (m -ℤ n) (omega (arith, ints, first.above, second.below)) (omega (arith, ints, first.below, second.above)) fits)
