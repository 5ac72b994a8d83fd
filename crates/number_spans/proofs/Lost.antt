-- Ranges keep the numbers that they do not lose.
use Rattle.std.proofs.Common.{◌≡◌, ◌≢◌, ℤ, ◌≤ℤ◌, true, false, ◌||◌, int_lt, int_le, int_eq, Option, Some, None, sym, ap, ◌∙◌, arith}
use Rattle.std.proofs.lemmas.Int.{ints}
use Rattle.std.proofs.lemmas.Bool.{cond_both}
use Rattle.std.proofs.lemmas.Bool.Decides.{Decides-int_eq}
use Rattle.interval_domain.specs.Interval.{Interval, interval, between, is_hole, raised, lowered, lost, without}
use Rattle.number_spans.specs.Stored.{Allows}
use Rattle.number_spans.specs.Stored.{range_without}
use Rattle.number_spans.specs.Stored.{SomeAllows}

-- a hole that is a number is no number of the range
hole_apart : (hole : Option ℤ) (k n : ℤ) → is_hole hole k ≡ true → hole ≢ Some n → n ≢ k
hole_apart None k n is apart = λ e. grind (arith, is)
hole_apart (Some h) k n is apart = λ e. apart (ap Some ((Decides-int_eq h k).0 is ∙ sym e))

interval_allows : (lo hi n : ℤ) (hole : Option ℤ) → lo ≤ℤ n → n ≤ℤ hi → hole ≢ Some n → Allows (interval lo hi hole) n
interval_allows lo hi n hole above below apart = record { above = above; below = below; no_hole = apart }

between_allows : (lo hi n : ℤ) → lo ≤ℤ n → n ≤ℤ hi → Allows (between lo hi) n
between_allows lo hi n above below = interval_allows lo hi n None above below (λ is. grind arith)

raised_allows : (lo hi n : ℤ) (hole : Option ℤ) → lo ≤ℤ n → n ≤ℤ hi → hole ≢ Some n → Allows (raised lo hi hole) n
unfolding raised
raised_allows lo hi n hole above below apart = cond_both (is_hole hole lo) _ _ (λ r. Allows r n)
    (λ e. let other = hole_apart hole lo n e apart in between_allows _ _ n (omega (arith, ints, above, other)) below)
    (λ e. interval_allows lo hi n hole above below apart)

lowered_allows : (lo hi n : ℤ) (hole : Option ℤ) → lo ≤ℤ n → n ≤ℤ hi → hole ≢ Some n → Allows (lowered lo hi hole) n
unfolding lowered
lowered_allows lo hi n hole above below apart = cond_both (is_hole hole hi) _ _ (λ r. Allows r n)
    (λ e. let other = hole_apart hole hi n e apart in between_allows _ _ n above (omega (arith, ints, below, other)))
    (λ e. interval_allows lo hi n hole above below apart)

lost_allows : (r : Interval) (k n : ℤ) → Allows r n → n ≢ k → Allows (lost r k) n
unfolding lost
lost_allows r k n allowed other = cond_both (int_eq k r.lo) _ _ (λ q. Allows q n)
    (λ e. let is = (Decides-int_eq k r.lo).0 e in
    raised_allows _ r.hi n r.hole (omega (arith, ints, is, other, allowed.above)) allowed.below allowed.no_hole)
    (λ e. cond_both (int_eq k r.hi) _ _ (λ q. Allows q n)
    (λ f. let is = (Decides-int_eq k r.hi).0 f in
    lowered_allows r.lo _ n r.hole allowed.above (omega (arith, ints, is, other, allowed.below)) allowed.no_hole)
    (λ f. interval_allows r.lo r.hi n (Some k) allowed.above allowed.below (λ is. other (grind (arith, is)))))

-- the one number of a range that has k is k
only_number : (lo hi k n : ℤ) → (int_lt k lo || int_lt hi k) ≡ false → int_eq lo hi ≡ true → lo ≤ℤ n → n ≤ℤ hi → n ≡ k
only_number lo hi k n inside one above below =
    let same = (Decides-int_eq lo hi).0 one in grind (arith, ints, inside, same, above, below)

pub without_allows : (r : Interval) (k n : ℤ) → Allows r n → n ≢ k → SomeAllows (without r k) n
unfolding without
without_allows r k n allowed other = cond_both (int_lt k r.lo || int_lt r.hi k) _ _ (λ o. SomeAllows o n)
    (λ e. allowed)
    (λ e. cond_both (int_eq r.lo r.hi) _ _ (λ o. SomeAllows o n)
    (λ f. elim (other (only_number r.lo r.hi k n e f allowed.above allowed.below)) [ ])
    (λ f. lost_allows r k n allowed other))

in_order : (lo hi n : ℤ) → lo ≤ℤ n → n ≤ℤ hi → int_le lo hi ≡ true
in_order lo hi n above below = grind (arith, ints, above, below)

some_apart : (k n : ℤ) → Some k ≢ Some n → n ≢ k
some_apart k n apart = λ e. apart (ap Some (sym e))

pub range_without_allows : (lo hi n : ℤ) (hole : Option ℤ) → lo ≤ℤ n → n ≤ℤ hi → hole ≢ Some n → SomeAllows (range_without lo hi hole) n
unfolding range_without
range_without_allows lo hi n None above below apart = rw (in_order lo hi n above below) (between_allows lo hi n above below)
range_without_allows lo hi n (Some k) above below apart =
    rw (in_order lo hi n above below) (without_allows (between lo hi) k n (between_allows lo hi n above below) (some_apart k n apart))
