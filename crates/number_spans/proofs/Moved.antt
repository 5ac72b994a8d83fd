-- A number of a stored range, with a constant added.
use Rattle.std.proofs.Common.{◌≡◌, ◌≢◌, ℤ, ◌+ℤ◌, Option, Some, None, ap, arith}
use Rattle.std.proofs.lemmas.Int.{ints}
use Rattle.interval_domain.specs.Interval.{Interval}
use Rattle.number_spans.specs.Spans.{Has, moved_hole, moved}
use Rattle.number_spans.specs.Stored.{Allows}

moved_apart : (hole : Option ℤ) (n k : ℤ) → hole ≢ Some n → moved_hole hole k ≢ Some (n +ℤ k)
moved_apart None n k apart = λ is. grind arith
moved_apart (Some h) n k apart = λ is. apart (ap Some (omega (arith, ints, same (h +ℤ k) (n +ℤ k) is)))
  where
    same : (a b : ℤ) → Some a ≡ Some b → a ≡ b
    same a b is = grind arith

pub moved_has : (r : Interval) (n k : ℤ) → Allows r n → Has (moved r k) (n +ℤ k)
unfolding moved
moved_has r n k allowed = record {
  above = omega (arith, ints, allowed.above);
  below = omega (arith, ints, allowed.below);
  no_hole = moved_apart r.hole n k allowed.no_hole;
}
