-- Ranges that have no number, and that of 0 and 1.
use Rattle.std.proofs.Common.{◌≡◌, ℤ, ◌<ℤ◌, Option, Some, None, false, int_le, refl, arith, pos}
use Rattle.std.proofs.lemmas.Int.{ints}
use Rattle.interval_domain.specs.Interval.{between, one, holed, inner_hole}
use Rattle.interval_domain.specs.Joins.{hull, kept_hole}
use Rattle.number_spans.specs.Stored.{range_without}

above : (lo hi : ℤ) → hi <ℤ lo → int_le lo hi ≡ false
above lo hi h = grind (arith, ints, h)

pub none_below : (lo hi : ℤ) (hole : Option ℤ) → hi <ℤ lo → range_without lo hi hole ≡ None
unfolding range_without
none_below lo hi None h = rw (above lo hi h) refl
none_below lo hi (Some k) h = rw (above lo hi h) refl

pub hull_of_bits : hull (one (pos 0)) (one (pos 1)) ≡ between (pos 0) (pos 1)
unfolding hull kept_hole holed inner_hole
hull_of_bits = refl
