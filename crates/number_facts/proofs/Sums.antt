-- The lesser and the greater of two ends are no larger than both.
use Rattle.std.proofs.Common.{ℤ, arith}
use Rattle.std.specs.Int.{int_min, int_max}
use Rattle.std.proofs.lemmas.Int.{ints, clamps}
use Rattle.number_facts.specs.Sizes.{IsSum}

pub lesser_sum : (a b : ℤ) → IsSum a → IsSum b → IsSum (int_min a b)
lesser_sum a b first second = record {
  least = omega (arith, ints, clamps, first.least, second.least);
  greatest = omega (arith, ints, clamps, first.greatest);
}

pub greater_sum : (a b : ℤ) → IsSum a → IsSum b → IsSum (int_max a b)
greater_sum a b first second = record {
  least = omega (arith, ints, clamps, first.least);
  greatest = omega (arith, ints, clamps, first.greatest, second.greatest);
}

pub ruleset sums = (lesser_sum, greater_sum)
