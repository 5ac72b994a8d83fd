-- Numbers that are brought to 64 bits.
use Rattle.std.proofs.Common.{ℤ, pos, negsuc, ◌≤ℤ◌, FitsSigned, w64, arith}
use Rattle.std.proofs.lemmas.Int.{ints}
use Rattle.interval_domain.specs.Arithmetic.{near}

-- a number that fits lies between the nearest of any two that it lies between
pub near_below : (a n : ℤ) → a ≤ℤ n → FitsSigned w64 n → near a ≤ℤ n
unfolding near
near_below (pos a) (pos n) h fits = grind (arith, ints)
near_below (pos a) (negsuc n) h fits = grind (arith, ints)
near_below (negsuc a) (pos n) h fits = grind (arith, ints)
near_below (negsuc a) (negsuc n) h fits = grind (arith, ints)

pub near_above : (a n : ℤ) → n ≤ℤ a → FitsSigned w64 n → n ≤ℤ near a
unfolding near
near_above (pos a) (pos n) h fits = grind (arith, ints)
near_above (pos a) (negsuc n) h fits = grind (arith, ints)
near_above (negsuc a) (pos n) h fits = grind (arith, ints)
near_above (negsuc a) (negsuc n) h fits = grind (arith, ints)
