-- The number of 64 bits that is nearest to a number.
use Rattle.std.proofs.Common.{ℤ, pos, negsuc, ◌≤ℤ◌, ◌+ℤ◌, ◌-ℤ◌, w64, to_z, of_z, arith}
use Rattle.std.proofs.lemmas.Int.{ints}
use Rattle.interval_domain.specs.Arithmetic.{near}

pub near_rises : (a b : ℤ) → a ≤ℤ b → near a ≤ℤ near b
unfolding near
near_rises (pos a) (pos b) h = grind (arith, ints)
near_rises (pos a) (negsuc b) h = grind (arith, ints)
near_rises (negsuc a) (pos b) h = grind (arith, ints)
near_rises (negsuc a) (negsuc b) h = grind (arith, ints)

-- sums and differences of numbers that lie in order
pub near_sums_rise : (a b c d : ℤ) → a ≤ℤ c → b ≤ℤ d → near (a +ℤ b) ≤ℤ near (c +ℤ d)
near_sums_rise a b c d h k = near_rises (a +ℤ b) (c +ℤ d) (omega (arith, ints))

pub near_differences_rise : (a b c d : ℤ) → a ≤ℤ c → d ≤ℤ b → near (a -ℤ b) ≤ℤ near (c -ℤ d)
near_differences_rise a b c d h k = near_rises (a -ℤ b) (c -ℤ d) (omega (arith, ints))

-- a number as it stands where it was passed
abbrev pub passed : ℤ → ℤ
passed n = to_z w64 (of_z w64 n)
