-- Products of numbers of at most 2^31 have 64 bits.
use Rattle.std.proofs.Common.{◌≤◌, ◌*◌, ℕ, suc, ℤ, pos, negsuc, ◌*ℤ◌, ◌^◌, FitsSigned, w64, arith}
use Rattle.std.proofs.lemmas.Int.{ints}
use Rattle.std.proofs.lemmas.Nat.{mul-le, pow_pos}
use Rattle.std.proofs.Math.Nat.{pow-le-pow_right}
use Rattle.clause_eval.specs.Sizes.{IsFactor}

sizes : (a b : ℕ) → a ≤ 2147483648 → b ≤ 2147483648 → a * b ≤ 4611686018427387904
sizes a b h k = let le = mul-le a b 2147483648 2147483648 h k in omega (arith, le)

pub product_fits : (m n : ℤ) → IsFactor m → IsFactor n → FitsSigned w64 (m *ℤ n)
product_fits (pos a) (pos b) first second = let le = sizes a b (omega (arith, ints, first.greatest)) (omega (arith, ints, second.greatest)) in omega (arith, ints, le)
product_fits (pos a) (negsuc b) first second = let le = sizes a (suc b) (omega (arith, ints, first.greatest)) (omega (arith, ints, second.least)) in omega (arith, ints, le)
product_fits (negsuc a) (pos b) first second = let le = sizes (suc a) b (omega (arith, ints, first.least)) (omega (arith, ints, second.greatest)) in omega (arith, ints, le)
product_fits (negsuc a) (negsuc b) first second = let le = sizes (suc a) (suc b) (omega (arith, ints, first.least)) (omega (arith, ints, second.least)) in omega (arith, ints, le)

-- a power of 2 by which an int32 is shifted
pub power_upto : (n : ℕ) → n ≤ 31 → (1 ≤ 2 ^ n) × (2 ^ n ≤ 2147483648)
power_upto n h = (omega (arith, pow_pos n), pow-le-pow_right (omega arith) h)
