-- Zeros before a number.
use Rattle.std.proofs.Common.{◌≡◌, ℕ, ◌^◌, ◌<◌, pos, refl, arith}
use Rattle.std.specs.Int.{w64, leading_zeros}
use Rattle.std.specs.Int.Count.{count_leading_zeros}
use Rattle.std.proofs.lemmas.Nat.{leading_top}
use Rattle.number_spans.specs.Bits.{all_ones}

pub no_ones : all_ones (pos 0) ≡ pos 0
unfolding all_ones count_leading_zeros
no_ones = refl

pub some_ones : (n : ℕ) → 0 < n → n < 2 ^ 64 → leading_zeros w64 n < 64
some_ones n some fits = let top = leading_top 64 n some fits in omega (arith, top.1)

pub ruleset ones = (no_ones, some_ones)
