-- The nearest number of 64 bits is an int32 where the number is one.
use Rattle.std.proofs.Common.{◌≡◌, ℤ, ◌&&◌, int_le, refl, arith}
use Rattle.std.proofs.lemmas.Int.{ints, clamps}
use Rattle.cil_model.specs.Arithmetic.{LEAST, GREATEST}
use Rattle.interval_domain.specs.Arithmetic.{near}
use Rattle.number_spans.specs.declared.span.Span.{Span}
use Rattle.state_obligations.specs.Entailed.{are_int32}

low_end : (n : ℤ) → int_le LEAST (near n) ≡ int_le LEAST n
unfolding near
low_end n = grind (arith, ints, clamps)

high_end : (n : ℤ) → int_le (near n) GREATEST ≡ int_le n GREATEST
unfolding near
high_end n = grind (arith, ints, clamps)

pub near_int32 : (r : Span) (lo hi : ℤ) → lo ≡ near r.lo → hi ≡ near r.hi
    → (int_le LEAST lo && int_le hi GREATEST) ≡ are_int32 r
unfolding are_int32
near_int32 r lo hi low high = rw (low, high, low_end r.lo, high_end r.hi) refl
