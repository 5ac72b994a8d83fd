-- Numbers that move along with the lowest number of a range.
use Rattle.std.proofs.Common.{◌≡◌, ℤ, pos, negsuc, ◌+ℤ◌, ◌-ℤ◌, ◌≤ℤ◌, ◌<ℤ◌, true, false, int_le, inl, inr, FitsSigned, w32, sym, ◌∙◌, arith}
use Rattle.std.proofs.lemmas.Bool.{cases_Bool, and_parts}
use Rattle.std.proofs.lemmas.Int.{ints}
use Rattle.cil_model.specs.Arithmetic.{LEAST, GREATEST}
use Rattle.number_spans.specs.Sizes.{IsEnd}
use Rattle.number_spans.specs.Spans.{is_int32}

true_le : (m n : ℤ) → int_le m n ≡ true → m ≤ℤ n
true_le m n e = omega (arith, ints)

false_le : (m n : ℤ) → int_le m n ≡ false → n <ℤ m
false_le m n e = omega (arith, ints)

le_true : (m n : ℤ) → m ≤ℤ n → int_le m n ≡ true
le_true m n h = grind (arith, ints, h)

le_false : (m n : ℤ) → n <ℤ m → int_le m n ≡ false
le_false m n h = grind (arith, ints, h)

above_along : (lo from to : ℤ) → int_le (from +ℤ (negsuc 2147483647 -ℤ lo)) to ≡ int_le LEAST (lo +ℤ (to -ℤ from))
above_along lo from to = elim (cases_Bool (int_le (from +ℤ (negsuc 2147483647 -ℤ lo)) to)) [
  | inl is ↦ let le = true_le (from +ℤ (negsuc 2147483647 -ℤ lo)) to is in is ∙ sym (le_true LEAST (lo +ℤ (to -ℤ from)) (omega (arith, ints, le)))
  | inr is ↦ let lt = false_le (from +ℤ (negsuc 2147483647 -ℤ lo)) to is in is ∙ sym (le_false LEAST (lo +ℤ (to -ℤ from)) (omega (arith, ints, lt)))
]

below_along : (lo from to : ℤ) → int_le to (from +ℤ (pos 2147483647 -ℤ lo)) ≡ int_le (lo +ℤ (to -ℤ from)) GREATEST
below_along lo from to = elim (cases_Bool (int_le to (from +ℤ (pos 2147483647 -ℤ lo)))) [
  | inl is ↦ let le = true_le to (from +ℤ (pos 2147483647 -ℤ lo)) is in is ∙ sym (le_true (lo +ℤ (to -ℤ from)) GREATEST (omega (arith, ints, le)))
  | inr is ↦ let lt = false_le to (from +ℤ (pos 2147483647 -ℤ lo)) is in is ∙ sym (le_false (lo +ℤ (to -ℤ from)) GREATEST (omega (arith, ints, lt)))
]

pub above_by : (lo from to moved far : ℤ) → far ≡ negsuc 2147483647 -ℤ lo → moved ≡ from +ℤ far → int_le moved to ≡ int_le LEAST (lo +ℤ (to -ℤ from))
above_by lo from to moved far by is = rw (is, by) (above_along lo from to)

pub below_by : (lo from to moved far : ℤ) → far ≡ pos 2147483647 -ℤ lo → moved ≡ from +ℤ far → int_le to moved ≡ int_le (lo +ℤ (to -ℤ from)) GREATEST
below_by lo from to moved far by is = rw (is, by) (below_along lo from to)

-- what is an int32 then has moved no farther than from one int32 to another
pub moved_near : (lo from to : ℤ) → FitsSigned w32 lo → is_int32 (lo +ℤ (to -ℤ from)) ≡ true → IsEnd (to -ℤ from)
moved_near lo from to fits is =
    let parts = and_parts (int_le LEAST (lo +ℤ (to -ℤ from))) (int_le (lo +ℤ (to -ℤ from)) GREATEST) is in
    let low = true_le LEAST (lo +ℤ (to -ℤ from)) parts.0 in
    let high = true_le (lo +ℤ (to -ℤ from)) GREATEST parts.1 in
    record { least = omega (arith, ints, fits, low); greatest = omega (arith, ints, fits, high) }
