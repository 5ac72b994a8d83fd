-- Products of numbers of few bits have few bits.
use Rattle.std.proofs.Common.{◌≡◌, ◌≤◌, ◌*◌, ℕ, suc, ℤ, pos, negsuc, ◌*ℤ◌, ◌≤ℤ◌, ◌^◌, FitsSigned, refl, ◌∙◌, to_z, of_z, to_z-of_z, arith}
use Rattle.std.specs.Int.{w128, int_max}
use Rattle.std.proofs.lemmas.Int.{ints, clamps}
use Rattle.std.proofs.lemmas.Nat.{mul-le, pow_pos}
use Rattle.std.proofs.Math.Nat.{pow-le-pow_right}
use Rattle.interval_domain.specs.Arithmetic.{least, greatest}
use Rattle.number_spans.specs.Product.{corners}
use Rattle.number_spans.specs.Spans.{between}
use Rattle.number_spans.specs.declared.span.Span.{Span}
use Rattle.number_spans.specs.Sizes.{IsEnd, IsBounded, IsSmall}

sizes : (a b : ℕ) → a ≤ 9223372045444710400 → b ≤ 9223372045444710400 → a * b ≤ 85070591888690940968159303339868160000
sizes a b h k = let le = mul-le a b 9223372045444710400 9223372045444710400 h k in omega (arith, le)

bounded : (m n : ℤ) → IsEnd m → IsEnd n → IsBounded (m *ℤ n)
bounded (pos a) (pos b) first second = let le = sizes a b (omega (arith, ints, first.greatest)) (omega (arith, ints, second.greatest)) in
    record { least = omega (arith, ints); greatest = omega (arith, ints, le) }
bounded (pos a) (negsuc b) first second = let le = sizes a (suc b) (omega (arith, ints, first.greatest)) (omega (arith, ints, second.least)) in
    record { least = omega (arith, ints, le); greatest = omega (arith, ints) }
bounded (negsuc a) (pos b) first second = let le = sizes (suc a) b (omega (arith, ints, first.least)) (omega (arith, ints, second.greatest)) in
    record { least = omega (arith, ints, le); greatest = omega (arith, ints) }
bounded (negsuc a) (negsuc b) first second = let le = sizes (suc a) (suc b) (omega (arith, ints, first.least)) (omega (arith, ints, second.least)) in
    record { least = omega (arith, ints); greatest = omega (arith, ints, le) }

pub product_bounded : (m n : ℤ) → IsEnd m → IsEnd n → IsBounded (m *ℤ n)
product_bounded m n first second = bounded m n first second

pub greater_end : (a b : ℤ) → IsEnd a → IsEnd b → IsEnd (int_max a b)
greater_end a b first second = record {
  least = omega (arith, ints, clamps, first.least);
  greatest = omega (arith, ints, clamps, first.greatest, second.greatest);
}

pub greater_least : (a b : ℤ) → pos 0 ≤ℤ a → pos 0 ≤ℤ int_max a b
greater_least a b h = omega (arith, ints, clamps, h)

-- a power of 2 by which an int32 is shifted
pub power_upto : (n : ℕ) → n ≤ 31 → (1 ≤ 2 ^ n) × (2 ^ n ≤ 2147483648)
power_upto n h = (omega (arith, pow_pos n), pow-le-pow_right (omega arith) h)

pub product_fits : (m n : ℤ) → IsEnd m → IsEnd n → FitsSigned w128 (m *ℤ n)
product_fits m n first second = let all = bounded m n first second in omega (arith, ints, all.least, all.greatest)

least_bounded : (a b c d : ℤ) → IsBounded a → IsBounded b → IsBounded c → IsBounded d → IsBounded (least a b c d)
unfolding least
least_bounded a b c d first second third fourth = record {
  least = omega (arith, ints, clamps, first.least, second.least, third.least, fourth.least);
  greatest = omega (arith, ints, clamps, first.greatest);
}

greatest_bounded : (a b c d : ℤ) → IsBounded a → IsBounded b → IsBounded c → IsBounded d → IsBounded (greatest a b c d)
unfolding greatest
greatest_bounded a b c d first second third fourth = record {
  least = omega (arith, ints, clamps, first.least);
  greatest = omega (arith, ints, clamps, first.greatest, second.greatest, third.greatest, fourth.greatest);
}

corner_ends : (r q : Span) → IsSmall r → IsSmall q → IsBounded (corners r q).lo × IsBounded (corners r q).hi
unfolding corners
corner_ends r q first second =
    let a = bounded r.lo q.lo first.low second.low in
    let b = bounded r.lo q.hi first.low second.high in
    let c = bounded r.hi q.lo first.high second.low in
    let d = bounded r.hi q.hi first.high second.high in
    (least_bounded _ _ _ _ a b c d, greatest_bounded _ _ _ _ a b c d)

pub low_bounded : (x r q : Span) → x ≡ corners r q → IsSmall r → IsSmall q → IsBounded x.lo
low_bounded x r q is first second = rw is (corner_ends r q first second).0

pub high_bounded : (x r q : Span) → x ≡ corners r q → IsSmall r → IsSmall q → IsBounded x.hi
high_bounded x r q is first second = rw is (corner_ends r q first second).1

pub corners_of : (r q : Span) (a b c d : ℤ) → a ≡ r.lo *ℤ q.lo → b ≡ r.lo *ℤ q.hi → c ≡ r.hi *ℤ q.lo → d ≡ r.hi *ℤ q.hi
    → between (least a b c d) (greatest a b c d) ≡ corners r q
unfolding corners
corners_of r q a b c d first second third fourth = rw (first, second, third, fourth) refl

-- a product of numbers as they were passed
pub passed_product : (m n x : ℤ) → FitsSigned w128 m → FitsSigned w128 n → FitsSigned w128 x → x ≡ to_z w128 (of_z w128 m) *ℤ to_z w128 (of_z w128 n)
    → to_z w128 (of_z w128 x) ≡ m *ℤ n
passed_product m n x first second third is = to_z-of_z third ∙ is ∙ rw (to_z-of_z first, to_z-of_z second) refl
