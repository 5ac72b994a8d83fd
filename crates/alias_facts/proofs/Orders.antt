-- Pairs are in one order.
use Rattle.std.proofs.Common.{◌≡◌, ◌==◌, Bool, true, false, ◌&&◌, refl, sym, ap, ◌∙◌, arith}
use Rattle.std.specs.Bool.{Decides}
use Rattle.std.proofs.lemmas.Bool.Decides.{nat_tests, Decides-eqb}
use Rattle.alias_facts.specs.PairsOf.{Pair, same_pair, comes_before}

pub same_itself : (a : Pair) → same_pair a a ≡ true
same_itself a = grind (arith, nat_tests)

both_true : (a b : Bool) → (a && b) ≡ true → (a ≡ true) × (b ≡ true)
both_true true true is = (refl, refl)
both_true true false is = cc
both_true false b is = cc

pub same_is : (a b : Pair) → same_pair a b ≡ true → a ≡ b
same_is a b is =
    let both = both_true (a.0 == b.0) (a.1 == b.1) is in
    let first : a.0 ≡ b.0 = (Decides-eqb a.0 b.0).0 both.0 in
    let second : a.1 ≡ b.1 = (Decides-eqb a.1 b.1).0 both.1 in
    λ i. (first i, second i)

pub same_decides : (a b : Pair) → Decides (same_pair a b) (a ≡ b)
same_decides a b = (same_is a b, λ same. ap (same_pair a) (sym same) ∙ same_itself a)

pub before_apart : (a b : Pair) → comes_before a b ≡ true → same_pair a b ≡ false
before_apart a b is = grind (arith, nat_tests)

pub behind_apart : (a b : Pair) → comes_before a b ≡ true → same_pair b a ≡ false
behind_apart a b is = grind (arith, nat_tests)

pub before_trans : (a b c : Pair) → comes_before a b ≡ true → comes_before b c ≡ true → comes_before a c ≡ true
before_trans a b c first second = grind (arith, nat_tests)

pub before_only : (a b : Pair) → comes_before a b ≡ true → comes_before b a ≡ false
before_only a b is = grind (arith, nat_tests)

pub before_total : (a b : Pair) → comes_before a b ≡ false → same_pair b a ≡ false → comes_before b a ≡ true
before_total a b is not_same = grind (arith, nat_tests)
