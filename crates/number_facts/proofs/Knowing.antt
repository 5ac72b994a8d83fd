-- What is known of expressions is true of what they are worth.
use Rattle.std.proofs.Common.{◌≡◌, ◌≢◌, ℕ, ◌==◌, ℤ, pos, ◌+ℤ◌, ◌-ℤ◌, ◌≤ℤ◌, true, int_le, Option, Some, None, refl, ap, arith}
use Rattle.std.proofs.lemmas.Bool.{and_parts}
use Rattle.std.proofs.lemmas.Grind.{common_steps}
use Rattle.std.proofs.lemmas.Int.{ints}
use Rattle.domain_api.specs.declared.expr.Expr.{Expr}
use Rattle.symbolic_values.specs.Worth.{worth}
use Rattle.number_spans.specs.Spans.{Has, is_not_negative, moved_hole, shifted}
use Rattle.number_spans.specs.declared.span.Span.{Span}
use Rattle.number_facts.specs.Laws.Allowing.{AllowsNumbers, span_has, gap_allowed}
use Rattle.number_facts.specs.Ends.{range_of, span_at}
use Rattle.number_facts.specs.Facts.{Facts, IsNamed, range_at}
use Rattle.number_facts.specs.Gaps.{gap, at_most, equal}
use Rattle.domain_api.specs.Order.{gap_is_at_least}
use Rattle.number_facts.specs.Holds.{AreEndsOf}

moved_apart : (hole : Option ℤ) (n k : ℤ) → hole ≢ Some n → moved_hole hole k ≢ Some (n +ℤ k)
moved_apart None n k apart = λ is. grind arith
moved_apart (Some h) n k apart = λ is. apart (ap Some (omega (arith, ints, same (h +ℤ k) (n +ℤ k) is)))
  where
    same : (a b : ℤ) → Some a ≡ Some b → a ≡ b
    same a b is = grind arith

shifted_has : (r : Span) (n k : ℤ) → Has r n → Has (shifted r k) (n +ℤ k)
unfolding shifted
shifted_has r n k has = record {
  above = omega (arith, ints, has.above);
  below = omega (arith, ints, has.below);
  no_hole = moved_apart r.hole n k has.no_hole;
}

-- what an expression is worth is left to it
pub range_has : (facts : Facts) (number : ℕ → ℤ) (e : Expr) → AllowsNumbers facts number → IsNamed facts e → Has (range_of facts e) (worth number e)
unfolding range_of
range_has facts number e allowed there = shifted_has (span_at facts e.sym) (number e.sym) e.k (span_has facts number e.sym there allowed)

pub ends_hold : (facts : Facts) (e : Expr) (r : Span) → IsNamed facts e → r ≡ range_of facts e → AreEndsOf facts e r.lo r.hi r.hole
ends_hold facts e r there is = λ number allowed.
    let has = range_has facts number e allowed there in
    rw is (record { above = has.above; below = has.below; no_hole = has.no_hole })

-- symbol 0 is the number 0
pub zero_number : (facts : Facts) (number : ℕ → ℤ) → AllowsNumbers facts number → number 0 ≡ pos 0
unfolding range_at
zero_number facts number allowed =
    let zero_allowed = allowed.ranges 0 (omega arith) in omega (arith, ints, zero_allowed.above, zero_allowed.below)

pub constant_worth : (facts : Facts) (number : ℕ → ℤ) (e : Expr) → AllowsNumbers facts number → (e.sym == 0) ≡ true → worth number e ≡ e.k
constant_worth facts number e allowed is =
    let no_symbol : e.sym ≡ 0 = grind (arith, common_steps, is) in
    let same : number e.sym ≡ number 0 = ap number no_symbol in
    let none = zero_number facts number allowed in
    omega (arith, ints, same, none)

pub not_negative : (facts : Facts) (number : ℕ → ℤ) (e : Expr) → AllowsNumbers facts number → IsNamed facts e
    → is_not_negative (range_of facts e) ≡ true → pos 0 ≤ℤ worth number e
not_negative facts number e allowed there is = let has = range_has facts number e allowed there in grind (arith, ints, is, has.above)

le_true : (m n : ℤ) → int_le m n ≡ true → m ≤ℤ n
le_true m n e = omega (arith, ints)

reached : (number : ℕ → ℤ) (s t : ℕ) (known : Option ℤ) (n : ℤ) → ((k : ℤ) → known ≡ Some k → (number s +ℤ k) ≤ℤ number t) → gap_is_at_least known n ≡ true
    → (number s +ℤ n) ≤ℤ number t
reached number s t None n below is = absurd cc
reached number s t (Some k) n below is = let most = below k refl in let le = le_true n k is in omega (arith, ints, most, le)

pub at_most_holds : (facts : Facts) (number : ℕ → ℤ) (a : Expr) (more : ℤ) (b : Expr) → AllowsNumbers facts number → at_most facts a more b ≡ true
    → (worth number a +ℤ more) ≤ℤ worth number b
unfolding at_most
at_most_holds facts number a more b allowed known =
    let far = reached number a.sym b.sym (gap facts a.sym b.sym) ((a.k +ℤ more) -ℤ b.k) (λ k is. gap_allowed facts number a.sym b.sym k is allowed) known in
    omega (arith, ints, far)

pub equal_holds : (facts : Facts) (number : ℕ → ℤ) (a b : Expr) → AllowsNumbers facts number → equal facts a b ≡ true → worth number a ≡ worth number b
unfolding equal
equal_holds facts number a b allowed known =
    let parts = and_parts (at_most facts a (pos 0) b) (at_most facts b (pos 0) a) known in
    let one_way = at_most_holds facts number a (pos 0) b allowed parts.0 in
    let other_way = at_most_holds facts number b (pos 0) a allowed parts.1 in
    omega (arith, ints, one_way, other_way)
