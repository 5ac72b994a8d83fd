-- What is known of sums and differences is true of them.
use Rattle.std.proofs.Common.{◌≡◌, ℕ, ◌==◌, ℤ, ◌+ℤ◌, ◌-ℤ◌, ◌≤ℤ◌, Bool, true, ◌||◌, int_le, Option, Some, None, List, []}
use Rattle.std.proofs.Common.{◌∷◌, ◌++◌, refl, sym, ap, ◌∙◌, FitsSigned, w32, arith}
use Rattle.std.specs.Int.{int_min}
use Rattle.std.specs.List.{AllByRecursion}
use Rattle.std.proofs.lemmas.Bool.{cond_both, and_parts, eqb-true}
use Rattle.std.proofs.lemmas.Int.{ints, clamps, int_wrap_fits}
use Rattle.domain_api.specs.declared.expr.Expr.{Expr}
use Rattle.cc_base.specs.Wrap.{wrap32}
use Rattle.cil_model.specs.Arithmetic.{LEAST}
use Rattle.symbolic_values.specs.Worth.{worth}
use Rattle.symbolic_values.specs.declared.def.Def.{Def}
use Rattle.symbolic_values.specs.declared.def.Def.TheVariants.{Eq, Lt, LtUn, NullTest, Sub}
use Rattle.number_spans.specs.Spans.{Has}
use Rattle.number_spans.specs.Sums.{takes, plus, negated}
use Rattle.number_spans.specs.declared.span.Span.{Span}
use Rattle.number_spans.proofs.SumLaws.{takes_fits}
use Rattle.number_spans.proofs.Wrapping.{between_has, wrapped_has}
use Rattle.number_facts.specs.Additions as rule
use Rattle.number_facts.specs.Ends.{range_of}
use Rattle.number_facts.specs.Facts.{Facts, IsNamed}
use Rattle.number_facts.specs.Gaps.{gap}
use Rattle.number_facts.specs.Holds.{IsDefined}
use Rattle.number_facts.specs.Laws.Allowing.{AllowsNumbers, gap_allowed}
use Rattle.number_facts.specs.declared.relation.Relation.{Relation}
use Rattle.number_facts.specs.declared.relation.Relation.TheVariants as known
use Rattle.number_facts.proofs.Knowing.{range_has, zero_number, constant_worth}
use Rattle.number_facts.proofs.NewSymbols.{zero_worth}
use Rattle.number_facts.proofs.ResultKeeping.{Knows, AreTrueOf, Covers, true_of_same}
use Rattle.number_facts.proofs.ResultNames.{all_both, uppers_named}

-- ---- what bounds a sum from above

-- An expression is worth at least n.
abbrev IsAbove : (ℕ → ℤ) → ℤ → Expr → Type 0
IsAbove number n u = n ≤ℤ worth number u

abbrev SomeAbove : (ℕ → ℤ) → ℤ → Option Expr → Type 0
SomeAbove number n None = Unit {0}
SomeAbove number n (Some u) = IsAbove number n u

abbrev AllAbove : (ℕ → ℤ) → ℤ → List Expr → Type 0
AllAbove number n us = AllByRecursion (IsAbove number n) us

-- x - y is d, y is of the symbol of a, and b is so far below d
far_above : (number : ℕ → ℤ) (a b x y : Expr) (d : ℕ) (n : ℤ) (far : Option ℤ) → n ≡ worth number a +ℤ worth number b
    → y.sym ≡ a.sym → number d ≡ worth number x -ℤ worth number y
    → ((g : ℤ) → far ≡ Some g → (number b.sym +ℤ g) ≤ℤ number d) → SomeAbove number n (rule.above a b x y far)
far_above number a b x y d n None sum same is below = tt
far_above number a b x y d n (Some g) sum same is below =
    let le = below g refl in let equal : number y.sym ≡ number a.sym = ap number same in
    omega (arith, ints, sum, is, le, equal)

defined_above : (facts : Facts) (number : ℕ → ℤ) (is_null : ℕ → Bool) (a b : Expr) (n : ℤ) (d : ℕ) (def : Def)
    → AllowsNumbers facts number → n ≡ worth number a +ℤ worth number b → IsDefined number is_null (d, def)
    → SomeAbove number n (rule.above_by facts a b d def)
defined_above facts number is_null a b n d (Sub x y) allowed sum is =
    cond_both (y.sym == a.sym) _ _ (SomeAbove number n)
    (λ e. far_above number a b x y d n (gap facts b.sym d) sum (eqb-true y.sym a.sym e) is
    (λ g known. gap_allowed facts number b.sym d g known allowed))
    (λ e. tt)
defined_above facts number is_null a b n d (Eq x y) allowed sum is = tt
defined_above facts number is_null a b n d (Lt x y) allowed sum is = tt
defined_above facts number is_null a b n d (LtUn x y) allowed sum is = tt
defined_above facts number is_null a b n d (NullTest r q) allowed sum is = tt

with_above : (number : ℕ → ℤ) (n : ℤ) (o : Option Expr) (us : List Expr) → SomeAbove number n o → AllAbove number n us
    → AllAbove number n (rule.with_some o us)
with_above number n None us first all = all
with_above number n (Some u) us first all = (first, all)

all_defined_above : (facts : Facts) (number : ℕ → ℤ) (is_null : ℕ → Bool) (a b : Expr) (n : ℤ) (ds : List (ℕ × Def))
    → AllowsNumbers facts number → n ≡ worth number a +ℤ worth number b → AllByRecursion (IsDefined number is_null) ds
    → AllAbove number n (rule.all_above facts a b ds)
all_defined_above facts number is_null a b n [] allowed sum is = tt
all_defined_above facts number is_null a b n (d ∷ ds) allowed sum is =
    with_above number n (rule.above_by facts a b d.0 d.1) (rule.all_above facts a b ds)
    (defined_above facts number is_null a b n d.0 d.1 allowed sum is.0)
    (all_defined_above facts number is_null a b n ds allowed sum is.1)

uppers_above : (facts : Facts) (number : ℕ → ℤ) (is_null : ℕ → Bool) (a b : Expr) → Knows facts number is_null
    → AllAbove number (worth number a +ℤ worth number b) (rule.uppers facts a b)
unfolding rule.uppers
uppers_above facts number is_null a b knows =
    let n = worth number a +ℤ worth number b in
    let turned : n ≡ worth number b +ℤ worth number a = omega (arith, ints) in
    all_both (IsAbove number n) (rule.all_above facts a b facts.definitions)
    (rule.all_above facts b a facts.definitions)
    (all_defined_above facts number is_null a b n facts.definitions knows.holds.allowed refl knows.holds.definitions)
    (all_defined_above facts number is_null b a n facts.definitions knows.holds.allowed turned knows.holds.definitions)

below_cut : (facts : Facts) (number : ℕ → ℤ) (n : ℤ) (us : List Expr) (hi : ℤ) → AllowsNumbers facts number
    → AllByRecursion (IsNamed facts) us → AllAbove number n us → n ≤ℤ hi → n ≤ℤ rule.cut_by facts us hi
below_cut facts number n [] hi allowed there all below = below
below_cut facts number n (u ∷ us) hi allowed there all below =
    let most = (range_has facts number u allowed there.0).below in
    let least = all.0 in
    below_cut facts number n us (int_min hi (range_of facts u).hi) allowed there.1 all.1
    (omega (arith, ints, clamps, below, most, least))

at_most_true : (number : ℕ → ℤ) (is_null : ℕ → Bool) (n : ℤ) (us : List Expr) → AllAbove number n us
    → AreTrueOf number is_null n (rule.at_most us)
at_most_true number is_null n [] all = tt
at_most_true number is_null n (u ∷ us) all = (all.0, at_most_true number is_null n us all.1)

-- ---- spans of int32

inside : (r : Span) (n : ℤ) → Has r n → rule.is_inside r ≡ true → FitsSigned w32 n
inside r n has e = let parts = and_parts (int_le LEAST r.lo) _ e in
    grind (arith, ints, parts.0, parts.1, has.above, has.below)

-- a number of a span of int32 is itself, wrapped
unwrapped : (r : Span) (n : ℤ) → Has r n → rule.is_inside r ≡ true → wrap32 n ≡ n
unwrapped r n has e = int_wrap_fits w32 n (inside r n has e)

settled_has : (r : Span) (n : ℤ) → Has r n → Has (rule.settled_span r) (wrap32 n)
settled_has r n has = cond_both (rule.is_inside r) _ _ (λ s. Has s (wrap32 n))
    (λ e. rw (unwrapped r n has e) has)
    (λ e. wrapped_has r n has.above has.below)

-- ---- sums

sum_has : (facts : Facts) (number : ℕ → ℤ) (is_null : ℕ → Bool) (a b : Expr) → Knows facts number is_null
    → IsNamed facts a → IsNamed facts b → Has (rule.sum_span facts a b) (worth number a +ℤ worth number b)
unfolding rule.sum_span
sum_has facts number is_null a b knows first second =
    let one = range_has facts number a knows.holds.allowed first in
    let other = range_has facts number b knows.holds.allowed second in
    between_has _ _ _ (omega (arith, ints, one.above, other.above))
    (below_cut facts number _ (rule.uppers facts a b) _ knows.holds.allowed (uppers_named facts a b knows.named)
    (uppers_above facts number is_null a b knows) (omega (arith, ints, one.below, other.below)))

-- it is the sum with the constant, wrapped
plus_is : (facts : Facts) (number : ℕ → ℤ) (e c : Expr) (n : ℤ) → AllowsNumbers facts number → IsNamed facts e
    → takes (range_of facts e) c ≡ true → n ≡ wrap32 (worth number e +ℤ c.k) → worth number (plus e c) ≡ n
plus_is facts number e c n allowed there e_takes is =
    let parts = and_parts (c.sym == 0) _ e_takes in
    let fits = takes_fits (range_of facts e) (worth number e) c (range_has facts number e allowed there) parts.1 in
    let wraps = int_wrap_fits w32 (worth number e +ℤ c.k) fits in
    let sum_is : worth number (plus e c) ≡ worth number e +ℤ c.k = omega (arith, ints) in
    sum_is ∙ sym wraps ∙ sym is

constant_of : (facts : Facts) (number : ℕ → ℤ) (r : Span) (e : Expr) → AllowsNumbers facts number → takes r e ≡ true
    → worth number e ≡ e.k
constant_of facts number r e allowed is = constant_worth facts number e allowed (and_parts (e.sym == 0) _ is).0

pub sum_covers : (facts : Facts) (number : ℕ → ℤ) (is_null : ℕ → Bool) (a b : Expr) → Knows facts number is_null
    → IsNamed facts a → IsNamed facts b → Covers number (rule.sum facts a b) (wrap32 (worth number a +ℤ worth number b))
unfolding rule.sum
sum_covers facts number is_null a b knows first second =
    let allowed = knows.holds.allowed in
    cond_both (takes (range_of facts a) b) _ _ (λ o. Covers number o (wrap32 (worth number a +ℤ worth number b)))
    (λ e. let is = constant_of facts number (range_of facts a) b allowed e in
    plus_is facts number a b _ allowed first e (ap (λ k. wrap32 (worth number a +ℤ k)) is))
    (λ e. cond_both (takes (range_of facts b) a) _ _ (λ o. Covers number o (wrap32 (worth number a +ℤ worth number b)))
    (λ f. let is = constant_of facts number (range_of facts b) a allowed f in
    plus_is facts number b a _ allowed second f (ap wrap32 (turned is)))
    (λ f. settled_has (rule.sum_span facts a b) _ (sum_has facts number is_null a b knows first second)))
  where
    turned : worth number a ≡ a.k → worth number a +ℤ worth number b ≡ worth number b +ℤ a.k
    turned is = omega (arith, ints, is)

-- an expression and the numbers of another one
beside_true : (number : ℕ → ℤ) (is_null : ℕ → Bool) (e : Expr) (r : Span) (m n : ℤ) → Has r m → n ≡ worth number e +ℤ m
    → AreTrueOf number is_null n (rule.beside e r)
beside_true number is_null e r m n has is =
    (omega (arith, ints, is, has.above), (omega (arith, ints, is, has.below), tt))

pub sum_relations_true : (facts : Facts) (number : ℕ → ℤ) (is_null : ℕ → Bool) (a b : Expr) → Knows facts number is_null
    → IsNamed facts a → IsNamed facts b
    → AreTrueOf number is_null (wrap32 (worth number a +ℤ worth number b)) (rule.sum_relations facts a b)
unfolding rule.sum_relations
sum_relations_true facts number is_null a b knows first second =
    let n = worth number a +ℤ worth number b in
    let allowed = knows.holds.allowed in
    cond_both (rule.is_inside (rule.sum_span facts a b)) _ _ (AreTrueOf number is_null (wrap32 n))
    (λ e. true_of_same number is_null n (wrap32 n)
    (rule.beside a (range_of facts b) ++ (rule.beside b (range_of facts a) ++ rule.at_most (rule.uppers facts a b)))
    (unwrapped (rule.sum_span facts a b) n (sum_has facts number is_null a b knows first second) e)
    (all_both _ (rule.beside a (range_of facts b))
    (rule.beside b (range_of facts a) ++ rule.at_most (rule.uppers facts a b))
    (beside_true number is_null a (range_of facts b) (worth number b) n (range_has facts number b allowed second) refl)
    (all_both _ (rule.beside b (range_of facts a)) (rule.at_most (rule.uppers facts a b))
    (beside_true number is_null b (range_of facts a) (worth number a) n (range_has facts number a allowed first) turned)
    (at_most_true number is_null n (rule.uppers facts a b) (uppers_above facts number is_null a b knows)))))
    (λ e. tt)
  where
    turned : worth number a +ℤ worth number b ≡ worth number b +ℤ worth number a
    turned = omega (arith, ints)

-- ---- differences

-- what a gap tells is true of a difference
greater_below : (far : Option ℤ) (more n d : ℤ) → ((g : ℤ) → far ≡ Some g → (g +ℤ more) ≤ℤ d) → n ≤ℤ d
    → rule.greater_of far more n ≤ℤ d
greater_below None more n d known below = below
greater_below (Some g) more n d known below = let le = known g refl in omega (arith, ints, clamps, le, below)

lesser_above : (far : Option ℤ) (more n d : ℤ) → ((g : ℤ) → far ≡ Some g → d ≤ℤ (more -ℤ g)) → d ≤ℤ n
    → d ≤ℤ rule.lesser_of far more n
lesser_above None more n d known above = above
lesser_above (Some g) more n d known above = let le = known g refl in omega (arith, ints, clamps, le, above)

difference_has : (facts : Facts) (number : ℕ → ℤ) (is_null : ℕ → Bool) (a b : Expr) → Knows facts number is_null
    → IsNamed facts a → IsNamed facts b → Has (rule.difference_span facts a b) (worth number a -ℤ worth number b)
unfolding rule.difference_span
difference_has facts number is_null a b knows first second =
    let allowed = knows.holds.allowed in
    let one = range_has facts number a allowed first in
    let other = range_has facts number b allowed second in
    between_has _ _ _
    (greater_below (gap facts b.sym a.sym) (a.k -ℤ b.k) _ _
    (λ g is. let le = gap_allowed facts number b.sym a.sym g is allowed in omega (arith, ints, le))
    (omega (arith, ints, one.above, other.below)))
    (lesser_above (gap facts a.sym b.sym) (a.k -ℤ b.k) _ _
    (λ g is. let le = gap_allowed facts number a.sym b.sym g is allowed in omega (arith, ints, le))
    (omega (arith, ints, one.below, other.above)))

-- a constant that is taken off
minus_constant : (facts : Facts) (number : ℕ → ℤ) (a b : Expr) → AllowsNumbers facts number → (b.sym == 0) ≡ true
    → worth number a +ℤ worth number (negated b) ≡ worth number a -ℤ worth number b
minus_constant facts number a b allowed e =
    let is = constant_worth facts number b allowed e in
    let less = constant_worth facts number (negated b) allowed e in
    omega (arith, ints, is, less)

-- the difference of two expressions of one symbol
one_symbol : (number : ℕ → ℤ) (a b : Expr) → (a.sym == b.sym) ≡ true → a.k -ℤ b.k ≡ worth number a -ℤ worth number b
one_symbol number a b e = let same : number a.sym ≡ number b.sym = ap number (eqb-true a.sym b.sym e) in
    omega (arith, ints, same)

pub difference_covers : (facts : Facts) (number : ℕ → ℤ) (is_null : ℕ → Bool) (a b : Expr) → Knows facts number is_null
    → IsNamed facts a → IsNamed facts b
    → Covers number (rule.difference facts a b) (wrap32 (worth number a -ℤ worth number b))
unfolding rule.difference
difference_covers facts number is_null a b knows first second =
    let allowed = knows.holds.allowed in
    cond_both (b.sym == 0) _ _ (λ o. Covers number o (wrap32 (worth number a -ℤ worth number b)))
    (λ e. rw (minus_constant facts number a b allowed e) at
    (sum_covers facts number is_null a (negated b) knows first second))
    (λ e. cond_both (a.sym == b.sym) _ _ (λ o. Covers number o (wrap32 (worth number a -ℤ worth number b)))
    (λ f. zero_worth number _ _ (zero_number facts number allowed) (ap wrap32 (one_symbol number a b f)))
    (λ f. settled_has (rule.difference_span facts a b) _ (difference_has facts number is_null a b knows first second)))

-- what is known of a difference that does not wrap
abbrev difference_tells : Facts → Expr → Expr → List Relation
difference_tells facts a b =
    known.Is (Sub a b) ∷ known.AtLeast a.sym (a.k -ℤ (range_of facts b).hi)
    ∷ known.AtMost a.sym (a.k -ℤ (range_of facts b).lo) ∷ []

own_relations : (facts : Facts) (number : ℕ → ℤ) (is_null : ℕ → Bool) (a b : Expr) → Knows facts number is_null
    → IsNamed facts a → IsNamed facts b
    → AreTrueOf number is_null (worth number a -ℤ worth number b) (difference_tells facts a b)
own_relations facts number is_null a b knows first second =
    let other = range_has facts number b knows.holds.allowed second in
    (refl, (omega (arith, ints, other.below), (omega (arith, ints, other.above), tt)))

pub difference_relations_true : (facts : Facts) (number : ℕ → ℤ) (is_null : ℕ → Bool) (a b : Expr)
    → Knows facts number is_null → IsNamed facts a → IsNamed facts b
    → AreTrueOf number is_null (wrap32 (worth number a -ℤ worth number b)) (rule.difference_relations facts a b)
unfolding rule.difference_relations
difference_relations_true facts number is_null a b knows first second =
    let n = worth number a -ℤ worth number b in
    let allowed = knows.holds.allowed in
    cond_both (b.sym == 0) _ _ (AreTrueOf number is_null (wrap32 n))
    (λ e. rw (minus_constant facts number a b allowed e) at
    (sum_relations_true facts number is_null a (negated b) knows first second))
    (λ e. cond_both (rule.is_inside (rule.difference_span facts a b)) _ _ (AreTrueOf number is_null (wrap32 n))
    (λ f. true_of_same number is_null n (wrap32 n) (difference_tells facts a b)
    (unwrapped (rule.difference_span facts a b) n (difference_has facts number is_null a b knows first second) f)
    (own_relations facts number is_null a b knows first second))
    (λ f. tt))

-- ---- what is judged for overflow

pub exact_sum_has : (facts : Facts) (number : ℕ → ℤ) (is_null : ℕ → Bool) (a b : Expr) → Knows facts number is_null
    → IsNamed facts a → IsNamed facts b → Has (rule.exact_sum facts a b) (worth number a +ℤ worth number b)
unfolding rule.exact_sum
exact_sum_has facts number is_null a b knows first second =
    let one = range_has facts number a knows.holds.allowed first in
    let other = range_has facts number b knows.holds.allowed second in
    cond_both (a.sym == 0 || b.sym == 0) _ _ (λ r. Has r (worth number a +ℤ worth number b))
    (λ e. between_has _ _ _ (omega (arith, ints, one.above, other.above)) (omega (arith, ints, one.below, other.below)))
    (λ e. sum_has facts number is_null a b knows first second)

pub exact_difference_has : (facts : Facts) (number : ℕ → ℤ) (is_null : ℕ → Bool) (a b : Expr)
    → Knows facts number is_null → IsNamed facts a → IsNamed facts b
    → Has (rule.exact_difference facts a b) (worth number a -ℤ worth number b)
unfolding rule.exact_difference
exact_difference_has facts number is_null a b knows first second =
    let one = range_has facts number a knows.holds.allowed first in
    let other = range_has facts number b knows.holds.allowed second in
    cond_both (b.sym == 0) _ _ (λ r. Has r (worth number a -ℤ worth number b))
    (λ e. between_has _ _ _ (omega (arith, ints, one.above, other.below)) (omega (arith, ints, one.below, other.above)))
    (λ e. cond_both (a.sym == b.sym) _ _ (λ r. Has r (worth number a -ℤ worth number b))
    (λ f. let is = one_symbol number a b f in between_has _ _ _ (omega (arith, ints, is)) (omega (arith, ints, is)))
    (λ f. difference_has facts number is_null a b knows first second))
