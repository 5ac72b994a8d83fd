-- What is known of a result speaks of symbols that are there.
use Rattle.std.proofs.Common.{ℕ, ◌==◌, ◌≤◌, ℤ, pos, Bool, ◌&&◌, Option, Some, None, List, [], ◌∷◌, ◌++◌, length}
use Rattle.std.proofs.Common.{unsigned_abs, ◌^◌, arith}
use Rattle.std.specs.List.{AllByRecursion}
use Rattle.std.proofs.lemmas.Bool.{cond_both}
use Rattle.domain_api.specs.declared.expr.Expr.{Expr}
use Rattle.cil_model.specs.declared.instruction.BinOp.{BinOp}
use Rattle.cil_model.specs.declared.instruction.BinOp.TheVariants as operators
use Rattle.symbolic_values.specs.declared.def.Def.{Def}
use Rattle.symbolic_values.specs.declared.def.Def.TheVariants.{Eq, Lt, LtUn, NullTest, Sub}
use Rattle.number_spans.specs.Constants.{constant, of_constants}
use Rattle.number_spans.specs.Product.{is_the_constant}
use Rattle.number_spans.specs.Spans.{is_not_negative}
use Rattle.number_spans.specs.Sums.{negated, takes}
use Rattle.number_spans.specs.declared.span.Span.{Span}
use Rattle.number_facts.specs.Additions as rule
use Rattle.number_facts.specs.Arith.{are_plain, by_facts, is_above_one, is_positive, known_or, no_more, outcome}
use Rattle.number_facts.specs.Arith.{product, relations, where_so}
use Rattle.number_facts.specs.Arith.{common_relations, quotient_relations, remainder_relations, shift_relations}
use Rattle.number_facts.specs.Arith.{shifted_left, shifted_right_unsigned}
use Rattle.number_facts.specs.Ends.{range_of}
use Rattle.number_facts.specs.Facts.{Facts, IsNamed}
use Rattle.number_facts.specs.Gaps.{gap}
use Rattle.number_facts.specs.Holds.{AreNamed, Names, NamesOwn}
use Rattle.number_facts.specs.declared.outcome.Outcome.{Outcome}
use Rattle.number_facts.specs.declared.outcome.Outcome.TheVariants.{Is, Within}
use Rattle.number_facts.specs.declared.relation.Relation.{Relation}
use Rattle.number_facts.specs.declared.relation.Relation.TheVariants as known

-- The symbols of a relation are among so many.
abbrev pub NamesSymbols : ℕ → Relation → Type 0
NamesSymbols count (known.AtLeast s k) = s ≤ count
NamesSymbols count (known.AtMost s k) = s ≤ count
NamesSymbols count (known.Is def) = Names count def

abbrev pub NameSymbols : Facts → List Relation → Type 0
NameSymbols facts rs = AllByRecursion (NamesSymbols (length facts.ranges)) rs

pub all_both : {X : Type 0} (P : X → Type 0) (xs ys : List X) → AllByRecursion P xs → AllByRecursion P ys
    → AllByRecursion P (xs ++ ys)
all_both P [] ys first second = second
all_both P (x ∷ xs) ys first second = (first.0, all_both P xs ys first.1 second)

where_named : (facts : Facts) (b : Bool) (rs : List Relation) → NameSymbols facts rs → NameSymbols facts (where_so b rs)
where_named facts b rs named = cond_both b _ _ (NameSymbols facts) (λ e. named) (λ e. tt)

-- ---- sums

abbrev SomeNamed : Facts → Option Expr → Type 0
SomeNamed facts None = Unit {0}
SomeNamed facts (Some u) = IsNamed facts u

above_named : (facts : Facts) (a b x y : Expr) (far : Option ℤ) → IsNamed facts x
    → SomeNamed facts (rule.above a b x y far)
above_named facts a b x y None there = tt
above_named facts a b x y (Some g) there = there

above_by_named : (facts : Facts) (a b : Expr) (d : ℕ) (def : Def) → Names (length facts.ranges) def
    → SomeNamed facts (rule.above_by facts a b d def)
above_by_named facts a b d (Sub x y) named =
    cond_both (y.sym == a.sym) _ _ (SomeNamed facts) (λ e. above_named facts a b x y (gap facts b.sym d) named.0)
    (λ e. tt)
above_by_named facts a b d (Eq x y) named = tt
above_by_named facts a b d (Lt x y) named = tt
above_by_named facts a b d (LtUn x y) named = tt
above_by_named facts a b d (NullTest r q) named = tt

with_named : (facts : Facts) (o : Option Expr) (us : List Expr) → SomeNamed facts o → AllByRecursion (IsNamed facts) us
    → AllByRecursion (IsNamed facts) (rule.with_some o us)
with_named facts None us first all = all
with_named facts (Some u) us first all = (first, all)

all_above_named : (facts : Facts) (a b : Expr) (ds : List (ℕ × Def))
    → AllByRecursion (NamesOwn (length facts.ranges)) ds → AllByRecursion (IsNamed facts) (rule.all_above facts a b ds)
all_above_named facts a b [] named = tt
all_above_named facts a b (d ∷ ds) named =
    with_named facts (rule.above_by facts a b d.0 d.1) (rule.all_above facts a b ds)
    (above_by_named facts a b d.0 d.1 named.0.1) (all_above_named facts a b ds named.1)

pub uppers_named : (facts : Facts) (a b : Expr) → AreNamed facts
    → AllByRecursion (IsNamed facts) (rule.uppers facts a b)
unfolding rule.uppers
uppers_named facts a b named =
    all_both (IsNamed facts) (rule.all_above facts a b facts.definitions) (rule.all_above facts b a facts.definitions)
    (all_above_named facts a b facts.definitions named.definitions)
    (all_above_named facts b a facts.definitions named.definitions)

at_most_named : (facts : Facts) (us : List Expr) → AllByRecursion (IsNamed facts) us
    → NameSymbols facts (rule.at_most us)
at_most_named facts [] all = tt
at_most_named facts (u ∷ us) all = (all.0, at_most_named facts us all.1)

beside_named : (facts : Facts) (e : Expr) (r : Span) → IsNamed facts e → NameSymbols facts (rule.beside e r)
beside_named facts e r there = (there, (there, tt))

sum_named : (facts : Facts) (a b : Expr) → IsNamed facts a → IsNamed facts b → AreNamed facts
    → NameSymbols facts (rule.sum_relations facts a b)
unfolding rule.sum_relations
sum_named facts a b first second named = cond_both (rule.is_inside (rule.sum_span facts a b)) _ _ (NameSymbols facts)
    (λ e. all_both _ (rule.beside a (range_of facts b))
    (rule.beside b (range_of facts a) ++ rule.at_most (rule.uppers facts a b))
    (beside_named facts a (range_of facts b) first)
    (all_both _ (rule.beside b (range_of facts a)) (rule.at_most (rule.uppers facts a b))
    (beside_named facts b (range_of facts a) second)
    (at_most_named facts (rule.uppers facts a b) (uppers_named facts a b named))))
    (λ e. tt)

difference_named : (facts : Facts) (a b : Expr) → IsNamed facts a → IsNamed facts b → AreNamed facts
    → NameSymbols facts (rule.difference_relations facts a b)
unfolding rule.difference_relations
difference_named facts a b first second named = cond_both (b.sym == 0) _ _ (NameSymbols facts)
    (λ e. sum_named facts a (negated b) first second named)
    (λ e. cond_both (rule.is_inside (rule.difference_span facts a b)) _ _ (NameSymbols facts)
    (λ f. ((first, second), (first, (first, tt)))) (λ f. tt))

-- ---- other operators

no_more_named : (facts : Facts) (e : Expr) (less : ℤ) → IsNamed facts e → NameSymbols facts (no_more e less)
no_more_named facts e less there = (there, tt)

no_more_where : (facts : Facts) (b : Bool) (e : Expr) (less : ℤ) → IsNamed facts e
    → NameSymbols facts (where_so b (no_more e less))
no_more_where facts b e less there = where_named facts b (no_more e less) (no_more_named facts e less there)

quotient_named : (facts : Facts) (a b : Expr) → IsNamed facts a → NameSymbols facts (quotient_relations facts a b)
unfolding quotient_relations
quotient_named facts a b first =
    let less = is_positive (range_of facts a) && is_above_one (range_of facts b) in
    where_named facts (is_not_negative (range_of facts a) && is_positive (range_of facts b))
    (no_more a (pos 0) ++ where_so less (no_more a (pos 1)))
    (all_both (NamesSymbols (length facts.ranges)) (no_more a (pos 0)) (where_so less (no_more a (pos 1)))
    (no_more_named facts a (pos 0) first)
    (no_more_where facts less a (pos 1) first))

remainder_named : (facts : Facts) (a b : Expr) → IsNamed facts a → IsNamed facts b
    → NameSymbols facts (remainder_relations facts a b)
unfolding remainder_relations
remainder_named facts a b first second =
    let less = is_positive (range_of facts b) in
    all_both _ (where_so (is_not_negative (range_of facts a)) (no_more a (pos 0))) (where_so less (no_more b (pos 1)))
    (no_more_where facts (is_not_negative (range_of facts a)) a (pos 0) first)
    (no_more_where facts less b (pos 1) second)

common_named : (facts : Facts) (a b : Expr) → IsNamed facts a → IsNamed facts b
    → NameSymbols facts (common_relations facts a b)
unfolding common_relations
common_named facts a b first second =
    let other = is_not_negative (range_of facts b) in
    all_both _ (where_so (is_not_negative (range_of facts a)) (no_more a (pos 0))) (where_so other (no_more b (pos 0)))
    (no_more_where facts (is_not_negative (range_of facts a)) a (pos 0) first)
    (no_more_where facts other b (pos 0) second)

shift_named : (facts : Facts) (a : Expr) → IsNamed facts a → NameSymbols facts (shift_relations facts a)
shift_named facts a first = no_more_where facts (is_not_negative (range_of facts a)) a (pos 0) first

pub relations_named : (op : BinOp) (facts : Facts) (a b : Expr) → IsNamed facts a → IsNamed facts b → AreNamed facts
    → NameSymbols facts (relations op facts a b)
unfolding relations
relations_named operators.Add f a b p q named = sum_named f a b p q named
relations_named operators.Sub f a b p q named = difference_named f a b p q named
relations_named operators.Div f a b p q named = quotient_named f a b p
relations_named operators.DivUn f a b p q named = where_named f (are_plain f a b) (quotient_relations f a b)
    (quotient_named f a b p)
relations_named operators.Rem f a b p q named = remainder_named f a b p q
relations_named operators.RemUn f a b p q named = where_named f (are_plain f a b) (remainder_relations f a b)
    (remainder_named f a b p q)
relations_named operators.And f a b p q named = common_named f a b p q
relations_named operators.Shr f a b p q named = shift_named f a p
relations_named operators.ShrUn f a b p q named = shift_named f a p
relations_named operators.Mul f a b p q named = tt
relations_named operators.Or f a b p q named = tt
relations_named operators.Xor f a b p q named = tt
relations_named operators.Shl f a b p q named = tt
relations_named operators.AddOvf f a b p q named = tt
relations_named operators.MulOvf f a b p q named = tt
relations_named operators.SubOvf f a b p q named = tt
relations_named operators.Ceq f a b p q named = tt
relations_named operators.Cgt f a b p q named = tt
relations_named operators.CgtUn f a b p q named = tt
relations_named operators.Clt f a b p q named = tt
relations_named operators.CltUn f a b p q named = tt

-- ---- expressions

-- The symbol of an expression that is the result is there.
abbrev pub NamesIt : Facts → Outcome → Type 0
NamesIt facts (Is e) = IsNamed facts e
NamesIt facts (Within r) = Unit {0}

-- that of each constant is
pub zero_named : (facts : Facts) → 0 ≤ length facts.ranges
zero_named facts = omega arith

sum_it : (facts : Facts) (a b : Expr) → IsNamed facts a → IsNamed facts b → NamesIt facts (rule.sum facts a b)
unfolding rule.sum
sum_it facts a b first second = cond_both (takes (range_of facts a) b) _ _ (NamesIt facts)
    (λ e. first) (λ e. cond_both (takes (range_of facts b) a) _ _ (NamesIt facts) (λ f. second) (λ f. tt))

difference_it : (facts : Facts) (a b : Expr) → IsNamed facts a → IsNamed facts b
    → NamesIt facts (rule.difference facts a b)
unfolding rule.difference
difference_it facts a b first second = cond_both (b.sym == 0) _ _ (NamesIt facts)
    (λ e. sum_it facts a (negated b) first second)
    (λ e. cond_both (a.sym == b.sym) _ _ (NamesIt facts) (λ f. zero_named facts) (λ f. tt))

product_it : (facts : Facts) (a b : Expr) → IsNamed facts a → IsNamed facts b → NamesIt facts (product facts a b)
unfolding product
product_it facts a b first second = cond_both (is_the_constant b (pos 1)) _ _ (NamesIt facts)
    (λ e. first) (λ e. cond_both (is_the_constant a (pos 1)) _ _ (NamesIt facts) (λ f. second) (λ f. tt))

shifted_left_it : (facts : Facts) (a b : Expr) → IsNamed facts a → NamesIt facts (shifted_left facts a b)
unfolding shifted_left
shifted_left_it facts a b first = cond_both (b.sym == 0) _ _ (NamesIt facts)
    (λ e. product_it facts a (constant (pos (2 ^ unsigned_abs b.k))) first (zero_named facts)) (λ e. tt)

shifted_right_it : (facts : Facts) (a b : Expr) → IsNamed facts a → NamesIt facts (shifted_right_unsigned facts a b)
unfolding shifted_right_unsigned
shifted_right_it facts a b first = cond_both (is_not_negative (range_of facts a)) _ _ (NamesIt facts)
    (λ e. tt)
    (λ e. cond_both (b.sym == 0) _ _ (NamesIt facts)
    (λ f. cond_both (unsigned_abs b.k == 0) _ _ (NamesIt facts) (λ g. first) (λ g. tt))
    (λ f. tt))

facts_it : (op : BinOp) (facts : Facts) (a b : Expr) → IsNamed facts a → IsNamed facts b
    → NamesIt facts (by_facts op facts a b)
unfolding by_facts
facts_it operators.Add f a b p q = sum_it f a b p q
facts_it operators.Sub f a b p q = difference_it f a b p q
facts_it operators.Mul f a b p q = product_it f a b p q
facts_it operators.Shl f a b p q = shifted_left_it f a b p
facts_it operators.ShrUn f a b p q = shifted_right_it f a b p
facts_it operators.Div f a b p q = tt
facts_it operators.DivUn f a b p q = tt
facts_it operators.Rem f a b p q = tt
facts_it operators.RemUn f a b p q = tt
facts_it operators.And f a b p q = tt
facts_it operators.Or f a b p q = tt
facts_it operators.Xor f a b p q = tt
facts_it operators.Shr f a b p q = tt
facts_it operators.AddOvf f a b p q = tt
facts_it operators.MulOvf f a b p q = tt
facts_it operators.SubOvf f a b p q = tt
facts_it operators.Ceq f a b p q = tt
facts_it operators.Cgt f a b p q = tt
facts_it operators.CgtUn f a b p q = tt
facts_it operators.Clt f a b p q = tt
facts_it operators.CltUn f a b p q = tt

known_or_it : (facts : Facts) (o : Option ℤ) (otherwise : Outcome) → NamesIt facts otherwise
    → NamesIt facts (known_or o otherwise)
known_or_it facts None otherwise named = named
known_or_it facts (Some n) otherwise named = zero_named facts

pub outcome_named : (op : BinOp) (facts : Facts) (a b : Expr) → IsNamed facts a → IsNamed facts b
    → NamesIt facts (outcome op facts a b)
unfolding outcome
outcome_named op facts a b first second = known_or_it facts (of_constants op a b) (by_facts op facts a b)
    (facts_it op facts a b first second)
