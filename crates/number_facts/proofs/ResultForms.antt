-- Results keep the form of what is known.
use Rattle.std.proofs.Common.{◌≡◌, ℕ, ◌+◌, ◌≤◌, ℤ, pos, negsuc, neg_ℤ, ◌≤ℤ◌, true, int_eq, int_le, Option, Some, None}
use Rattle.std.proofs.Common.{IfSome}
use Rattle.std.proofs.Common.{List, [], ◌∷◌, ◌++◌, length, refl, ◌∙◌, arith}
use Rattle.std.specs.Prelude.{Result, Ok, Err, IfOk, OnOk}
use Rattle.std.specs.Option.{option_map}
use Rattle.std.specs.Int.{int_min, int_max}
use Rattle.std.specs.List.{AllByRecursion}
use Rattle.std.proofs.lemmas.Bool.{and_parts, cond_both}
use Rattle.std.proofs.lemmas.Int.{ints, clamps}
use Rattle.domain_api.specs.declared.expr.Expr.{Expr}
use Rattle.cil_model.specs.Arithmetic.{LEAST, GREATEST}
use Rattle.cil_model.specs.declared.instruction.BinOp.{BinOp}
use Rattle.interval_domain.specs.Interval.{Interval}
use Rattle.symbolic_values.specs.declared.def.Def.{Def}
use Rattle.symbolic_values.specs.declared.def.Def.TheVariants.{Eq, Lt, LtUn, NullTest, Sub}
use Rattle.number_spans.specs.Constants.{constant}
use Rattle.number_spans.specs.Stored.{IsNarrow, range_without}
use Rattle.number_spans.proofs.NarrowRanges.{SomeNarrow, range_without_narrow}
use Rattle.number_facts.specs.Arith.{is_kept, outcome, relations, settled}
use Rattle.number_facts.specs.Facts.{Facts, IsNamed, IsThere}
use Rattle.number_facts.specs.Fresh.{Made, bounded, defined, expr_made, facts_made, fresh, is_long, noted, related}
use Rattle.number_facts.specs.Fresh.{related_so}
use Rattle.number_facts.specs.Holds.{AreNamed, KeepsForm, Names}
use Rattle.number_facts.specs.declared.outcome.Outcome.{Outcome}
use Rattle.number_facts.specs.declared.outcome.Outcome.TheVariants.{Is, Within}
use Rattle.number_facts.specs.declared.relation.Relation.{Relation}
use Rattle.number_facts.specs.declared.relation.Relation.TheVariants as known
use Rattle.number_facts.proofs.Forms.{appended_form, bounded_form, defined_form, longer, same_form}
use Rattle.number_facts.proofs.ResultNames.{NamesIt, NamesSymbols, NameSymbols, outcome_named, relations_named}

-- ---- relations

-- no relation changes the ranges
bounded_ranges : (facts : Facts) (s t : ℕ) (k : ℤ) → (bounded facts s t k).ranges ≡ facts.ranges
unfolding bounded
bounded_ranges facts s t k = cond_both (is_long k) _ _ (λ (f : Facts). f.ranges ≡ facts.ranges) (λ e. refl) (λ e. refl)

related_ranges : (facts : Facts) (t : ℕ) (r : Relation) → (related facts t r).ranges ≡ facts.ranges
unfolding defined
related_ranges facts t (known.AtLeast s k) = bounded_ranges facts s t k
related_ranges facts t (known.AtMost s k) = bounded_ranges facts t s (neg_ℤ k)
related_ranges facts t (known.Is def) = refl

all_ranges : (facts : Facts) (t : ℕ) (rs : List Relation) → (related_so facts t rs).ranges ≡ facts.ranges
all_ranges facts t [] = refl
all_ranges facts t (r ∷ rs) = all_ranges (related facts t r) t rs ∙ related_ranges facts t r

names_rise : (count more : ℕ) (def : Def) → count ≤ more → Names count def → Names more def
names_rise count more (Eq x y) le named = (omega (arith, le, named.0), omega (arith, le, named.1))
names_rise count more (Lt x y) le named = (omega (arith, le, named.0), omega (arith, le, named.1))
names_rise count more (LtUn x y) le named = (omega (arith, le, named.0), omega (arith, le, named.1))
names_rise count more (NullTest r is) le named = tt
names_rise count more (Sub x y) le named = (omega (arith, le, named.0), omega (arith, le, named.1))

symbols_rise : (count more : ℕ) (r : Relation) → count ≤ more → NamesSymbols count r → NamesSymbols more r
symbols_rise count more (known.AtLeast s k) le named = omega (arith, le, named)
symbols_rise count more (known.AtMost s k) le named = omega (arith, le, named)
symbols_rise count more (known.Is def) le named = names_rise count more def le named

related_form : (before facts : Facts) (t : ℕ) (r : Relation) → KeepsForm before facts → t ≤ length before.ranges
    → NamesSymbols (length before.ranges) r → KeepsForm before (related facts t r)
related_form before facts t (known.AtLeast s k) kept there named = bounded_form before facts s t k kept named there
related_form before facts t (known.AtMost s k) kept there named =
    bounded_form before facts t s (neg_ℤ k) kept there named
related_form before facts t (known.Is def) kept there named =
    let more = kept.there in
    defined_form before facts t def kept (omega (arith, there, more))
    (names_rise (length before.ranges) (length facts.ranges) def more named)

all_related_form : (before facts : Facts) (t : ℕ) (rs : List Relation) → KeepsForm before facts
    → t ≤ length before.ranges → AllByRecursion (NamesSymbols (length before.ranges)) rs
    → KeepsForm before (related_so facts t rs)
all_related_form before facts t [] kept there named = kept
all_related_form before facts t (r ∷ rs) kept there named =
    all_related_form before (related facts t r) t rs (related_form before facts t r kept there named.0) there named.1

-- ---- new symbols

symbols_all_rise : (count more : ℕ) (rs : List Relation) → count ≤ more → AllByRecursion (NamesSymbols count) rs
    → AllByRecursion (NamesSymbols more) rs
symbols_all_rise count more [] le named = tt
symbols_all_rise count more (r ∷ rs) le named =
    (symbols_rise count more r le named.0, symbols_all_rise count more rs le named.1)

new_form : (facts : Facts) (r : Interval) (rs : List Relation) → IsNarrow r → (AreNamed facts → NameSymbols facts rs)
    → KeepsForm facts (related_so (record facts { ranges = facts.ranges ++ r ∷ [] }) (length facts.ranges + 1) rs)
new_form facts r rs narrow names =
    let more : Facts = record facts { ranges = facts.ranges ++ r ∷ [] } in
    let appended : KeepsForm facts more = appended_form facts r narrow in
    let size : length more.ranges ≡ length facts.ranges + 1 = longer facts.ranges r in
    let same : (related_so more (length facts.ranges + 1) rs).ranges ≡ more.ranges =
    all_ranges more (length facts.ranges + 1) rs in
    record {
      there = rw same appended.there;
      named = λ is.
          let named = symbols_all_rise (length facts.ranges) (length more.ranges) rs appended.there (names is) in
          (all_related_form more more (length facts.ranges + 1) rs (same_form more) (omega (arith, size)) named).named
          (appended.named is);
      narrow = λ all. rw same (appended.narrow all);
    }

noted_form : (facts : Facts) (r : Interval) (rs : List Relation) → IsNarrow r → (AreNamed facts → NameSymbols facts rs)
    → KeepsForm facts (noted facts r rs).facts
unfolding noted
noted_form facts r rs narrow names = cond_both (int_eq r.lo r.hi) _ _ (λ (m : Made). KeepsForm facts m.facts)
    (λ e. same_form facts) (λ e. new_form facts r rs narrow names)

some_noted : (facts : Facts) (o : Option Interval) (rs : List Relation) → SomeNarrow o
    → (AreNamed facts → NameSymbols facts rs)
    → KeepsForm facts (facts_made facts (option_map (λ r. noted facts r rs) o))
some_noted facts None rs narrow names = same_form facts
some_noted facts (Some r) rs narrow names = noted_form facts r rs narrow names

related_fresh_form : (facts : Facts) (lo hi : ℤ) (hole : Option ℤ) (rs : List Relation)
    → (AreNamed facts → NameSymbols facts rs) → KeepsForm facts (facts_made facts (fresh facts lo hi hole rs))
unfolding fresh
related_fresh_form facts lo hi hole rs names =
    some_noted facts (range_without (int_max lo LEAST) (int_min hi GREATEST) hole) rs
    (range_without_narrow (int_max lo LEAST) (int_min hi GREATEST) hole (omega (arith, ints, clamps))
    (omega (arith, ints, clamps))) names

settled_form : (facts : Facts) (o : Outcome) (rs : List Relation) → (AreNamed facts → NameSymbols facts rs)
    → KeepsForm facts (facts_made facts (settled facts o rs))
unfolding settled
settled_form facts (Is e) rs names = cond_both (is_kept e) _ _
    (λ (o : Option Made). KeepsForm facts (facts_made facts o)) (λ e. same_form facts) (λ e. same_form facts)
settled_form facts (Within r) rs names = related_fresh_form facts r.lo r.hi None rs names

-- The result of an operator keeps the form.
pub result_form : (op : BinOp) (facts : Facts) (a b : Expr) → IsNamed facts a → IsNamed facts b
    → KeepsForm facts (facts_made facts (settled facts (outcome op facts a b) (relations op facts a b)))
result_form op facts a b first second =
    settled_form facts (outcome op facts a b) (relations op facts a b)
    (λ named. relations_named op facts a b first second named)

-- ---- the expression that is made

constant_there : (facts : Facts) (k : ℤ) → LEAST ≤ℤ k → k ≤ℤ GREATEST → IsThere facts (constant k)
constant_there facts k above below =
    record { there = omega arith; least = omega (arith, ints, above); greatest = omega (arith, ints, below) }

new_there : (facts : Facts) (r : Interval) (rs : List Relation)
    → IsThere (related_so (record facts { ranges = facts.ranges ++ r ∷ [] }) (length facts.ranges + 1) rs)
    (record { sym = length facts.ranges + 1; k = pos 0 })
new_there facts r rs =
    let size = longer facts.ranges r in
    let same = all_ranges (record facts { ranges = facts.ranges ++ r ∷ [] }) (length facts.ranges + 1) rs in
    record { there = rw same (omega (arith, size)); least = omega (arith, ints); greatest = omega (arith, ints) }

noted_there : (facts : Facts) (r : Interval) (rs : List Relation) → IsNarrow r
    → IsThere (noted facts r rs).facts (noted facts r rs).expr
unfolding noted
noted_there facts r rs narrow = cond_both (int_eq r.lo r.hi) _ _ (λ (m : Made). IsThere m.facts m.expr)
    (λ e. constant_there facts r.lo narrow.least (omega (arith, ints, narrow.ordered, narrow.greatest)))
    (λ e. new_there facts r rs)

some_there : (facts : Facts) (o : Option Interval) (rs : List Relation) → SomeNarrow o
    → IfSome (expr_made (option_map (λ r. noted facts r rs) o))
    (IsThere (facts_made facts (option_map (λ r. noted facts r rs) o)))
some_there facts None rs narrow = tt
some_there facts (Some r) rs narrow = noted_there facts r rs narrow

related_fresh_there : (facts : Facts) (lo hi : ℤ) (hole : Option ℤ) (rs : List Relation)
    → IfSome (expr_made (fresh facts lo hi hole rs)) (IsThere (facts_made facts (fresh facts lo hi hole rs)))
unfolding fresh
related_fresh_there facts lo hi hole rs =
    some_there facts (range_without (int_max lo LEAST) (int_min hi GREATEST) hole) rs
    (range_without_narrow (int_max lo LEAST) (int_min hi GREATEST) hole (omega (arith, ints, clamps))
    (omega (arith, ints, clamps)))

kept_there : (facts : Facts) (e : Expr) → IsNamed facts e → is_kept e ≡ true → IsThere facts e
kept_there facts e there kept =
    let parts = and_parts (int_le (negsuc 4294967295) e.k) _ kept in
    record { there = there; least = le_true _ _ parts.0; greatest = le_true _ _ parts.1 }
  where
    le_true : (m n : ℤ) → int_le m n ≡ true → m ≤ℤ n
    le_true m n e = omega (arith, ints)

settled_there : (facts : Facts) (o : Outcome) (rs : List Relation) → NamesIt facts o
    → IfSome (expr_made (settled facts o rs)) (IsThere (facts_made facts (settled facts o rs)))
unfolding settled
settled_there facts (Is e) rs named =
    cond_both (is_kept e) _ _ (λ (o : Option Made). IfSome (expr_made o) (IsThere (facts_made facts o)))
    (λ is. kept_there facts e named is) (λ is. tt)
settled_there facts (Within r) rs named = related_fresh_there facts r.lo r.hi None rs

-- The expression that is made of a result is there behind the rule.
pub result_there : (op : BinOp) (facts : Facts) (a b : Expr) → IsNamed facts a → IsNamed facts b
    → IfSome (expr_made (settled facts (outcome op facts a b) (relations op facts a b)))
    (IsThere (facts_made facts (settled facts (outcome op facts a b) (relations op facts a b))))
result_there op facts a b first second =
    settled_there facts (outcome op facts a b) (relations op facts a b) (outcome_named op facts a b first second)

pub there_where_ok : {E : Type 0} (op : BinOp) (before : Facts) (a b : Expr) (result : Result (Option Expr) E)
    (after : Facts) → IsNamed before a → IsNamed before b
    → IfOk result (λ e. e ≡ expr_made (settled before (outcome op before a b) (relations op before a b)))
    → OnOk result (after ≡ facts_made before (settled before (outcome op before a b) (relations op before a b)))
    → IfOk result (λ e. IfSome e (IsThere after))
there_where_ok op before a b (Ok e) after first second value facts =
    rw (value, facts) (result_there op before a b first second)
there_where_ok op before a b (Err e) after first second value facts = value
