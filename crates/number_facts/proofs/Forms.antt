-- The rules keep the form of what is known: symbols that are there, and ranges of int32.
use Rattle.std.proofs.Common.{◌≡◌, ℕ, zero, suc, ◌==◌, ◌+◌, ◌≤◌, ◌<◌, ℤ, pos, ◌-ℤ◌, Bool, true, false, ◌&&◌, int_eq, Option, Some, None, List, [], ◌∷◌, ◌++◌, length, inl, inr, refl, arith}
use Rattle.std.specs.Prelude.{set, Result, Ok, Err, IfOk, OnOk, OnErr}
use Rattle.std.specs.Option.{option_map, option_and_then}
use Rattle.std.specs.Int.{int_min, int_max}
use Rattle.std.specs.List.{AllByRecursion}
use Rattle.std.proofs.lemmas.Int.{ints, clamps}
use Rattle.std.proofs.lemmas.Bool.{cases_Bool, cond_both}
use Rattle.std.proofs.lemmas.List.{length-set}
use Rattle.domain_api.specs.declared.expr.Expr.{Expr}
use Rattle.cil_model.specs.Arithmetic.{LEAST, GREATEST}
use Rattle.cil_model.specs.declared.instruction.BinOp.{BinOp}
use Rattle.cil_model.specs.declared.instruction.CmpOp.{CmpOp}
use Rattle.cil_model.specs.declared.instruction.CmpOp.TheVariants as comparisons
use Rattle.interval_domain.specs.Interval.{Interval, between}
use Rattle.pentagon_domain.specs.declared.bound_row.BoundRow.{BoundRow}
use Rattle.pentagon_domain.specs.Rows.{is_pair, is_before, is_of, put, with_bound}
use Rattle.pentagon_domain.specs.Gaps.{AreBelow}
use Rattle.symbolic_values.specs.declared.def.Def.{Def}
use Rattle.symbolic_values.specs.declared.def.Def.TheVariants.{Eq, Lt, LtUn, NullTest, Sub}
use Rattle.number_spans.specs.Constants.{constant, of_constants}
use Rattle.number_spans.specs.Spans.{is_one, is_not_negative}
use Rattle.number_spans.specs.Stored.{IsNarrow}
use Rattle.number_spans.proofs.NarrowRanges.{SomeNarrow, without_narrow, range_without_narrow}
use Rattle.number_facts.specs.Assume as rule
use Rattle.number_facts.specs.Comparisons.{truth_of, defined_by, known, pushed, compared_or, compared}
use Rattle.number_facts.specs.Ends.{range_of}
use Rattle.number_facts.specs.Facts.{Facts, AreNarrow, IsNamed}
use Rattle.number_facts.specs.Fresh.{Made, bounded, defined, facts_made, fresh, is_long, noted, related_so}
use Rattle.number_facts.specs.Gaps.{at_most, equal}
use Rattle.number_facts.specs.Holds.{AreNamed, KeepsForm, Names, NamesOwn}
use Rattle.number_facts.proofs.Small.{narrow_range}
use Rattle.number_facts.proofs.Truths.{named_truth}

-- If anything is reached, its form is kept.
abbrev pub SomeKeepsForm : Facts → Option Facts → Type 0
SomeKeepsForm before None = Unit {0}
SomeKeepsForm before (Some after) = KeepsForm before after

pub same_form : (facts : Facts) → KeepsForm facts facts
same_form facts = record { there = omega arith; named = λ is. is; narrow = λ is. is }

then_form : (before : Facts) (o : Option Facts) (f : Facts → Option Facts) → SomeKeepsForm before o
    → ((facts : Facts) → KeepsForm before facts → SomeKeepsForm before (f facts)) → SomeKeepsForm before (option_and_then f o)
then_form before None f kept next = tt
then_form before (Some facts) f kept next = next facts kept

-- ---- lists

all_weaker : {X : Type 0} (P Q : X → Type 0) (xs : List X) → ((x : X) → P x → Q x) → AllByRecursion P xs → AllByRecursion Q xs
all_weaker P Q [] weaker all = tt
all_weaker P Q (x ∷ xs) weaker all = (weaker x all.0, all_weaker P Q xs weaker all.1)

all_appended : {X : Type 0} (P : X → Type 0) (xs : List X) (x : X) → AllByRecursion P xs → P x → AllByRecursion P (xs ++ x ∷ [])
all_appended P [] x all is = (is, tt)
all_appended P (y ∷ xs) x all is = (all.0, all_appended P xs x all.1 is)

all_set : (rs : List Interval) (i : ℕ) (r : Interval) → AllByRecursion IsNarrow rs → IsNarrow r → AllByRecursion IsNarrow (set rs i r)
all_set [] i r all is = tt
all_set (q ∷ rs) zero r all is = (is, all.1)
all_set (q ∷ rs) (suc i) r all is = (all.0, all_set rs i r all.1 is)

pub longer : (rs : List Interval) (r : Interval) → length (rs ++ r ∷ []) ≡ length rs + 1
longer [] r = refl
longer (q ∷ rs) r = let rest = longer rs r in let more : suc (length (rs ++ r ∷ [])) ≡ suc (length rs) + 1 = omega (arith, rest) in more

-- ---- bounds, definitions and ranges

put_below : (rows : List BoundRow) (count s t : ℕ) (k : ℤ) → s < count → t < count → AllByRecursion (AreBelow count) rows
    → AllByRecursion (AreBelow count) (put rows s t k)
put_below [] count s t k from to all = (record { from = from; to = to }, tt)
put_below (row ∷ rows) count s t k from to all =
    elim (cases_Bool (is_before row s t)) [
      | inl before ↦ rw before (all.0, put_below rows count s t k from to all.1)
      | inr behind ↦
          elim (cases_Bool (is_of row s t)) [
            | inl here ↦ rw (behind, here) (record { from = all.0.from; to = all.0.to }, all.1)
            | inr other ↦ rw (behind, other) (record { from = from; to = to }, (all.0, all.1))
          ]
    ]

with_bound_below : (rows : List BoundRow) (count s t : ℕ) (k : ℤ) → s < count → t < count → AllByRecursion (AreBelow count) rows
    → AllByRecursion (AreBelow count) (with_bound rows s t k)
with_bound_below rows count s t k from to all =
    cond_both (is_pair s t) _ _ (AllByRecursion (AreBelow count)) (λ e. put_below rows count s t k from to all) (λ e. all)

pub bounded_form : (before facts : Facts) (s t : ℕ) (k : ℤ) → KeepsForm before facts → s ≤ length before.ranges → t ≤ length before.ranges
    → KeepsForm before (bounded facts s t k)
unfolding bounded
bounded_form before facts s t k kept first second =
    let there = kept.there in
    let from : s < length facts.ranges + 1 = omega (arith, there, first) in
    let to : t < length facts.ranges + 1 = omega (arith, there, second) in
    cond_both (is_long k) _ _ (KeepsForm before)
    (λ e. record {
      there = there;
      named = λ is. record {
        bounds = with_bound_below facts.bounds (length facts.ranges + 1) s t k from to (kept.named is).bounds;
        definitions = (kept.named is).definitions;
      };
      narrow = kept.narrow;
    })
    (λ e. kept)

still_names : (count : ℕ) (def : Def) → Names count def → Names (count + 1) def
still_names count (Eq x y) named = (omega (arith, named.0), omega (arith, named.1))
still_names count (Lt x y) named = (omega (arith, named.0), omega (arith, named.1))
still_names count (LtUn x y) named = (omega (arith, named.0), omega (arith, named.1))
still_names count (NullTest r is) named = tt
still_names count (Sub x y) named = (omega (arith, named.0), omega (arith, named.1))

appended_named : (facts : Facts) (r : Interval) → AreNamed facts → AreNamed (record facts { ranges = facts.ranges ++ r ∷ [] })
appended_named facts r named =
    let size = longer facts.ranges r in
    record {
      bounds = rw size (all_weaker (AreBelow (length facts.ranges + 1)) (AreBelow ((length facts.ranges + 1) + 1)) facts.bounds
          (λ row is. record { from = omega (arith, is.from); to = omega (arith, is.to) }) named.bounds);
      definitions = rw size (all_weaker (NamesOwn (length facts.ranges)) (NamesOwn (length facts.ranges + 1)) facts.definitions
          (λ d is. (omega (arith, is.0), still_names (length facts.ranges) d.1 is.1)) named.definitions);
    }

pub appended_form : (facts : Facts) (r : Interval) → IsNarrow r → KeepsForm facts (record facts { ranges = facts.ranges ++ r ∷ [] })
appended_form facts r narrow =
    let size = longer facts.ranges r in
    record {
      there = omega (arith, size);
      named = appended_named facts r;
      narrow = λ all. all_appended IsNarrow facts.ranges r all narrow;
    }

pub defined_form : (before facts : Facts) (s : ℕ) (def : Def) → KeepsForm before facts → s ≤ length facts.ranges → Names (length facts.ranges) def
    → KeepsForm before (defined facts s def)
unfolding defined
defined_form before facts s def kept there names = record {
  there = kept.there;
  named = λ is. record {
    bounds = (kept.named is).bounds;
    definitions = all_appended (NamesOwn (length facts.ranges)) facts.definitions (s, def) (kept.named is).definitions (there, names);
  };
  narrow = kept.narrow;
}

-- ---- new symbols

noted_defined : (facts : Facts) (r : Interval) (o : Option Def) → IsNarrow r → ((def : Def) → o ≡ Some def → Names (length facts.ranges) def)
    → KeepsForm facts (related_so (record facts { ranges = facts.ranges ++ r ∷ [] }) (length facts.ranges + 1) (defined_by o))
noted_defined facts r None narrow names = appended_form facts r narrow
noted_defined facts r (Some def) narrow names =
    let size = longer facts.ranges r in
    defined_form facts (record facts { ranges = facts.ranges ++ r ∷ [] }) (length facts.ranges + 1) def (appended_form facts r narrow)
    (omega (arith, size)) (rw size (still_names (length facts.ranges) def (names def refl)))

noted_form : (facts : Facts) (r : Interval) (o : Option Def) → IsNarrow r → ((def : Def) → o ≡ Some def → Names (length facts.ranges) def)
    → KeepsForm facts (noted facts r (defined_by o)).facts
unfolding noted
noted_form facts r o narrow names = cond_both (int_eq r.lo r.hi) _ _ (λ (m : Made). KeepsForm facts m.facts)
    (λ e. same_form facts) (λ e. noted_defined facts r o narrow names)

some_noted : (facts : Facts) (o : Option Interval) → SomeNarrow o → KeepsForm facts (facts_made facts (option_map (λ r. noted facts r []) o))
some_noted facts None narrow = same_form facts
some_noted facts (Some r) narrow = noted_form facts r None narrow (λ def is. absurd cc)

pub fresh_form : (facts : Facts) (lo hi : ℤ) (hole : Option ℤ) → KeepsForm facts (facts_made facts (fresh facts lo hi hole []))
unfolding fresh
fresh_form facts lo hi hole =
    some_noted facts _ (range_without_narrow (int_max lo LEAST) (int_min hi GREATEST) hole (omega (arith, ints, clamps)) (omega (arith, ints, clamps)))

-- ---- comparisons

bit_narrow : IsNarrow (between (pos 0) (pos 1))
bit_narrow = record { least = omega (arith, ints); ordered = omega (arith, ints); greatest = omega (arith, ints); inner = tt }

pushed_form : (op : BinOp) (facts : Facts) (a b : Expr) (o : Option Bool) → IsNamed facts a → IsNamed facts b → KeepsForm facts (pushed op facts a b o).facts
pushed_form op facts a b None first second =
    noted_form facts (between (pos 0) (pos 1)) (truth_of op a b) bit_narrow (λ def is. named_truth op (length facts.ranges) a b def first second is)
pushed_form op facts a b (Some so) first second = same_form facts

compared_or_form : (o : Option ℤ) (facts : Facts) (made : Made) → KeepsForm facts made.facts → KeepsForm facts (compared_or o facts made).facts
compared_or_form None facts made kept = kept
compared_or_form (Some n) facts made kept = same_form facts

pub compared_form : (op : BinOp) (facts : Facts) (a b : Expr) → IsNamed facts a → IsNamed facts b → KeepsForm facts (compared op facts a b).facts
unfolding compared
compared_form op facts a b first second =
    compared_or_form (of_constants op a b) facts (pushed op facts a b (known op facts a b)) (pushed_form op facts a b (known op facts a b) first second)

-- what a rule makes, or what was before
pub form_kept : {X E : Type 0} (result : Result X E) (before made after : Facts) → KeepsForm before made → OnOk result (after ≡ made) → OnErr result (after ≡ before)
    → KeepsForm before after
form_kept (Ok x) before made after kept is failed = rw is kept
form_kept (Err e) before made after kept is failed = rw failed (same_form before)

-- ---- what is assumed

changed_form : (before facts : Facts) (s : ℕ) (o : Option Interval) → KeepsForm before facts → (AreNarrow facts → SomeNarrow o) → SomeKeepsForm before (rule.changed facts s o)
unfolding rule.changed
changed_form before facts zero o kept narrow = kept
changed_form before facts (suc s) None kept narrow = tt
changed_form before facts (suc s) (Some r) kept narrow =
    let size = length-set facts.ranges s r in
    record {
      there = rw size kept.there;
      named = λ is. record { bounds = rw size (kept.named is).bounds; definitions = rw size (kept.named is).definitions };
      narrow = λ is. all_set facts.ranges s r (kept.narrow is) (narrow (kept.narrow is));
    }

lowered_form : (before facts : Facts) (e : Expr) (n : ℤ) → KeepsForm before facts → SomeKeepsForm before (rule.lowered facts e n)
unfolding rule.lowered
lowered_form before facts e n kept = changed_form before facts e.sym _ kept
    (λ all. let is = narrow_range facts e.sym all in range_without_narrow _ _ _ is.least (omega (arith, ints, clamps, is.greatest)))

raised_form : (before facts : Facts) (e : Expr) (n : ℤ) → KeepsForm before facts → SomeKeepsForm before (rule.raised facts e n)
unfolding rule.raised
raised_form before facts e n kept = changed_form before facts e.sym _ kept
    (λ all. let is = narrow_range facts e.sym all in range_without_narrow _ _ _ (omega (arith, ints, clamps, is.least)) is.greatest)

cut_form : (before facts : Facts) (a : Expr) (more : ℤ) (b : Expr) → KeepsForm before facts → SomeKeepsForm before (rule.cut_both facts a more b)
unfolding rule.cut_both
cut_form before facts a more b kept = then_form before _ _ (lowered_form before facts a _ kept) (λ f cut. raised_form before f b _ cut)

at_most_form : (before facts : Facts) (a : Expr) (more : ℤ) (b : Expr) → a.sym ≤ length before.ranges → b.sym ≤ length before.ranges → KeepsForm before facts
    → SomeKeepsForm before (rule.assumed_at_most facts a more b)
unfolding rule.assumed_at_most
at_most_form before facts a more b first second kept =
    cond_both (at_most facts b (pos 1 -ℤ more) a) _ _ (SomeKeepsForm before) (λ e. tt)
    (λ e. cut_form before _ a more b (bounded_form before facts a.sym b.sym _ kept first second))

equal_form : (before facts : Facts) (a b : Expr) → a.sym ≤ length before.ranges → b.sym ≤ length before.ranges → KeepsForm before facts
    → SomeKeepsForm before (rule.assumed_equal facts a b)
unfolding rule.assumed_equal
equal_form before facts a b first second kept =
    then_form before _ _ (at_most_form before facts a (pos 0) b first second kept) (λ f cut. at_most_form before f b (pos 0) a second first cut)

lost_form : (before facts : Facts) (a b : Expr) → KeepsForm before facts → SomeKeepsForm before (rule.lost facts a b)
unfolding rule.lost
lost_form before facts a b kept = cond_both (is_one (range_of facts b)) _ _ (SomeKeepsForm before)
    (λ e. changed_form before facts a.sym _ kept (λ all. without_narrow _ _ (narrow_range facts a.sym all))) (λ e. kept)

ordered_form : (before facts : Facts) (a b : Expr) → a.sym ≤ length before.ranges → b.sym ≤ length before.ranges → KeepsForm before facts
    → SomeKeepsForm before (rule.ordered facts a b)
unfolding rule.ordered
ordered_form before facts a b first second kept = cond_both (at_most facts a (pos 0) b) _ _ (SomeKeepsForm before)
    (λ e. at_most_form before facts a (pos 1) b first second kept)
    (λ e. cond_both (at_most facts b (pos 0) a) _ _ (SomeKeepsForm before) (λ f. at_most_form before facts b (pos 1) a second first kept) (λ f. kept))

apart_form : (before facts : Facts) (a b : Expr) → a.sym ≤ length before.ranges → b.sym ≤ length before.ranges → KeepsForm before facts
    → SomeKeepsForm before (rule.assumed_apart facts a b)
unfolding rule.assumed_apart
apart_form before facts a b first second kept = cond_both (equal facts a b) _ _ (SomeKeepsForm before) (λ e. tt)
    (λ e. then_form before _ _ (then_form before _ _ (lost_form before facts a b kept) (λ f less. lost_form before f b a less))
    (λ f less. ordered_form before f a b first second less))

none_first : (count : ℕ) → 0 ≤ count
none_first count = omega arith

less_unsigned_form : (before facts : Facts) (a b : Expr) → a.sym ≤ length before.ranges → b.sym ≤ length before.ranges → KeepsForm before facts
    → SomeKeepsForm before (rule.assumed_less_unsigned facts a b)
unfolding rule.assumed_less_unsigned
less_unsigned_form before facts a b first second kept =
    let none = none_first (length before.ranges) in
    cond_both (is_not_negative (range_of facts b)) _ _ (SomeKeepsForm before)
    (λ e. then_form before _ _ (at_most_form before facts (constant (pos 0)) (pos 0) a none first kept) (λ f cut. at_most_form before f a (pos 1) b first second cut))
    (λ e. cond_both ((a.sym == 0) && int_eq a.k (pos 0)) _ _ (SomeKeepsForm before) (λ f. apart_form before facts b (constant (pos 0)) second none kept) (λ f. kept))

at_most_unsigned_form : (before facts : Facts) (a b : Expr) → a.sym ≤ length before.ranges → b.sym ≤ length before.ranges → KeepsForm before facts
    → SomeKeepsForm before (rule.assumed_at_most_unsigned facts a b)
unfolding rule.assumed_at_most_unsigned
at_most_unsigned_form before facts a b first second kept =
    cond_both (is_not_negative (range_of facts b)) _ _ (SomeKeepsForm before)
    (λ e. then_form before _ _ (at_most_form before facts (constant (pos 0)) (pos 0) a (none_first (length before.ranges)) first kept)
    (λ f cut. at_most_form before f a (pos 0) b first second cut))
    (λ e. kept)

holding_form : (op : CmpOp) (facts : Facts) (a b : Expr) → IsNamed facts a → IsNamed facts b → SomeKeepsForm facts (rule.holding op facts a b)
unfolding rule.holding
holding_form comparisons.Eq f a b p q = equal_form f f a b p q (same_form f)
holding_form comparisons.Ge f a b p q = at_most_form f f b (pos 0) a q p (same_form f)
holding_form comparisons.Gt f a b p q = at_most_form f f b (pos 1) a q p (same_form f)
holding_form comparisons.Le f a b p q = at_most_form f f a (pos 0) b p q (same_form f)
holding_form comparisons.Lt f a b p q = at_most_form f f a (pos 1) b p q (same_form f)
holding_form comparisons.NeUn f a b p q = apart_form f f a b p q (same_form f)
holding_form comparisons.GeUn f a b p q = at_most_unsigned_form f f b a q p (same_form f)
holding_form comparisons.GtUn f a b p q = less_unsigned_form f f b a q p (same_form f)
holding_form comparisons.LeUn f a b p q = at_most_unsigned_form f f a b p q (same_form f)
holding_form comparisons.LtUn f a b p q = less_unsigned_form f f a b p q (same_form f)

assumed_form : (op : CmpOp) (facts : Facts) (a b : Expr) (holds : Bool) → IsNamed facts a → IsNamed facts b → SomeKeepsForm facts (rule.assumed op facts a b holds)
unfolding rule.assumed
assumed_form op facts a b true first second = holding_form op facts a b first second
assumed_form op facts a b false first second = holding_form (rule.contrary op) facts a b first second

-- what is assumed keeps the form, where something is reached
pub form_where_ok : {E : Type 0} (op : CmpOp) (before : Facts) (a b : Expr) (holds : Bool) (result : Result Bool E) (after : Facts) → IsNamed before a → IsNamed before b
    → IfOk result (λ reached. reached ≡ true → rule.assumed op before a b holds ≡ Some after) → IfOk result (λ reached. reached ≡ true → KeepsForm before after)
form_where_ok op before a b holds (Ok reached) after first second known = λ is. rw (known is) at (assumed_form op before a b holds first second)
form_where_ok op before a b holds (Err e) after first second known = known
