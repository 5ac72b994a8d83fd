-- Comparisons keep the form of what is known.
use Rattle.std.proofs.Common.{◌≡◌, ℕ, ◌==◌, ◌+◌, ◌≤◌, ◌<◌, ℤ, pos, Bool, true, false, Option, Some, None, List, [], ◌∷◌, ◌++◌, ◌&&◌, length, refl, subst, arith}
use Rattle.std.specs.Prelude.{if◌then◌else◌}
use Rattle.std.specs.List.{AllByRecursion}
use Rattle.std.specs.Option.{IsSome}
use Rattle.std.proofs.lemmas.Bool.{cond_both, false≢true}
use Rattle.std.proofs.lemmas.Int.{ints}
use Rattle.cil_model.specs.Arithmetic.{truth}
use Rattle.cil_model.specs.Comparisons.{comparison_of}
use Rattle.cil_model.specs.declared.instruction.BinOp.{BinOp}
use Rattle.cil_model.specs.declared.instruction.BinOp.TheVariants as operators
use Rattle.cil_model.specs.declared.instruction.CmpOp.{CmpOp}
use Rattle.domain_api.specs.declared.expr.Expr.{Expr}
use Rattle.interval_domain.specs.Interval.{Interval, between}
use Rattle.number_facts.proofs.Forms.{compared_form, fresh_form}
use Rattle.number_facts.specs.Comparisons.{truth_of, defined_by, known as known_truth, pushed as truth_pushed, compared_or, compared}
use Rattle.number_facts.specs.Facts.{Facts, IsNamed}
use Rattle.number_facts.specs.Fresh.{Made, defined, fresh, noted}
use Rattle.number_facts.specs.declared.relation.Relation.TheVariants.{Is}
use Rattle.number_facts.specs.Holds.{KeepsForm, NamesOwn}
use Rattle.number_spans.specs.Stored.{range_without}
use Rattle.number_spans.specs.Constants.{constant, is_constant, of_constants}
use Rattle.symbolic_values.specs.Names.{same_flag}
use Rattle.symbolic_values.specs.declared.def.Def.{Def}
use Rattle.symbolic_values.specs.declared.def.Def.TheVariants.{NullTest}
use Rattle.state_facts.specs.Comparing.{null_tested, null_known, same_known, truth_expr, with_comparison, with_defined, with_known, with_null_known, with_null_test, with_same, with_same_known, with_tested, with_truth, is_equality}
use Rattle.state_facts.specs.Forms.{IsNumber, IsVar, SymbolsRise, TestsOf, HasForm}
use Rattle.state_facts.specs.StateFacts.{StateFacts, nullness_at}
use Rattle.frame_names.specs.declared.var.Var.{Var}
use Rattle.frame_names.specs.declared.var.Var.TheVariants as vars
use Rattle.state_facts.proofs.Growing.{Formed, Grows, all_weaker, all_pushed, one_longer, same_facts}
use Rattle.state_facts.proofs.MadeNumbers.{on_top_form}
use Rattle.state_facts.proofs.MoveForms.{pushed_form, number_form}

-- ---- one definition more, of a later symbol

pub rising_pushed : (definitions : List (ℕ × Def)) (d : ℕ × Def) → SymbolsRise definitions → AllByRecursion (λ (e : ℕ × Def). e.0 < d.0) definitions
    → SymbolsRise (definitions ++ d ∷ [])
rising_pushed [] d rising below = (tt, tt)
rising_pushed (e ∷ definitions) d rising below =
    (all_pushed (λ (later : ℕ × Def). e.0 < later.0) definitions d rising.0 below.0, rising_pushed definitions d rising.1 below.1)

-- A definition of a later symbol is appended.
pub grows_by : (known : StateFacts) (facts : Facts) (s : ℕ) (def : Def) → HasForm known → KeepsForm known.facts facts → length known.facts.ranges < s
    → facts.definitions ≡ known.facts.definitions ++ (s, def) ∷ [] → TestsOf (length known.references) def → Grows known facts
grows_by known facts s def form kept later is names = record {
  form = kept;
  rising = rw is (
    all_pushed (λ (d : ℕ × Def). 1 ≤ d.0) known.facts.definitions (s, def) form.rising.0 (omega (arith, later)),
    rising_pushed known.facts.definitions (s, def) form.rising.1
        (all_weaker (NamesOwn (length known.facts.ranges)) (λ (e : ℕ × Def). e.0 < s) known.facts.definitions (λ d own. below d.0 own.0) form.named.definitions),
  );
  tests = rw is (all_pushed (λ (d : ℕ × Def). TestsOf (length known.references) d.1) known.facts.definitions (s, def) form.tests names);
}
  where
    below : (m : ℕ) → m ≤ length known.facts.ranges → m < s
    below m there = omega (arith, there, later)

-- ---- numbers

abbrev pub AllTest : ℕ → Option Def → Type 0
AllTest references None = Unit {0}
AllTest references (Some def) = TestsOf references def

truth_tests : (references : ℕ) (op : BinOp) (a b : Expr) → AllTest references (truth_of op a b)
truth_tests references operators.Ceq a b = tt
truth_tests references operators.Cgt a b = tt
truth_tests references operators.CgtUn a b = tt
truth_tests references operators.Clt a b = tt
truth_tests references operators.CltUn a b = tt
truth_tests references _ a b = tt

-- A number of a comparison is there, and what is known grows by its definition at most.
pub record IsCompared (known : StateFacts) (made : Made) : Type 0 where
  pub grows : Grows known made.facts
  pub number : IsNumber (length made.facts.ranges) made.expr

truth_number : (n : ℕ) (so : Bool) → IsNumber n (constant (truth so))
truth_number n true = record { there = omega arith; near = record { least = omega (arith, ints); greatest = omega (arith, ints) } }
truth_number n false = record { there = omega arith; near = record { least = omega (arith, ints); greatest = omega (arith, ints) } }

next_number : (facts : Facts) (r : Interval) → IsNumber (length (facts.ranges ++ r ∷ [])) (record { sym = length facts.ranges + 1; k = pos 0 })
next_number facts r =
    let size = one_longer facts.ranges r in
    record { there = omega (arith, size); near = record { least = omega (arith, ints); greatest = omega (arith, ints) } }

noted_compared : (known : StateFacts) (o : Option Def) → HasForm known → AllTest (length known.references) o
    → KeepsForm known.facts (noted known.facts (between (pos 0) (pos 1)) (defined_by o)).facts
    → IsCompared known (noted known.facts (between (pos 0) (pos 1)) (defined_by o))
unfolding noted defined
noted_compared known None form names kept = record {
  grows = record { form = kept; rising = form.rising; tests = form.tests };
  number = next_number known.facts (between (pos 0) (pos 1));
}
noted_compared known (Some def) form names kept = record {
  grows = grows_by known _ (length known.facts.ranges + 1) def form kept (omega arith) refl names;
  number = next_number known.facts (between (pos 0) (pos 1));
}

pushed_compared : (op : BinOp) (known : StateFacts) (a b : Expr) (o : Option Bool) → HasForm known
    → KeepsForm known.facts (truth_pushed op known.facts a b o).facts → IsCompared known (truth_pushed op known.facts a b o)
pushed_compared op known a b None form kept = noted_compared known (truth_of op a b) form (truth_tests (length known.references) op a b) kept
pushed_compared op known a b (Some so) form kept = record { grows = same_facts known form; number = truth_number _ so }

constant_or : (known : StateFacts) (o : Option ℤ) (made : Made) → HasForm known → ((n : ℤ) → o ≡ Some n → IsNumber (length known.facts.ranges) (constant n))
    → (o ≡ None → IsCompared known made) → IsCompared known (compared_or o known.facts made)
constant_or known None made form near kept = kept refl
constant_or known (Some n) made form near kept = record { grows = same_facts known form; number = near n refl }

-- ---- two constants

bit_number : (n : ℕ) (c so : Bool) (k : ℤ) → (if c then Some (truth so) else None) ≡ Some k → IsNumber n (constant k)
bit_number n true so k is = subst (λ (m : ℤ). IsNumber n (constant m)) (same (truth so) k is) (truth_number n so)
  where
    same : (m k : ℤ) → Some m ≡ Some k → m ≡ k
    same m k is = cc
bit_number n false so k is = absurd cc

no_comparison : (cmp : CmpOp) → None ≡ Some cmp → ⊥
no_comparison cmp is = cc

constants_number : (op : BinOp) (n : ℕ) (a b : Expr) (cmp : CmpOp) (k : ℤ) → comparison_of op ≡ Some cmp → of_constants op a b ≡ Some k → IsNumber n (constant k)
constants_number operators.Ceq n a b cmp k comparison is = bit_number n (is_constant a && is_constant b) _ k is
constants_number operators.Cgt n a b cmp k comparison is = bit_number n (is_constant a && is_constant b) _ k is
constants_number operators.CgtUn n a b cmp k comparison is = bit_number n (is_constant a && is_constant b) _ k is
constants_number operators.Clt n a b cmp k comparison is = bit_number n (is_constant a && is_constant b) _ k is
constants_number operators.CltUn n a b cmp k comparison is = bit_number n (is_constant a && is_constant b) _ k is
constants_number operators.Add n a b cmp k comparison is = absurd (no_comparison cmp comparison)
constants_number operators.Sub n a b cmp k comparison is = absurd (no_comparison cmp comparison)
constants_number operators.Mul n a b cmp k comparison is = absurd (no_comparison cmp comparison)
constants_number operators.Div n a b cmp k comparison is = absurd (no_comparison cmp comparison)
constants_number operators.DivUn n a b cmp k comparison is = absurd (no_comparison cmp comparison)
constants_number operators.Rem n a b cmp k comparison is = absurd (no_comparison cmp comparison)
constants_number operators.RemUn n a b cmp k comparison is = absurd (no_comparison cmp comparison)
constants_number operators.And n a b cmp k comparison is = absurd (no_comparison cmp comparison)
constants_number operators.Or n a b cmp k comparison is = absurd (no_comparison cmp comparison)
constants_number operators.Xor n a b cmp k comparison is = absurd (no_comparison cmp comparison)
constants_number operators.Shl n a b cmp k comparison is = absurd (no_comparison cmp comparison)
constants_number operators.Shr n a b cmp k comparison is = absurd (no_comparison cmp comparison)
constants_number operators.ShrUn n a b cmp k comparison is = absurd (no_comparison cmp comparison)
constants_number operators.AddOvf n a b cmp k comparison is = absurd (no_comparison cmp comparison)
constants_number operators.MulOvf n a b cmp k comparison is = absurd (no_comparison cmp comparison)
constants_number operators.SubOvf n a b cmp k comparison is = absurd (no_comparison cmp comparison)

truth_form : (op : BinOp) (a b : Expr) (cmp : CmpOp) (known : StateFacts) → HasForm known → IsNamed known.facts a → IsNamed known.facts b
    → comparison_of op ≡ Some cmp → IsCompared known (compared op known.facts a b)
unfolding compared
truth_form op a b cmp known form first second is =
    constant_or known (of_constants op a b) _ form (λ n so. constants_number op (length known.facts.ranges) a b cmp n is so)
    (λ none. pushed_compared op known a b (known_truth op known.facts a b) form
    (subst (λ (o : Option ℤ). KeepsForm known.facts (compared_or o known.facts (truth_pushed op known.facts a b (known_truth op known.facts a b))).facts) none
    (compared_form op known.facts a b first second)))

-- ---- references

known_form : (holds is : Bool) (known : StateFacts) → HasForm known → HasForm (with_known holds is known)
known_form holds is known form = pushed_form known (vars.Number (truth_expr holds is)) form (truth_number (length known.facts.ranges) (same_flag holds is))

-- a new truth, of which it is known that it is a null test
bit_form : (facts : Facts) → KeepsForm facts (noted facts (between (pos 0) (pos 1)) []).facts
unfolding fresh range_without
bit_form facts = fresh_form facts (pos 0) (pos 1) None

test_kept : (facts : Facts) (r : ℕ) (is : Bool) → KeepsForm facts (noted facts (between (pos 0) (pos 1)) []).facts
    → KeepsForm facts (noted facts (between (pos 0) (pos 1)) (Is (NullTest r is) ∷ [])).facts
unfolding noted defined
test_kept facts r is kept =
    let size = one_longer facts.ranges (between (pos 0) (pos 1)) in
    record {
      there = kept.there;
      named = λ named. record {
        bounds = (kept.named named).bounds;
        definitions = all_pushed (NamesOwn (length (facts.ranges ++ between (pos 0) (pos 1) ∷ []))) facts.definitions (length facts.ranges + 1, NullTest r is)
            (kept.named named).definitions (omega (arith, size), tt);
      };
      narrow = kept.narrow;
    }

test_form : (r : ℕ) (is : Bool) (known : StateFacts) → HasForm known → r ≤ length known.references → HasForm (with_defined (NullTest r is) known)
unfolding with_defined
test_form r is known form there =
    let so = noted_compared known (Some (NullTest r is)) form there (test_kept known.facts r is (bit_form known.facts)) in
    on_top_form known (noted known.facts (between (pos 0) (pos 1)) (Is (NullTest r is) ∷ [])) form so.grows so.number

null_test_form : (r : ℕ) (is : Bool) (known : StateFacts) (o : Option Bool) → HasForm known → r ≤ length known.references → HasForm (with_null_known r is known o)
null_test_form r is known None form there = test_form r is known form there
null_test_form r is known (Some holds) form there = known_form holds is known form

same_form : (is : Bool) (known : StateFacts) (o : Option Bool) → HasForm known → Formed (with_same_known is known o)
same_form is known None form = number_form (pos 0) (pos 1) known form
same_form is known (Some holds) form = known_form holds is known form

tested_form : (r q : ℕ) (is : Bool) (known : StateFacts) (o : Option ℕ) → HasForm known → ((n : ℕ) → o ≡ Some n → n ≤ length known.references)
    → Formed (with_tested r q is known o)
unfolding with_null_test with_same
tested_form r q is known None form there = same_form is known (same_known known r q) form
tested_form r q is known (Some n) form there = null_test_form n is known (null_known (nullness_at known n)) form (there n refl)

pub tested_there : (r q count n : ℕ) → r ≤ count → q ≤ count → null_tested r q ≡ Some n → n ≤ count
tested_there r q count n first second is =
    cond_both (r == 0) _ _ (λ (o : Option ℕ). o ≡ Some n → n ≤ count) (λ e so. same q so second)
    (λ e. cond_both (q == 0) _ _ (λ (o : Option ℕ). o ≡ Some n → n ≤ count) (λ f so. same r so first) (λ f so. absurd cc)) is
  where
    same : (m : ℕ) → Some m ≡ Some n → m ≤ count → n ≤ count
    same m so there = subst (λ (k : ℕ). k ≤ count) (number m n so) there
      where
        number : (m n : ℕ) → Some m ≡ Some n → m ≡ n
        number m n so = cc

pub comparison_form : (op : BinOp) (a b : Var) (cmp : CmpOp) (known : StateFacts) → HasForm known
    → IsVar (length known.facts.ranges) (length known.references) a → IsVar (length known.facts.ranges) (length known.references) b
    → comparison_of op ≡ Some cmp → Formed (with_comparison op a b known)
unfolding with_comparison with_truth
comparison_form op (vars.Number a) (vars.Number b) cmp known form first second is =
    let so = truth_form op a b cmp known form first.there second.there is in
    on_top_form known (compared op known.facts a b) form so.grows so.number
comparison_form op (vars.Number a) (vars.Reference q) cmp known form first second is = form
comparison_form op (vars.Number a) vars.Text cmp known form first second is = form
comparison_form op (vars.Reference r) (vars.Number b) cmp known form first second is = form
comparison_form op (vars.Reference r) (vars.Reference q) cmp known form first second is =
    tested_form r q (is_equality op) known (null_tested r q) form (λ n so. tested_there r q (length known.references) n first second so)
comparison_form op (vars.Reference r) vars.Text cmp known form first second is = form
comparison_form op vars.Text b cmp known form first second is = form
comparison_form op (vars.Number a) (vars.Address q f) cmp known form first second is = form
comparison_form op (vars.Reference r) (vars.Address q f) cmp known form first second is = form
comparison_form op (vars.Address r e) b cmp known form first second is = form

pub compared_formed : (op : BinOp) (a b : Var) (known : StateFacts) → IsSome (comparison_of op) → HasForm known
    → IsVar (length known.facts.ranges) (length known.references) a → IsVar (length known.facts.ranges) (length known.references) b
    → Formed (with_comparison op a b known)
compared_formed op a b known some form first second = by_cmp (comparison_of op) refl some
  where
    by_cmp : (o : Option CmpOp) → comparison_of op ≡ o → IsSome o → Formed (with_comparison op a b known)
    by_cmp None is some = absurd (false≢true some)
    by_cmp (Some cmp) is some = comparison_form op a b cmp known form first second is
