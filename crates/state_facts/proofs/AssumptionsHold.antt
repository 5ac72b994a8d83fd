-- What is assumed of a comparison that is so keeps what is known so, by the same choice.
use Rattle.std.proofs.Common.{◌≡◌, ◌≢◌, ℕ, zero, suc, ◌==◌, ◌-◌, ◌≤◌, ℤ, pos, ◌≤ℤ◌, ◌<ℤ◌, Bool, true, false, not, ◌&&◌, int_eq, int_le, int_lt, Option, Some, None, List, [], ◌∷◌, length, FitsSigned, w32, ◌⊎◌, inl, inr, refl, sym, ap, subst, ◌∙◌, arith}
use Rattle.std.specs.Prelude.{nat_lt, set, slice_get, if◌then◌else◌}
use Rattle.std.specs.List.{AllByRecursion}
use Rattle.std.specs.Option.{ForSome, option_and_then, option_map}
use Rattle.std.proofs.lemmas.Bool.{and_parts, cond_both, eqb-true, false≢true}
use Rattle.std.proofs.lemmas.Bool.Decides.{Decides-int_eq}
use Rattle.std.proofs.lemmas.Int.{ints}
use Rattle.std.proofs.lemmas.List.{length-set}
use Rattle.alias_facts.specs.Arrays.{is_no_array}
use Rattle.alias_facts.specs.NullnessOf.{Agrees}
use Rattle.alias_facts.specs.declared.nullness.Nullness.{Nullness}
use Rattle.alias_facts.specs.declared.nullness.Nullness.TheVariants.{May, NotNull, Null}
use Rattle.cil_model.specs.Arithmetic.{compares, unsigned}
use Rattle.cil_model.specs.Comparisons.{compares_references, compares_values, reference_of, same_reference}
use Rattle.cil_model.specs.Values.{Heap, IsValue}
use Rattle.cil_model.specs.declared.instruction.CmpOp.{CmpOp}
use Rattle.cil_model.specs.declared.instruction.CmpOp.TheVariants as comparisons
use Rattle.cil_model.specs.declared.machine.Value.{Value}
use Rattle.domain_api.specs.declared.expr.Expr.{Expr}
use Rattle.number_facts.proofs.Keeping.{Kept, SomeKept, then_kept, le_kept, less_kept, equal_kept, apart_kept}
use Rattle.number_facts.proofs.Knowing.{constant_worth, not_negative, zero_number}
use Rattle.number_facts.specs.Assume as rule
use Rattle.number_facts.specs.Ends.{range_of}
use Rattle.number_facts.specs.Facts.{Facts, IsNamed}
use Rattle.number_facts.specs.Holds.{Holds, IsDefined, is_below}
use Rattle.number_spans.specs.Constants.{constant}
use Rattle.number_spans.specs.Spans.{is_not_negative}
use Rattle.symbolic_values.specs.Meaning.{told, truth}
use Rattle.symbolic_values.specs.Names.{same_flag}
use Rattle.symbolic_values.specs.Worth.{worth}
use Rattle.symbolic_values.specs.declared.def.Def.{Def}
use Rattle.symbolic_values.specs.declared.def.Def.TheVariants.{Eq, Lt, LtUn, NullTest, Sub}
use Rattle.state_facts.specs.Assuming.{AreNamedTests, IsNamedTest, assumed, contradicts, definition_at, following, is_equality, is_zero, null_if, symbol_above_zero, symbol_alone, symbol_told, symbol_with_zero, told_by, told_of, with_facts, with_flag, with_null, with_null_tested, with_nullness, with_same, with_steps, with_test, with_told}
use Rattle.state_facts.specs.Comparing.{null_tested}
use Rattle.state_facts.specs.Forms.{HasForm, IsVar, TestsOf}
use Rattle.state_facts.specs.Holds.{HasValue, HoldsBy, HoldsIn, IsSo, AreSo}
use Rattle.state_facts.specs.Keeps.{KeepsAssumed}
use Rattle.state_facts.specs.StateFacts.{StateFacts, State, nullness_at, reference_at}
use Rattle.state_facts.specs.States as calls
use Rattle.frame_names.specs.declared.reference.Reference.{Reference}
use Rattle.state_facts.specs.declared.test.Test.{Test}
use Rattle.state_facts.specs.declared.test.Test.TheVariants.{Compares, IsNull}
use Rattle.frame_names.specs.declared.var.Var.{Var}
use Rattle.frame_names.specs.declared.var.Var.TheVariants as vars
use Rattle.state_facts.proofs.ArraysHold.{nullness_agrees}
use Rattle.state_facts.proofs.AssumptionForms.{ready_behind}
use Rattle.state_facts.proofs.ComparisonForms.{tested_there}
use Rattle.state_facts.proofs.ComparisonsHold.{like_address, like_itself, like_number, like_reference, like_text, number_fits, number_like, numbers_compare, reference_like, reference_value, tested_tells, unlike_values, value_of_reference}

-- ---- comparisons of whole numbers

-- As the machine compares int32, where each negative number counts as above all others in place of unsigned ones.
abbrev pub whole : CmpOp → ℤ → ℤ → Bool
whole comparisons.Eq m n = int_eq m n
whole comparisons.Ge m n = int_le n m
whole comparisons.Gt m n = int_lt n m
whole comparisons.Le m n = int_le m n
whole comparisons.Lt m n = int_lt m n
whole comparisons.NeUn m n = not (int_eq m n)
whole comparisons.GeUn m n = not (is_below m n)
whole comparisons.GtUn m n = is_below n m
whole comparisons.LeUn m n = not (is_below n m)
whole comparisons.LtUn m n = is_below m n

below_is : (m n : ℤ) → FitsSigned w32 m → FitsSigned w32 n → is_below m n ≡ nat_lt (unsigned m) (unsigned n)
below_is m n first second = grind (arith, ints, first, second)

whole_is : (op : CmpOp) (m n : ℤ) → FitsSigned w32 m → FitsSigned w32 n → whole op m n ≡ compares op m n
whole_is comparisons.Eq m n first second = refl
whole_is comparisons.Ge m n first second = refl
whole_is comparisons.Gt m n first second = refl
whole_is comparisons.Le m n first second = refl
whole_is comparisons.Lt m n first second = refl
whole_is comparisons.NeUn m n first second = refl
whole_is comparisons.GeUn m n first second = ap not (below_is m n first second)
whole_is comparisons.GtUn m n first second = below_is n m second first
whole_is comparisons.LeUn m n first second = ap not (below_is n m second first)
whole_is comparisons.LtUn m n first second = below_is m n first second

le_true : (m n : ℤ) → int_le m n ≡ true → m ≤ℤ n
le_true m n e = omega (arith, ints)

lt_true : (m n : ℤ) → int_lt m n ≡ true → m <ℤ n
lt_true m n e = omega (arith, ints)

below_true : (m n : ℤ) → pos 0 ≤ℤ n → is_below m n ≡ true → (pos 0 ≤ℤ m) × (m <ℤ n)
below_true m n above e = (grind (arith, ints, above, e), grind (arith, ints, above, e))

below_false : (m n : ℤ) → pos 0 ≤ℤ m → is_below m n ≡ false → (pos 0 ≤ℤ n) × (n ≤ℤ m)
below_false m n above e = (grind (arith, ints, above, e), grind (arith, ints, above, e))

above_zero : (n : ℤ) → is_below (pos 0) n ≡ true → n ≢ pos 0
above_zero n e = λ is. grind (arith, ints, e, is)

eq_apart : (m n : ℤ) → not (int_eq m n) ≡ true → m ≢ n
eq_apart m n e = λ is. grind (arith, (Decides-int_eq m n).1 is, e)

not_true : (b : Bool) → not b ≡ true → b ≡ false
not_true true e = absurd (false≢true e)
not_true false e = refl

zero_is : (count : ℕ) (number : ℕ → ℤ) (P : List (ℕ × Def) → Type 0) (facts : Facts) → Kept count number P facts → worth number (constant (pos 0)) ≡ pos 0
zero_is count number P facts kept = constant_worth facts number (constant (pos 0)) kept.allowed refl

none_first : (count : ℕ) → 0 ≤ count
none_first count = omega arith

there_still : (count : ℕ) (number : ℕ → ℤ) (P : List (ℕ × Def) → Type 0) (facts : Facts) (s : ℕ) → Kept count number P facts → s ≤ count → s ≤ length facts.ranges
there_still count number P facts s kept there = let size = kept.size in omega (arith, size, there)

less_unsigned_kept : (count : ℕ) (number : ℕ → ℤ) (P : List (ℕ × Def) → Type 0) (facts : Facts) (a b : Expr) → Kept count number P facts → a.sym ≤ count → b.sym ≤ count
    → is_below (worth number a) (worth number b) ≡ true → SomeKept count number P (rule.assumed_less_unsigned facts a b)
unfolding rule.assumed_less_unsigned
less_unsigned_kept count number P facts a b kept first second less =
    cond_both (is_not_negative (range_of facts b)) _ _ (SomeKept count number P)
    (λ e.
    let order = below_true (worth number a) (worth number b) (not_negative facts number b kept.allowed (there_still count number P facts b.sym kept second) e) less in
    then_kept count number P _ _ (le_kept count number P facts (constant (pos 0)) a kept (none_first count) first (rw (zero_is count number P facts kept) order.0))
    (λ f cut. less_kept count number P f a b cut first second order.1))
    (λ e. cond_both ((a.sym == 0) && int_eq a.k (pos 0)) _ _ (SomeKept count number P)
    (λ f. apart_kept count number P facts b (constant (pos 0)) kept second (none_first count)
    (λ is. above_zero (worth number b) (subst (λ (m : ℤ). is_below m (worth number b) ≡ true) (first_is f) less) (is ∙ zero_is count number P facts kept)))
    (λ f. kept))
  where
    first_is : ((a.sym == 0) && int_eq a.k (pos 0)) ≡ true → worth number a ≡ pos 0
    first_is f = let parts = and_parts (a.sym == 0) (int_eq a.k (pos 0)) f in constant_worth facts number a kept.allowed parts.0 ∙ (Decides-int_eq a.k (pos 0)).0 parts.1

at_most_unsigned_kept : (count : ℕ) (number : ℕ → ℤ) (P : List (ℕ × Def) → Type 0) (facts : Facts) (a b : Expr) → Kept count number P facts → a.sym ≤ count → b.sym ≤ count
    → is_below (worth number b) (worth number a) ≡ false → SomeKept count number P (rule.assumed_at_most_unsigned facts a b)
unfolding rule.assumed_at_most_unsigned
at_most_unsigned_kept count number P facts a b kept first second not_less =
    cond_both (is_not_negative (range_of facts b)) _ _ (SomeKept count number P)
    (λ e.
    let order = below_false (worth number b) (worth number a) (not_negative facts number b kept.allowed (there_still count number P facts b.sym kept second) e) not_less in
    then_kept count number P _ _ (le_kept count number P facts (constant (pos 0)) a kept (none_first count) first (rw (zero_is count number P facts kept) order.0))
    (λ f cut. le_kept count number P f a b cut first second order.1))
    (λ e. kept)

whole_kept : (op : CmpOp) (c : ℕ) (n : ℕ → ℤ) (P : List (ℕ × Def) → Type 0) (f : Facts) (a b : Expr) → Kept c n P f → a.sym ≤ c → b.sym ≤ c
    → whole op (worth n a) (worth n b) ≡ true → SomeKept c n P (rule.holding op f a b)
unfolding rule.holding
whole_kept comparisons.Eq c n P f a b k p q e = equal_kept c n P f a b k p q ((Decides-int_eq (worth n a) (worth n b)).0 e)
whole_kept comparisons.Ge c n P f a b k p q e = le_kept c n P f b a k q p (le_true (worth n b) (worth n a) e)
whole_kept comparisons.Gt c n P f a b k p q e = less_kept c n P f b a k q p (lt_true (worth n b) (worth n a) e)
whole_kept comparisons.Le c n P f a b k p q e = le_kept c n P f a b k p q (le_true (worth n a) (worth n b) e)
whole_kept comparisons.Lt c n P f a b k p q e = less_kept c n P f a b k p q (lt_true (worth n a) (worth n b) e)
whole_kept comparisons.NeUn c n P f a b k p q e = apart_kept c n P f a b k p q (eq_apart (worth n a) (worth n b) e)
whole_kept comparisons.GeUn c n P f a b k p q e = at_most_unsigned_kept c n P f b a k q p (not_true _ e)
whole_kept comparisons.GtUn c n P f a b k p q e = less_unsigned_kept c n P f b a k q p e
whole_kept comparisons.LeUn c n P f a b k p q e = at_most_unsigned_kept c n P f a b k p q (not_true _ e)
whole_kept comparisons.LtUn c n P f a b k p q e = less_unsigned_kept c n P f a b k p q e

not_le : (m n : ℤ) → int_le n m ≡ false → int_lt m n ≡ true
not_le m n e = grind (arith, ints, e)

not_lt : (m n : ℤ) → int_lt n m ≡ false → int_le m n ≡ true
not_lt m n e = grind (arith, ints, e)

not_false : (b : Bool) → not b ≡ false → b ≡ true
not_false true e = refl
not_false false e = absurd (false≢true (sym e))

contrary_whole : (op : CmpOp) (m n : ℤ) → whole op m n ≡ false → whole (rule.contrary op) m n ≡ true
contrary_whole comparisons.Eq m n e = ap not e
contrary_whole comparisons.Ge m n e = not_le m n e
contrary_whole comparisons.Gt m n e = not_lt m n e
contrary_whole comparisons.Le m n e = not_le n m e
contrary_whole comparisons.Lt m n e = not_lt n m e
contrary_whole comparisons.NeUn m n e = not_false (int_eq m n) e
contrary_whole comparisons.GeUn m n e = not_false (is_below m n) e
contrary_whole comparisons.GtUn m n e = ap not e
contrary_whole comparisons.LeUn m n e = not_false (is_below n m) e
contrary_whole comparisons.LtUn m n e = ap not e

effective : (op : CmpOp) (holds : Bool) (m n : ℤ) → whole op m n ≡ holds → whole (if holds then op else rule.contrary op) m n ≡ true
effective op true m n e = e
effective op false m n e = contrary_whole op m n e

-- ---- tests

-- A test is so of a choice, and the reference that it names is there.
abbrev pub IsTrueOf : StateFacts → (ℕ → ℤ) → (ℕ → Option ℕ) → Test → Type 0
IsTrueOf known number array (Compares op a b holds) = whole op (worth number a) (worth number b) ≡ holds
IsTrueOf known number array (IsNull r is) = (r ≤ length known.references) × (is_no_array (array r) ≡ is)

abbrev pub AreTrueOf : StateFacts → (ℕ → ℤ) → (ℕ → Option ℕ) → Option Test → Type 0
AreTrueOf known number array None = Unit {0}
AreTrueOf known number array (Some test) = IsTrueOf known number array test

facts_hold : (known : StateFacts) (vs : List Value) (heap : Heap) (number : ℕ → ℤ) (array : ℕ → Option ℕ) (o : Option Facts) → HoldsBy known vs heap number array
    → SomeKept (length known.facts.ranges) number (AllByRecursion (IsDefined number (λ r. is_no_array (array r)))) o
    → HoldsIn (option_map (with_facts known) o) vs heap number array
facts_hold known vs heap number array None holds kept = elim kept [ ]
facts_hold known vs heap number array (Some f) holds kept = record {
  null = holds.null;
  facts = record { allowed = kept.allowed; definitions = kept.others };
  variables = holds.variables;
  references = holds.references;
  apart = holds.apart;
  contents = holds.contents;
}

compares_holds : (op : CmpOp) (a b : Expr) (so : Bool) (known : StateFacts) (vs : List Value) (heap : Heap) (number : ℕ → ℤ) (array : ℕ → Option ℕ)
    → HoldsBy known vs heap number array → IsNamed known.facts a → IsNamed known.facts b → whole op (worth number a) (worth number b) ≡ so
    → HoldsIn (option_map (with_facts known) (rule.assumed op known.facts a b so)) vs heap number array
unfolding rule.assumed
compares_holds op a b so known vs heap number array holds first second is =
    facts_hold known vs heap number array (rule.holding (if so then op else rule.contrary op) known.facts a b) holds
    (whole_kept (if so then op else rule.contrary op) (length known.facts.ranges) number (AllByRecursion (IsDefined number (λ r. is_no_array (array r)))) known.facts a b
    (record { size = refl; allowed = holds.facts.allowed; others = holds.facts.definitions }) first second
    (effective op so (worth number a) (worth number b) is))

-- ---- null

not_contradicted : (told : Nullness) (b is : Bool) → Agrees told b → b ≡ is → contradicts told is ≡ false
not_contradicted May b is agrees so = refl
not_contradicted NotNull b is agrees so = sym so ∙ agrees
not_contradicted Null b true agrees so = refl
not_contradicted Null b false agrees so = absurd (false≢true (sym so ∙ agrees))

agrees_told : (b is : Bool) → b ≡ is → Agrees (null_if is) b
agrees_told b true so = so
agrees_told b false so = so

-- one of the references at an index is this one, or as before
got_set : (xs : List Reference) (i j : ℕ) (x y : Reference) → slice_get (set xs i x) j ≡ Some y → ((i ≡ j) × (x ≡ y)) ⊎ (slice_get xs j ≡ Some y)
got_set [] i j x y is = inr is
got_set (z ∷ xs) zero zero x y is = inl (refl, same is)
  where
    same : Some x ≡ Some y → x ≡ y
    same is = cc
got_set (z ∷ xs) zero (suc j) x y is = inr is
got_set (z ∷ xs) (suc i) zero x y is = inr is
got_set (z ∷ xs) (suc i) (suc j) x y is = elim (got_set xs i j x y is) [ inl here ↦ inl (ap suc here.0, here.1) | inr other ↦ inr other ]

told_so : (heap : Heap) (number : ℕ → ℤ) (array : ℕ → Option ℕ) (references : List Reference) (r : ℕ) (x : Reference) (told : Nullness)
    → AreSo heap number array references → reference_at references r ≡ Some x → Agrees told (is_no_array (array r))
    → AreSo heap number array (set references (r - 1) (record x { nullness = told }))
unfolding reference_at
told_so heap number array references zero x told so at agrees = absurd cc
told_so heap number array references (suc r) x told so at agrees = each
  where
    each : AreSo heap number array (set references (suc r - 1) (record x { nullness = told }))
    each zero y is = absurd cc
    each (suc q) y is = elim (got_set references (suc r - 1) q (record x { nullness = told }) y is) [
      | inl here ↦
          let old = so (suc r) x at in
          let same : r ≡ q = before r q here.0 in
          subst (λ (z : Reference). IsSo heap number z (array (suc q))) here.1
          (subst (λ (n : ℕ). IsSo heap number (record x { nullness = told }) (array (suc n))) same
          (record { fits = old.fits; agrees = agrees; length_is = old.length_is }))
      | inr other ↦ so (suc q) y other
    ]
      where
        before : (m n : ℕ) → suc m - 1 ≡ n → m ≡ n
        before m n is = omega (arith, is)

told_holds : (r : ℕ) (told : Nullness) (known : StateFacts) (vs : List Value) (heap : Heap) (number : ℕ → ℤ) (array : ℕ → Option ℕ) (o : Option Reference)
    → HoldsBy known vs heap number array → ((x : Reference) → o ≡ Some x → reference_at known.references r ≡ Some x)
    → Agrees told (is_no_array (array r)) → HoldsBy (with_told known r told o) vs heap number array
told_holds r told known vs heap number array None holds is agrees = holds
told_holds r told known vs heap number array (Some x) holds is agrees = record {
  null = holds.null;
  facts = holds.facts;
  variables = holds.variables;
  references = told_so heap number array known.references r x told holds.references (is x refl) agrees;
  apart = holds.apart;
  contents = holds.contents;
}

null_holds : (r : ℕ) (is : Bool) (known : StateFacts) (vs : List Value) (heap : Heap) (number : ℕ → ℤ) (array : ℕ → Option ℕ) → HoldsBy known vs heap number array
    → r ≤ length known.references → is_no_array (array r) ≡ is → HoldsIn (with_null r is known) vs heap number array
unfolding with_null with_nullness
null_holds r is known vs heap number array holds there so =
    rw (not_contradicted (nullness_at known r) (is_no_array (array r)) is (nullness_agrees known vs heap number array r holds there) so)
    (told_holds r (null_if is) known vs heap number array (reference_at known.references r) holds (λ x e. e) (agrees_told (is_no_array (array r)) is so))

test_holds : (test : Test) (known : StateFacts) (vs : List Value) (heap : Heap) (number : ℕ → ℤ) (array : ℕ → Option ℕ) → HoldsBy known vs heap number array
    → IsNamedTest known test → IsTrueOf known number array test → HoldsIn (with_test test known) vs heap number array
unfolding with_test
test_holds (Compares op a b holds) known vs heap number array by named is = compares_holds op a b holds known vs heap number array by named.0 named.1 is
test_holds (IsNull r flag) known vs heap number array by named is = null_holds r flag known vs heap number array by is.0 is.1

-- ---- what follows by a definition

worth_zero : (facts : Facts) (number : ℕ → ℤ) (e : Expr) → number 0 ≡ pos 0 → is_zero e ≡ true → worth number e ≡ pos 0
worth_zero facts number e none is =
    let parts = and_parts (e.sym == 0) (int_eq e.k (pos 0)) is in
    let first : number e.sym ≡ pos 0 = ap number (eqb-true e.sym 0 parts.0) ∙ none in
    let second : e.k ≡ pos 0 = (Decides-int_eq e.k (pos 0)).0 parts.1 in
    omega (arith, ints, first, second)

-- A symbol is 0, or is not.
abbrev pub IsTold : (ℕ → ℤ) → ℕ → Bool → Type 0
IsTold number s true = number s ≢ pos 0
IsTold number s false = number s ≡ pos 0

abbrev AllTold : (ℕ → ℤ) → Option (ℕ × Bool) → Type 0
AllTold number None = Unit {0}
AllTold number (Some t) = IsTold number t.0 t.1

alone_is : (number : ℕ → ℤ) (e : Expr) (s : ℕ) → symbol_alone e ≡ Some s → worth number e ≡ number s
alone_is number e s is =
    cond_both (int_eq e.k (pos 0)) _ _ (λ (o : Option ℕ). o ≡ Some s → worth number e ≡ number s)
    (λ f so.
    let none : e.k ≡ pos 0 = (Decides-int_eq e.k (pos 0)).0 f in
    let same : number e.sym ≡ number s = ap number (same_symbol so) in
    omega (arith, ints, none, same))
    (λ f so. absurd cc) is
  where
    same_symbol : Some e.sym ≡ Some s → e.sym ≡ s
    same_symbol so = cc

-- the symbol that is compared with 0, and what it is compared with
with_zero_is : (number : ℕ → ℤ) (a b : Expr) (s : ℕ) → number 0 ≡ pos 0 → symbol_with_zero a b ≡ Some s
    → ((worth number a ≡ number s) × (worth number b ≡ pos 0)) ⊎ ((worth number b ≡ number s) × (worth number a ≡ pos 0))
with_zero_is number a b s none is =
    cond_both (is_zero b) _ _ (λ (o : Option ℕ). o ≡ Some s → ((worth number a ≡ number s) × (worth number b ≡ pos 0)) ⊎ ((worth number b ≡ number s) × (worth number a ≡ pos 0)))
    (λ f so. inl (alone_is number a s so, worth_zero_of b f))
    (λ f. cond_both (is_zero a) _ _ (λ (o : Option ℕ). o ≡ Some s → ((worth number a ≡ number s) × (worth number b ≡ pos 0)) ⊎ ((worth number b ≡ number s) × (worth number a ≡ pos 0)))
    (λ g so. inr (alone_is number b s so, worth_zero_of a g)) (λ g so. absurd cc)) is
  where
    worth_zero_of : (e : Expr) → is_zero e ≡ true → worth number e ≡ pos 0
    worth_zero_of e f =
        let parts = and_parts (e.sym == 0) (int_eq e.k (pos 0)) f in
        let first : number e.sym ≡ pos 0 = ap number (eqb-true e.sym 0 parts.0) ∙ none in
        let second : e.k ≡ pos 0 = (Decides-int_eq e.k (pos 0)).0 parts.1 in
        omega (arith, ints, first, second)

equal_told : (number : ℕ → ℤ) (a b : Expr) (o : Option ℕ) → number 0 ≡ pos 0 → worth number a ≡ worth number b
    → ((s : ℕ) → o ≡ Some s → ((worth number a ≡ number s) × (worth number b ≡ pos 0)) ⊎ ((worth number b ≡ number s) × (worth number a ≡ pos 0)))
    → AllTold number (with_flag false o)
equal_told number a b None none same tells = tt
equal_told number a b (Some s) none same tells = elim (tells s refl) [
  | inl first ↦ sym first.0 ∙ same ∙ first.1
  | inr second ↦ sym second.0 ∙ sym same ∙ second.1
]

apart_told : (number : ℕ → ℤ) (a b : Expr) (o : Option ℕ) → number 0 ≡ pos 0 → worth number a ≢ worth number b
    → ((s : ℕ) → o ≡ Some s → ((worth number a ≡ number s) × (worth number b ≡ pos 0)) ⊎ ((worth number b ≡ number s) × (worth number a ≡ pos 0)))
    → AllTold number (with_flag true o)
apart_told number a b None none other tells = tt
apart_told number a b (Some s) none other tells = elim (tells s refl) [
  | inl first ↦ λ is. other (first.0 ∙ is ∙ sym first.1)
  | inr second ↦ λ is. other (second.1 ∙ sym is ∙ sym second.0)
]

above_told : (facts : Facts) (number : ℕ → ℤ) (a b : Expr) → number 0 ≡ pos 0 → is_below (worth number a) (worth number b) ≡ true
    → AllTold number (with_flag true (symbol_above_zero facts a b))
unfolding symbol_above_zero
above_told facts number a b none less =
    cond_both (is_not_negative (range_of facts b)) _ _ (λ (o : Option ℕ). AllTold number (with_flag true o)) (λ f. tt)
    (λ f. cond_both (is_zero a) _ _ (λ (o : Option ℕ). AllTold number (with_flag true o))
    (λ g. each (symbol_alone b) (λ s so. alone_is number b s so) (subst (λ (m : ℤ). is_below m (worth number b) ≡ true) (worth_zero facts number a none g) less))
    (λ g. tt))
  where
    each : (o : Option ℕ) → ((s : ℕ) → o ≡ Some s → worth number b ≡ number s) → is_below (pos 0) (worth number b) ≡ true → AllTold number (with_flag true o)
    each None is above = tt
    each (Some s) is above = λ e. above_zero (worth number b) above (is s refl ∙ e)

told_symbol : (op : CmpOp) (facts : Facts) (number : ℕ → ℤ) (a b : Expr) → number 0 ≡ pos 0 → whole op (worth number a) (worth number b) ≡ true
    → AllTold number (symbol_told facts op a b)
unfolding symbol_told
told_symbol comparisons.Eq facts number a b none is =
    equal_told number a b (symbol_with_zero a b) none ((Decides-int_eq (worth number a) (worth number b)).0 is) (λ s so. with_zero_is number a b s none so)
told_symbol comparisons.NeUn facts number a b none is =
    apart_told number a b (symbol_with_zero a b) none (eq_apart (worth number a) (worth number b) is) (λ s so. with_zero_is number a b s none so)
told_symbol comparisons.LtUn facts number a b none is = above_told facts number a b none is
told_symbol comparisons.GtUn facts number a b none is = above_told facts number b a none is
told_symbol comparisons.Ge facts number a b none is = tt
told_symbol comparisons.Gt facts number a b none is = tt
told_symbol comparisons.Le facts number a b none is = tt
told_symbol comparisons.Lt facts number a b none is = tt
told_symbol comparisons.GeUn facts number a b none is = tt
told_symbol comparisons.LeUn facts number a b none is = tt

-- a truth is known from whether its number is 0
truth_known : (n : ℤ) (b so : Bool) → n ≡ truth b → ((so ≡ true → n ≢ pos 0) × (so ≡ false → n ≡ pos 0)) → b ≡ so
truth_known n true true is tells = refl
truth_known n false false is tells = refl
truth_known n true false is tells = let none = tells.1 refl in absurd (omega (arith, ints, is, none))
truth_known n false true is tells = absurd (tells.0 refl is)

by_flag : (number : ℕ → ℤ) (s : ℕ) (so : Bool) → IsTold number s so → (so ≡ true → number s ≢ pos 0) × (so ≡ false → number s ≡ pos 0)
by_flag number s true is = (λ e. is, λ e. absurd (false≢true (sym e)))
by_flag number s false is = (λ e. absurd (false≢true e), λ e. is)

flag_is : (b is so : Bool) → same_flag b is ≡ so → b ≡ same_flag is so
flag_is true true so e = e
flag_is true false so e = ap not e
flag_is false true so e = not_true_is so e
  where
    not_true_is : (so : Bool) → false ≡ so → false ≡ so
    not_true_is so e = e
flag_is false false so e = ap not e

definition_tells : (known : StateFacts) (number : ℕ → ℤ) (array : ℕ → Option ℕ) (s : ℕ) (so : Bool) (def : Def) → TestsOf (length known.references) def
    → number s ≡ told is_below number (λ r. is_no_array (array r)) def → IsTold number s so → AreTrueOf known number array (told_by so def)
definition_tells known number array s so (Eq a b) there is tells = truth_known (number s) _ so is (by_flag number s so tells)
definition_tells known number array s so (Lt a b) there is tells = truth_known (number s) _ so is (by_flag number s so tells)
definition_tells known number array s so (LtUn a b) there is tells = truth_known (number s) _ so is (by_flag number s so tells)
definition_tells known number array s so (NullTest r flag) there is tells =
    (there, flag_is (is_no_array (array r)) flag so (truth_known (number s) _ so is (by_flag number s so tells)))
definition_tells known number array s so (Sub a b) there is tells = tt

found_tells : (known : StateFacts) (number : ℕ → ℤ) (array : ℕ → Option ℕ) (definitions : List (ℕ × Def)) (s : ℕ) (so : Bool)
    → AllByRecursion (λ d. TestsOf (length known.references) d.1) definitions → AllByRecursion (IsDefined number (λ r. is_no_array (array r))) definitions
    → IsTold number s so → AreTrueOf known number array (option_and_then (told_by so) (definition_at definitions s))
found_tells known number array [] s so tests defined tells = tt
found_tells known number array (d ∷ definitions) s so tests defined tells =
    cond_both (d.0 == s) _ _ (λ (o : Option Def). AreTrueOf known number array (option_and_then (told_by so) o))
    (λ e. definition_tells known number array s so d.1 tests.0 (ap number (sym (eqb-true d.0 s e)) ∙ defined.0) tells)
    (λ e. found_tells known number array definitions s so tests.1 defined.1 tells)

pair_tells : (known : StateFacts) (number : ℕ → ℤ) (array : ℕ → Option ℕ) (o : Option (ℕ × Bool)) → HasForm known
    → Holds known.facts number (λ r. is_no_array (array r)) → AllTold number o → AreTrueOf known number array (option_and_then (told_of known.facts.definitions) o)
pair_tells known number array None form holds tells = tt
pair_tells known number array (Some t) form holds tells =
    found_tells known number array known.facts.definitions t.0 t.1 form.tests holds.definitions tells

following_true : (test : Test) (known : StateFacts) (number : ℕ → ℤ) (array : ℕ → Option ℕ) → HasForm known → Holds known.facts number (λ r. is_no_array (array r))
    → IsTrueOf known number array test → AreTrueOf known number array (following known test)
unfolding following
following_true (Compares op a b so) known number array form holds is =
    pair_tells known number array (symbol_told known.facts (if so then op else rule.contrary op) a b) form holds
    (told_symbol (if so then op else rule.contrary op) known.facts number a b (zero_number known.facts number holds.allowed)
    (effective op so (worth number a) (worth number b) is))
following_true (IsNull r flag) known number array form holds is = tt

-- ---- steps

-- as many references behind a test
null_count : (r : ℕ) (told : Nullness) (known : StateFacts) (o : Option Reference) → length (with_told known r told o).references ≡ length known.references
null_count r told known None = refl
null_count r told known (Some x) = length-set known.references (r - 1) (record x { nullness = told })

count_kept : (test : Test) (known after : StateFacts) → with_test test known ≡ Some after → length after.references ≡ length known.references
unfolding with_test with_null with_nullness
count_kept (Compares op a b so) known after is = each (rule.assumed op known.facts a b so) is
  where
    same : (x : StateFacts) → Some x ≡ Some after → x ≡ after
    same x e = cc

    each : (o : Option Facts) → option_map (with_facts known) o ≡ Some after → length after.references ≡ length known.references
    each None e = absurd cc
    each (Some f) e = ap (λ (k : StateFacts). length k.references) (sym (same (with_facts known f) e))
count_kept (IsNull r flag) known after is =
    cond_both (contradicts (nullness_at known r) flag) _ _ (λ (o : Option StateFacts). o ≡ Some after → length after.references ≡ length known.references)
    (λ f e. absurd cc)
    (λ f e. ap (λ (k : StateFacts). length k.references) (sym (same _ e)) ∙ null_count r (null_if flag) known (reference_at known.references r)) is
  where
    same : (x : StateFacts) → Some x ≡ Some after → x ≡ after
    same x e = cc

still_true : (before after : StateFacts) (number : ℕ → ℤ) (array : ℕ → Option ℕ) (o : Option Test) → length after.references ≡ length before.references
    → AreTrueOf before number array o → AreTrueOf after number array o
still_true before after number array None count is = tt
still_true before after number array (Some (Compares op a b so)) count is = is
still_true before after number array (Some (IsNull r flag)) count is = (omega (arith, count, is.0), is.1)

then_holds : (o : Option StateFacts) (f : StateFacts → Option StateFacts) (vs : List Value) (heap : Heap) (number : ℕ → ℤ) (array : ℕ → Option ℕ)
    → HoldsIn o vs heap number array → ((x : StateFacts) → o ≡ Some x → HoldsBy x vs heap number array → HoldsIn (f x) vs heap number array)
    → HoldsIn (option_and_then f o) vs heap number array
then_holds None f vs heap number array holds next = elim holds [ ]
then_holds (Some x) f vs heap number array holds next = next x refl holds

steps_hold : (steps : ℕ) (o : Option Test) (known : StateFacts) (vs : List Value) (heap : Heap) (number : ℕ → ℤ) (array : ℕ → Option ℕ) → HasForm known
    → AreNamedTests known o → AreTrueOf known number array o → HoldsBy known vs heap number array → HoldsIn (with_steps steps o known) vs heap number array
unfolding with_steps
steps_hold zero o known vs heap number array form named is holds = holds
steps_hold (suc steps) None known vs heap number array form named is holds = holds
steps_hold (suc steps) (Some test) known vs heap number array form named is holds =
    then_holds (with_test test known) (with_steps steps (following known test)) vs heap number array
    (test_holds test known vs heap number array holds named is)
    (λ x so more.
    let ready = ready_behind test known x form named so in
    steps_hold steps (following known test) x vs heap number array ready.form ready.named
    (still_true known x number array (following known test) (count_kept test known x so) (following_true test known number array form holds.facts is)) more)

-- ---- comparisons

some_bool : (b holds : Bool) → Some b ≡ Some holds → b ≡ holds
some_bool b holds is = cc

turned : (b holds : Bool) → Some (not b) ≡ Some holds → b ≡ not holds
turned true holds is = ap not (some_bool false holds is)
turned false holds is = ap not (some_bool true holds is)

no_bool : (holds : Bool) → None ≡ Some holds → ⊥
no_bool holds is = cc

references_compare : (op : CmpOp) (a b : Option ℕ) → compares_values op (reference_value a) (reference_value b) ≡ compares_references op a b
references_compare op None None = refl
references_compare op None (Some j) = refl
references_compare op (Some i) None = refl
references_compare op (Some i) (Some j) = refl

same_is_first : (op : CmpOp) (a b : Option ℕ) (holds : Bool) → compares_references op a b ≡ Some holds → same_reference a b ≡ same_flag (is_equality op) holds
same_is_first comparisons.Eq a b holds is = some_bool (same_reference a b) holds is
same_is_first comparisons.NeUn a b holds is = turned (same_reference a b) holds is
same_is_first comparisons.Ge a b holds is = absurd (no_bool holds is)
same_is_first comparisons.Gt a b holds is = absurd (no_bool holds is)
same_is_first comparisons.Le a b holds is = absurd (no_bool holds is)
same_is_first comparisons.Lt a b holds is = absurd (no_bool holds is)
same_is_first comparisons.GeUn a b holds is = absurd (no_bool holds is)
same_is_first comparisons.GtUn a b holds is = absurd (no_bool holds is)
same_is_first comparisons.LeUn a b holds is = absurd (no_bool holds is)
same_is_first comparisons.LtUn a b holds is = absurd (no_bool holds is)

same_holds : (is : Bool) (known : StateFacts) (vs : List Value) (heap : Heap) (number : ℕ → ℤ) (array : ℕ → Option ℕ) (o : Option ℕ) → HoldsBy known vs heap number array
    → ((n : ℕ) → o ≡ Some n → (n ≤ length known.references) × (is_no_array (array n) ≡ is)) → HoldsIn (with_null_tested o is known) vs heap number array
same_holds is known vs heap number array None holds tested = holds
same_holds is known vs heap number array (Some n) holds tested = let one = tested n refl in null_holds n is known vs heap number array holds one.0 one.1

references_assumed : (op : CmpOp) (r q : ℕ) (so : Bool) (known : StateFacts) (vs : List Value) (heap : Heap) (number : ℕ → ℤ) (array : ℕ → Option ℕ) (first second : Value)
    → r ≤ length known.references → q ≤ length known.references → HoldsBy known vs heap number array → reference_of first ≡ Some (array r)
    → reference_of second ≡ Some (array q) → compares_values op first second ≡ Some so
    → HoldsIn (with_same r q (same_flag (is_equality op) so) known) vs heap number array
references_assumed op r q so known vs heap number array first second one two holds has also is =
    let values_are = subst (λ (x : Value). compares_values op (reference_value (array r)) x ≡ Some so) (value_of_reference second (array q) also)
    (subst (λ (x : Value). compares_values op x second ≡ Some so) (value_of_reference first (array r) has) is) in
    let same = same_is_first op (array r) (array q) so (sym (references_compare op (array r) (array q)) ∙ values_are) in
    same_holds (same_flag (is_equality op) so) known vs heap number array (null_tested r q) holds
    (λ n tested. (tested_there r q (length known.references) n one two tested, sym (tested_tells known array r q n holds.null tested) ∙ same))

assumption_keeps : (op : CmpOp) (a b : Var) (so : Bool) (known : StateFacts) (vs : List Value) (heap : Heap) (number : ℕ → ℤ) (array : ℕ → Option ℕ) (first second : Value)
    → HasForm known → IsVar (length known.facts.ranges) (length known.references) a → IsVar (length known.facts.ranges) (length known.references) b
    → HoldsBy known vs heap number array → HasValue number array a first → HasValue number array b second → IsValue heap first → IsValue heap second
    → compares_values op first second ≡ Some so → HoldsIn (assumed op a b so known) vs heap number array
unfolding assumed
assumption_keeps op (vars.Number a) (vars.Number b) so known vs heap number array first second form one two holds has also is_value is_also is =
    let compared : compares op (worth number a) (worth number b) ≡ so =
    some_bool _ so (sym (numbers_compare op first second (worth number a) (worth number b) has also) ∙ is) in
    steps_hold 9 (Some (Compares op a b so)) known vs heap number array form (one.there, two.there)
    (whole_is op (worth number a) (worth number b) (number_fits heap first (worth number a) is_value has) (number_fits heap second (worth number b) is_also also) ∙ compared) holds
assumption_keeps op (vars.Reference r) (vars.Reference q) so known vs heap number array first second form one two holds has also is_value is_also is =
    references_assumed op r q so known vs heap number array first second one two holds has also is
assumption_keeps op (vars.Number a) (vars.Reference q) so known vs heap number array first second form one two holds has also is_value is_also is =
    elim (unlike_values op first second so true false false true (like_number first (worth number a) has) (like_reference second (array q) also) refl refl is) [ ]
assumption_keeps op (vars.Number a) vars.Text so known vs heap number array first second form one two holds has also is_value is_also is =
    elim (unlike_values op first second so true false false false (like_number first (worth number a) has) (like_text second also) refl refl is) [ ]
assumption_keeps op (vars.Reference r) (vars.Number b) so known vs heap number array first second form one two holds has also is_value is_also is =
    elim (unlike_values op first second so false true true false (like_reference first (array r) has) (like_number second (worth number b) also) refl refl is) [ ]
assumption_keeps op (vars.Reference r) vars.Text so known vs heap number array first second form one two holds has also is_value is_also is =
    elim (unlike_values op first second so false true false false (like_reference first (array r) has) (like_text second also) refl refl is) [ ]
assumption_keeps op (vars.Number a) (vars.Address q f) so known vs heap number array first second form one two holds has also is_value is_also is =
    elim (unlike_values op first second so true false false false (like_number first (worth number a) has) (like_address second (array q, worth number f) also) refl refl is) [ ]
assumption_keeps op (vars.Reference r) (vars.Address q f) so known vs heap number array first second form one two holds has also is_value is_also is =
    elim (unlike_values op first second so false true false false (like_reference first (array r) has) (like_address second (array q, worth number f) also) refl refl is) [ ]
assumption_keeps op vars.Text b so known vs heap number array first second form one two holds has also is_value is_also is =
    elim (unlike_values op first second so false false (number_like second) (reference_like second) (like_text first has) (like_itself second) refl refl is) [ ]
assumption_keeps op (vars.Address r e) b so known vs heap number array first second form one two holds has also is_value is_also is =
    elim (unlike_values op first second so false false (number_like second) (reference_like second) (like_address first (array r, worth number e) has) (like_itself second) refl refl is) [ ]

pub assume_keeps : (op : CmpOp) (a b : Var) (holds : Bool) (state : State) → ForSome state HasForm
    → ForSome state (λ known. IsVar (length known.facts.ranges) (length known.references) a)
    → ForSome state (λ known. IsVar (length known.facts.ranges) (length known.references) b) → KeepsAssumed op a b holds state (calls.assume op a b holds state)
assume_keeps op a b so None form one two = λ vs heap number array first second holds has also is_value is_also is. elim holds [ ]
assume_keeps op a b so (Some known) form one two = λ vs heap number array first second holds has also is_value is_also is.
    assumption_keeps op a b so known vs heap number array first second (form known refl) (one known refl) (two known refl) holds has also is_value is_also is
