-- What moves push: one variable more, and what was there is there still.
use Rattle.std.proofs.Common.{◌≡◌, ℕ, zero, suc, ◌+◌, ◌≤◌, ◌<◌, ℤ, pos, Bool, int_eq, List, [], ◌∷◌, ◌++◌, length, slice_get, Option, Some, None, refl, ap, subst, ◌∙◌, arith}
use Rattle.std.specs.Option.{option_map}
use Rattle.std.proofs.lemmas.Bool.{cond_both}
use Rattle.std.proofs.lemmas.Option.{same_Some}
use Rattle.alias_facts.specs.declared.nullness.Nullness.TheVariants.{May}
use Rattle.cil_model.specs.Arithmetic.{GREATEST, LEAST}
use Rattle.cil_model.specs.Comparisons.{comparison_of}
use Rattle.cil_model.specs.Kinds.{kind_of}
use Rattle.cil_model.specs.declared.instruction.BinOp.{BinOp}
use Rattle.cil_model.specs.declared.instruction.CmpOp.{CmpOp}
use Rattle.cil_model.specs.declared.place.Kind.{Kind}
use Rattle.cil_model.specs.declared.place.Kind.TheVariants as kinds
use Rattle.cil_model.specs.declared.place.Place.{Place}
use Rattle.cil_model.specs.declared.place.Place.TheVariants as places
use Rattle.domain_api.specs.declared.expr.Expr.{Expr}
use Rattle.frame_names.specs.declared.reference.Reference.{Reference}
use Rattle.frame_names.specs.declared.var.Var.TheVariants as vars
use Rattle.interval_domain.specs.Interval.{Interval}
use Rattle.number_facts.specs.Arith.{outcome, relations, settled, is_kept}
use Rattle.number_facts.specs.Comparisons.{compared, compared_or, known as truth_known, pushed as truth_pushed}
use Rattle.number_facts.specs.Facts.{Facts}
use Rattle.number_facts.specs.Fresh.{Made, bounded, defined, fresh, is_long, noted, related_so}
use Rattle.number_facts.specs.declared.outcome.Outcome.{Outcome}
use Rattle.number_facts.specs.declared.outcome.Outcome.TheVariants as outcomes
use Rattle.number_facts.specs.declared.relation.Relation.{Relation}
use Rattle.number_facts.specs.declared.relation.Relation.TheVariants.{AtLeast, AtMost, Is}
use Rattle.number_spans.specs.Constants.{of_constants}
use Rattle.number_spans.specs.declared.span.Span.{Span}
use Rattle.symbolic_values.specs.declared.def.Def.{Def}
use Rattle.state_facts.specs.Arithmetic.{with_result}
use Rattle.state_facts.specs.Calls.{returned, with_returned}
use Rattle.state_facts.specs.Comparing.{is_equality, null_known, null_tested, same_known, with_comparison, with_defined, with_known, with_null_known, with_null_test, with_same, with_same_known, with_tested, with_truth}
use Rattle.state_facts.specs.Forms.{HasForm, HasNumber, HasReference}
use Rattle.state_facts.specs.Moves.{on_top, with_item, with_number, with_one_of}
use Rattle.state_facts.specs.StateFacts.{StateFacts, nullness_at, reference_at}
use Rattle.state_facts.specs.UnknownValues.{with_unknown, with_within}
use Rattle.state_facts.proofs.ComparisonForms.{comparison_form}
use Rattle.state_facts.proofs.Growing.{Formed, one_longer}
use Rattle.state_facts.proofs.MoveForms.{item_form, number_form}
use Rattle.state_facts.proofs.ResultForms.{with_result_form}
use Rattle.state_facts.proofs.UnknownValues.{unknown_form, within_form}
use Rattle.clause_trees.specs.VariableKinds.{IsOfKind, IsPushed, IsPushedIn, place_in}

-- ---- symbols are never fewer

bounded_ranges : (facts : Facts) (s t : ℕ) (k : ℤ) → (bounded facts s t k).ranges ≡ facts.ranges
unfolding bounded
bounded_ranges facts s t k = cond_both (is_long k) _ _ (λ (f : Facts). f.ranges ≡ facts.ranges) (λ e. refl) (λ e. refl)

related_ranges : (facts : Facts) (t : ℕ) (rs : List Relation) → (related_so facts t rs).ranges ≡ facts.ranges
unfolding defined
related_ranges facts t [] = refl
related_ranges facts t (AtLeast s k ∷ rs) = related_ranges (bounded facts s t k) t rs ∙ bounded_ranges facts s t k
related_ranges facts t (AtMost s k ∷ rs) = related_ranges (bounded facts t s _) t rs ∙ bounded_ranges facts t s _
related_ranges facts t (Is def ∷ rs) = related_ranges (defined facts t def) t rs

abbrev IsLonger : Facts → Made → Type 0
IsLonger facts made = length facts.ranges ≤ length made.facts.ranges

abbrev EachLonger : Facts → Option Made → Type 0
EachLonger facts None = Unit {0}
EachLonger facts (Some made) = IsLonger facts made

noted_longer : (facts : Facts) (r : Interval) (rs : List Relation) → IsLonger facts (noted facts r rs)
unfolding noted
noted_longer facts r rs =
    let ranges = related_ranges (record facts { ranges = facts.ranges ++ r ∷ [] }) (length facts.ranges + 1) rs in
    let more : length (related_so (record facts { ranges = facts.ranges ++ r ∷ [] }) (length facts.ranges + 1)
    rs).ranges ≡ length facts.ranges + 1 =
    ap (λ (l : List Interval). length l) ranges ∙ one_longer facts.ranges r in
    cond_both (int_eq r.lo r.hi) _ _ (IsLonger facts) (λ e. omega arith) (λ e. omega (arith, more))

each_longer : (facts : Facts) (o : Option Interval) (rs : List Relation)
    → EachLonger facts (option_map (λ r. noted facts r rs) o)
each_longer facts None rs = tt
each_longer facts (Some r) rs = noted_longer facts r rs

fresh_longer : (facts : Facts) (lo hi : ℤ) (hole : Option ℤ) (rs : List Relation)
    → EachLonger facts (fresh facts lo hi hole rs)
unfolding fresh
fresh_longer facts lo hi hole rs = each_longer facts _ rs

settled_longer : (facts : Facts) (o : Outcome) (rs : List Relation) → EachLonger facts (settled facts o rs)
unfolding settled
settled_longer facts (outcomes.Is e) rs = cond_both (is_kept e) _ _ (EachLonger facts) (λ so. omega arith) (λ so. tt)
settled_longer facts (outcomes.Within r) rs = fresh_longer facts r.lo r.hi None rs

compared_longer : (op : BinOp) (facts : Facts) (a b : Expr) → IsLonger facts (compared op facts a b)
unfolding compared
compared_longer op facts a b = by (of_constants op a b) (truth_known op facts a b)
  where
    by : (n : Option ℤ) (so : Option Bool) → IsLonger facts (compared_or n facts (truth_pushed op facts a b so))
    by (Some n) so = omega arith
    by None (Some so) = omega arith
    by None None = noted_longer facts _ _

-- ---- numbers

made_pushed : (known : StateFacts) (made : Made) → HasForm (on_top known made) → IsLonger known.facts made
    → IsPushed known kinds.Int (on_top known made)
made_pushed known made form longer = record {
  grown = record { form = form; symbols = longer; references = omega arith; places = λ r there. refl };
  top = vars.Number made.expr;
  variables_are = refl;
  of_kind = tt;
}

each_pushed : (known : StateFacts) (o : Option Made) → Formed (option_map (on_top known) o) → EachLonger known.facts o
    → IsPushedIn known kinds.Int (option_map (on_top known) o)
each_pushed known None form longer = tt
each_pushed known (Some made) form longer = made_pushed known made form longer

pub result_pushed : (op : BinOp) (a b : Expr) (known : StateFacts) → HasForm known → HasNumber known a
    → HasNumber known b
    → IsPushedIn known kinds.Int (with_result op a b known)
unfolding with_result
result_pushed op a b known form first second = by (with_result_form op a b known form first second)
  where
    by : Formed (with_result op a b known) → IsPushedIn known kinds.Int (with_result op a b known)
    by formed = each_pushed known _ formed
        (settled_longer known.facts (outcome op known.facts a b) (relations op known.facts a b))

number_pushed : (lo hi : ℤ) (known : StateFacts) → HasForm known → IsPushedIn known kinds.Int (with_number lo hi known)
unfolding with_number
number_pushed lo hi known form = by (number_form lo hi known form)
  where
    by : Formed (with_number lo hi known) → IsPushedIn known kinds.Int (with_number lo hi known)
    by formed = each_pushed known _ formed (fresh_longer known.facts lo hi None [])

pub item_pushed : (r : ℕ) (i : Expr) (known : StateFacts) → HasForm known
    → IsPushedIn known kinds.Int (with_item r i known)
unfolding with_item with_one_of
item_pushed r i known form = by (item_form r i known form)
  where
    by : Formed (with_item r i known) → IsPushedIn known kinds.Int (with_item r i known)
    by formed = each_pushed known _ formed (fresh_longer known.facts _ _ _ [])

pub within_pushed : (r : Span) (known : StateFacts) → HasForm known → IsPushedIn known kinds.Int (with_within r known)
unfolding with_within
within_pushed r known form = by (within_form r known form)
  where
    by : Formed (with_within r known) → IsPushedIn known kinds.Int (with_within r known)
    by formed = each_pushed known _ formed (fresh_longer known.facts r.lo r.hi r.hole [])

-- ---- comparisons

known_pushed : (holds is : Bool) (known : StateFacts) → HasForm (with_known holds is known)
    → IsPushed known kinds.Int (with_known holds is known)
known_pushed holds is known form = record {
  grown = record { form = form; symbols = omega arith; references = omega arith; places = λ r there. refl };
  top = vars.Number _;
  variables_are = refl;
  of_kind = tt;
}

defined_pushed : (def : Def) (known : StateFacts) → HasForm (with_defined def known)
    → IsPushed known kinds.Int (with_defined def known)
unfolding with_defined
defined_pushed def known form = made_pushed known _ form (noted_longer known.facts _ (Is def ∷ []))

null_known_pushed : (r : ℕ) (is : Bool) (known : StateFacts) (o : Option Bool) → HasForm (with_null_known r is known o)
    → IsPushed known kinds.Int (with_null_known r is known o)
null_known_pushed r is known None form = defined_pushed _ known form
null_known_pushed r is known (Some holds) form = known_pushed holds is known form

same_known_pushed : (is : Bool) (known : StateFacts) (o : Option Bool) → HasForm known
    → Formed (with_same_known is known o)
    → IsPushedIn known kinds.Int (with_same_known is known o)
same_known_pushed is known None form formed = number_pushed _ _ known form
same_known_pushed is known (Some holds) form formed = known_pushed holds is known formed

tested_pushed : (r q : ℕ) (is : Bool) (known : StateFacts) (o : Option ℕ) → HasForm known
    → Formed (with_tested r q is known o)
    → IsPushedIn known kinds.Int (with_tested r q is known o)
unfolding with_null_test with_same
tested_pushed r q is known None form formed = same_known_pushed is known (same_known known r q) form formed
tested_pushed r q is known (Some tested) form formed =
    null_known_pushed tested is known (null_known (nullness_at known tested)) formed

pub numbers_compared_pushed : (op : BinOp) (a b : Expr) (cmp : CmpOp) (known : StateFacts) → HasForm known
    → HasNumber known a
    → HasNumber known b → comparison_of op ≡ Some cmp
    → IsPushedIn known kinds.Int (with_comparison op (vars.Number a) (vars.Number b) known)
unfolding with_comparison with_truth
numbers_compared_pushed op a b cmp known form first second is =
    by (comparison_form op (vars.Number a) (vars.Number b) cmp known form first second is)
  where
    by : Formed (with_comparison op (vars.Number a) (vars.Number b) known)
        → IsPushedIn known kinds.Int (with_comparison op (vars.Number a) (vars.Number b) known)
    by formed = made_pushed known (compared op known.facts a b) formed (compared_longer op known.facts a b)

pub references_compared_pushed : (op : BinOp) (r q : ℕ) (cmp : CmpOp) (known : StateFacts) → HasForm known
    → HasReference known r
    → HasReference known q → comparison_of op ≡ Some cmp
    → IsPushedIn known kinds.Int (with_comparison op (vars.Reference r) (vars.Reference q) known)
unfolding with_comparison
references_compared_pushed op r q cmp known form first second is =
    by (comparison_form op (vars.Reference r) (vars.Reference q) cmp known form first second is)
  where
    by : Formed (with_comparison op (vars.Reference r) (vars.Reference q) known)
        → IsPushedIn known kinds.Int (with_comparison op (vars.Reference r) (vars.Reference q) known)
    by formed = tested_pushed r q (is_equality op) known (null_tested r q) form formed

-- ---- a reference more

slice_left : {X : Type 0} (xs : List X) (x : X) (i : ℕ) → i < length xs → slice_get (xs ++ x ∷ []) i ≡ slice_get xs i
slice_left [] x i there = absurd (omega (arith, there))
slice_left (y ∷ xs) x zero there = refl
slice_left (y ∷ xs) x (suc i) there = slice_left xs x i (omega (arith, there))

slice_last : {X : Type 0} (xs : List X) (x : X) → slice_get (xs ++ x ∷ []) (length xs) ≡ Some x
slice_last [] x = refl
slice_last (y ∷ xs) x = slice_last xs x

earlier_places : (known after : StateFacts) (x : Reference) → after.references ≡ known.references ++ x ∷ []
    → (r : ℕ)
    → r ≤ length known.references → place_in after r ≡ place_in known r
unfolding reference_at
earlier_places known after x are zero there = refl
earlier_places known after x are (suc r) there =
    ap (λ l. option_map (λ reference. reference.place) (slice_get l r)) are
    ∙ ap (option_map (λ reference. reference.place)) (slice_left known.references x r (omega (arith, there)))

last_place : (known after : StateFacts) (x : Reference) → after.references ≡ known.references ++ x ∷ []
    → place_in after (length known.references + 1) ≡ Some x.place
unfolding reference_at
last_place known after x are =
    let next : length known.references + 1 ≡ suc (length known.references) = omega arith in
    rw next (ap (λ l. option_map (λ reference. reference.place) (slice_get l (length known.references))) are
    ∙ ap (option_map (λ reference. reference.place)) (slice_last known.references x))

array_pushed : (place : Place) (known : StateFacts) (o : Option Made)
    → Formed (option_map (returned known.apart place known) o)
    → EachLonger known.facts o → (kind : Kind)
    → ((after : StateFacts) (r : ℕ) → place_in after r ≡ Some place → IsOfKind after kind (vars.Reference r))
    → IsPushedIn known kind (option_map (returned known.apart place known) o)
array_pushed place known None formed longer kind of_kind = tt
array_pushed place known (Some made) formed longer kind of_kind =
    let after = returned known.apart place known made in
    let x : Reference = record { place = place; nullness = May; length = made.expr } in
    let size = one_longer known.references x in
    record {
      grown = record {
        form = formed;
        symbols = longer;
        references = omega (arith, size);
        places = earlier_places known after x refl;
      };
      top = vars.Reference (length known.references + 1);
      variables_are = refl;
      of_kind = of_kind after (length known.references + 1) (last_place known after x refl);
    }

-- A value of a type that is pushed is of its kind.
pub unknown_pushed : (place : Place) (kind : Kind) (known : StateFacts) → HasForm known → kind_of place ≡ Some kind
    → IsPushedIn known kind (with_unknown place known)
unfolding with_unknown with_returned
unknown_pushed places.Void kind known form is = absurd cc
unknown_pushed places.Bool kind known form is =
    subst (λ k. IsPushedIn known k (with_number (pos 0) (pos 255) known)) (same_Some kinds.Int kind is)
    (number_pushed _ _ known form)
unknown_pushed places.Int kind known form is =
    subst (λ k. IsPushedIn known k (with_number LEAST GREATEST known)) (same_Some kinds.Int kind is)
    (number_pushed _ _ known form)
unknown_pushed places.Bools kind known form is =
    subst (λ k. IsPushedIn known k (with_unknown places.Bools known)) (same_Some kinds.Bools kind is)
    (array_pushed places.Bools known _ (unknown_form places.Bools known form)
    (fresh_longer known.facts (pos 0) (pos 2147483647) None [])
    kinds.Bools (λ after r at. rw at refl))
unknown_pushed places.Ints kind known form is =
    subst (λ k. IsPushedIn known k (with_unknown places.Ints known)) (same_Some kinds.Ints kind is)
    (array_pushed places.Ints known _ (unknown_form places.Ints known form)
    (fresh_longer known.facts (pos 0) (pos 2147483647) None [])
    kinds.Ints (λ after r at. rw at refl))
