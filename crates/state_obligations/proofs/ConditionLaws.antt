-- A condition that is entailed is met, and where one is met that is assumed, the state holds by the same choice.
use Rattle.std.proofs.Common.{◌≡◌, ◌≢◌, ℕ, zero, suc, ◌≤◌, ◌==◌, ℤ, pos, negsuc, ◌≤ℤ◌, ◌<ℤ◌, true, not, int_eq, int_le, int_lt, List, [], ◌∷◌, Option, Some, None, FitsSigned, w32, ⊎_elim, refl, sym, ap, subst, ◌∙◌, arith}
use Rattle.std.specs.Option.{ForSome, option_and_then}
use Rattle.std.proofs.lemmas.Bool.{and_parts, cond_both, false_from_ne_true, false≢true, or_cases, true_from_ne_false}
use Rattle.std.proofs.lemmas.Bool.Decides.{Decides-int_eq}
use Rattle.std.proofs.lemmas.Int.{ints}
use Rattle.alias_facts.specs.Arrays.{is_no_array}
use Rattle.alias_facts.specs.NullnessOf.{Agrees}
use Rattle.alias_facts.specs.declared.nullness.Nullness.{Nullness}
use Rattle.alias_facts.specs.declared.nullness.Nullness.TheVariants.{May, NotNull, Null}
use Rattle.cil_model.specs.Arithmetic.{GREATEST, LEAST, compares}
use Rattle.cil_model.specs.Values.{Heap, IsHeap}
use Rattle.cil_model.specs.declared.instruction.BinOp.{BinOp}
use Rattle.cil_model.specs.declared.instruction.CmpOp.{CmpOp}
use Rattle.cil_model.specs.declared.instruction.CmpOp.TheVariants as comparisons
use Rattle.cil_model.specs.declared.machine.Value.{Value}
use Rattle.cil_model.specs.declared.machine.Value.TheVariants as values
use Rattle.domain_api.specs.declared.expr.Expr.{Expr}
use Rattle.frame_names.specs.declared.reference.Reference.{Reference}
use Rattle.frame_names.specs.declared.var.Var.TheVariants as vars
use Rattle.interval_domain.specs.Arithmetic.{near}
use Rattle.number_facts.proofs.Knowing.{at_most_holds, constant_worth, range_has}
use Rattle.number_facts.proofs.ResultLaws.{exact_within}
use Rattle.number_facts.specs.Arith.{exact}
use Rattle.number_facts.specs.Ends.{range_of}
use Rattle.number_facts.specs.Gaps.{at_most}
use Rattle.number_facts.specs.Results.{IsExact}
use Rattle.number_spans.specs.Constants.{constant}
use Rattle.number_spans.specs.Spans.{Has, excludes, is_hole}
use Rattle.number_spans.specs.declared.span.Span.{Span}
use Rattle.symbolic_values.specs.Worth.{worth}
use Rattle.state_facts.proofs.ArraysHold.{below_heap, nullness_agrees, present_at}
use Rattle.state_facts.proofs.AssumptionForms.{length_number}
use Rattle.state_facts.proofs.AssumptionsHold.{assume_keeps}
use Rattle.state_facts.specs.Comparing.{is_not_null}
use Rattle.state_facts.specs.Forms.{HasForm, HasNumber, HasReference, HasVar}
use Rattle.state_facts.specs.Holds.{HoldsBy, HoldsIn, length_in, length_of_array}
use Rattle.state_facts.specs.StateFacts.{StateFacts, State, length_at, length_of, nullness_at, reference_at}
use Rattle.state_obligations.proofs.Following.{number_still, not_negative_follows}
use Rattle.state_obligations.proofs.Nearest.{near_int32}
use Rattle.state_obligations.specs.Assumed.{amount, assumed_by, compared, differing, is_just, no_division_overflow, not_negative}
use Rattle.state_obligations.specs.Conditions.{IsThere}
use Rattle.state_obligations.specs.Entailed.{are_int32, entailed_by}
use Rattle.state_obligations.specs.Following.{StaysThere, StaysThereIn}
use Rattle.state_obligations.specs.Meaning.{IsMet, IsNoDivisionOverflow, IsOfInt32}
use Rattle.state_obligations.specs.declared.condition.Condition.{Condition}
use Rattle.state_obligations.specs.declared.condition.Condition.TheVariants as conditions

-- ---- what constants, lengths and references are

constant_is : (known : StateFacts) (vs : List Value) (heap : Heap) (number : ℕ → ℤ) (array : ℕ → Option ℕ) (n : ℤ)
    → HoldsBy known vs heap number array
    → worth number (constant n) ≡ n
constant_is known vs heap number array n holds = constant_worth known.facts number (constant n) holds.facts.allowed refl

just_is : (known : StateFacts) (vs : List Value) (heap : Heap) (number : ℕ → ℤ) (array : ℕ → Option ℕ) (e : Expr)
    (n : ℤ) → HoldsBy known vs heap number array
    → is_just e n ≡ true → worth number e ≡ n
just_is known vs heap number array e n holds is =
    let parts = and_parts (e.sym == 0) (int_eq e.k n) is in
    constant_worth known.facts number e holds.facts.allowed parts.0 ∙ (Decides-int_eq e.k n).0 parts.1

-- the length that is known of a reference is that of its array
length_is : (known : StateFacts) (vs : List Value) (heap : Heap) (number : ℕ → ℤ) (array : ℕ → Option ℕ) (r : ℕ)
    → HoldsBy known vs heap number array
    → HasReference known r → worth number (length_at known r) ≡ length_of_array heap (array r)
unfolding reference_at
length_is known vs heap number array zero holds there =
    constant_is known vs heap number array (pos 0) holds ∙ sym (ap (length_of_array heap) holds.null)
length_is known vs heap number array (suc r) holds there =
    let found = present_at known.references (suc r) (omega arith) there in
    ap (λ (o : Option Reference). worth number (length_of o)) found.1
    ∙ (holds.references (suc r) found.0 found.1).length_is

cell_short : (heap : Heap) (i : ℕ) → IsHeap heap → length_in heap i ≤ 2147483647
cell_short [] i is = omega arith
cell_short (cell ∷ heap) zero is = let long = is.0.1 in omega (arith, long)
cell_short (cell ∷ heap) (suc i) is = cell_short heap i is.1

length_fits : (heap : Heap) (a : Option ℕ) → IsHeap heap → FitsSigned w32 (length_of_array heap a)
length_fits heap None is = omega (arith, ints)
length_fits heap (Some i) is = let short = cell_short heap i is in omega (arith, ints, short)

-- ---- entailed

le_true : (m n : ℤ) → m ≤ℤ n → int_le m n ≡ true
le_true m n is = true_from_ne_false (int_le m n) (λ e. omega (arith, ints, is, e))

lt_true : (m n : ℤ) → m <ℤ n → int_lt m n ≡ true
lt_true m n is = true_from_ne_false (int_lt m n) (λ e. omega (arith, ints, is, e))

ne_true : (m n : ℤ) → m ≢ n → not (int_eq m n) ≡ true
ne_true m n other = ap not (false_from_ne_true (int_eq m n) (λ e. other ((Decides-int_eq m n).0 e)))

hole_is : (hole : Option ℤ) (n : ℤ) → is_hole hole n ≡ true → hole ≡ Some n
hole_is None n is = absurd (false≢true is)
hole_is (Some h) n is = ap Some ((Decides-int_eq h n).0 is)

-- a number of the range is none that it excludes
excluded_other : (r : Span) (n m : ℤ) → excludes r n ≡ true → Has r m → m ≢ n
unfolding excludes
excluded_other r n m out has =
    let above = has.above in
    let below = has.below in
    ⊎_elim
    (λ low. λ is. grind (arith, ints, low, above, is))
    (λ rest. ⊎_elim
    (λ high. λ is. grind (arith, ints, high, below, is))
    (λ hole. λ is. has.no_hole (hole_is r.hole n hole ∙ ap Some (sym is)))
    (or_cases (int_lt r.hi n) _ rest))
    (or_cases (int_lt n r.lo) _ out)

differs : (known : StateFacts) (vs : List Value) (heap : Heap) (number : ℕ → ℤ) (array : ℕ → Option ℕ) (e : Expr)
    (n : ℤ) → HoldsBy known vs heap number array
    → HasNumber known e → excludes (range_of known.facts e) n ≡ true → worth number e ≢ n
differs known vs heap number array e n holds there out =
    excluded_other (range_of known.facts e) n (worth number e) out
    (range_has known.facts number e holds.facts.allowed there.there)

not_below : (known : StateFacts) (vs : List Value) (heap : Heap) (number : ℕ → ℤ) (array : ℕ → Option ℕ) (e : Expr)
    → HoldsBy known vs heap number array
    → at_most known.facts (constant (pos 0)) (pos 0) e ≡ true → pos 0 ≤ℤ worth number e
not_below known vs heap number array e holds so =
    let most = at_most_holds known.facts number (constant (pos 0)) (pos 0) e holds.facts.allowed so in
    let zero_is = constant_is known vs heap number array (pos 0) holds in
    omega (arith, ints, most, zero_is)

not_above : (known : StateFacts) (vs : List Value) (heap : Heap) (number : ℕ → ℤ) (array : ℕ → Option ℕ) (e : Expr)
    → HoldsBy known vs heap number array
    → at_most known.facts e (pos 0) (constant (pos 31)) ≡ true → worth number e ≤ℤ pos 31
not_above known vs heap number array e holds so =
    let most = at_most_holds known.facts number e (pos 0) (constant (pos 31)) holds.facts.allowed so in
    let end_is = constant_is known vs heap number array (pos 31) holds in
    omega (arith, ints, most, end_is)

is_some_array : (told : Nullness) (a : Option ℕ) → Agrees told (is_no_array a) → is_not_null told ≡ true → a ≢ None
is_some_array May a agrees told = absurd (false≢true told)
is_some_array NotNull a agrees told = λ is. false≢true (sym agrees ∙ ap is_no_array is)
is_some_array Null a agrees told = absurd (false≢true told)

result_fits : (op : BinOp) (a b : Expr) (known : StateFacts) (vs : List Value) (heap : Heap) (number : ℕ → ℤ)
    (array : ℕ → Option ℕ) (n : ℤ) → HasForm known
    → HasNumber known a → HasNumber known b → HoldsBy known vs heap number array → FitsSigned w32 (worth number a)
    → FitsSigned w32 (worth number b)
    → are_int32 (exact op known.facts a b) ≡ true → IsExact op (worth number a) (worth number b) n
    → (LEAST ≤ℤ n) × (n ≤ℤ GREATEST)
result_fits op a b known vs heap number array n form first second holds one two so is =
    let r = exact op known.facts a b in
    let ends = and_parts (int_le LEAST (near r.lo)) _ (near_int32 r (near r.lo) (near r.hi) refl refl ∙ so) in
    let within =
    exact_within op known.facts a b (near r.lo) (near r.hi) first.there second.there refl refl number
    (λ q. is_no_array (array q)) n form.named holds.facts
    (record { first = one; second = two }) is in
    (from_least (near r.lo) ends.0 within.0, to_greatest (near r.hi) ends.1 within.1)
  where
    from_least : (lo : ℤ) → int_le LEAST lo ≡ true → lo ≤ℤ n → LEAST ≤ℤ n
    from_least lo e above = omega (arith, ints, e, above)

    to_greatest : (hi : ℤ) → int_le hi GREATEST ≡ true → n ≤ℤ hi → n ≤ℤ GREATEST
    to_greatest hi e below = omega (arith, ints, e, below)

-- A condition that the state entails is met.
pub entailed_is_met : (c : Condition) (known : StateFacts) → HasForm known → IsThere known c
    → entailed_by c known ≡ true
    → (vs : List Value) (heap : Heap) (number : ℕ → ℤ) (array : ℕ → Option ℕ) → HoldsBy known vs heap number array
    → IsOfInt32 c number
    → IsMet c heap number array
unfolding entailed_by
entailed_is_met (conditions.NullUse r) known form there so vs heap number array holds fits =
    is_some_array (nullness_at known r) (array r) (nullness_agrees known vs heap number array r holds there) so
entailed_is_met (conditions.Lower i) known form there so vs heap number array holds fits =
    not_below known vs heap number array i holds so
entailed_is_met (conditions.Upper r i) known form there so vs heap number array holds fits =
    let most = at_most_holds known.facts number i (pos 1) (length_at known r) holds.facts.allowed so in
    let long = length_is known vs heap number array r holds there.0 in
    omega (arith, ints, most, long)
entailed_is_met (conditions.ArraySize n) known form there so vs heap number array holds fits =
    not_below known vs heap number array n holds so
entailed_is_met (conditions.Shift n) known form there so vs heap number array holds fits =
    let parts = and_parts (at_most known.facts (constant (pos 0)) (pos 0) n) _ so in
    (not_below known vs heap number array n holds parts.0, not_above known vs heap number array n holds parts.1)
entailed_is_met (conditions.DivZero b) known form there so vs heap number array holds fits =
    differs known vs heap number array b (pos 0) holds there so
entailed_is_met (conditions.DivOverflow a b) known form there so vs heap number array holds fits =
    ⊎_elim
    (λ out is. absurd (differs known vs heap number array a LEAST holds there.0 out is))
    (λ out is. differs known vs heap number array b (negsuc 0) holds there.1 out)
    (or_cases (excludes (range_of known.facts a) LEAST) _ so)
entailed_is_met (conditions.Overflow op a b) known form there so vs heap number array holds fits =
    λ n is. result_fits op a b known vs heap number array n form there.0 there.1 holds fits.0 fits.1 so is
entailed_is_met (conditions.Assert e) known form there so vs heap number array holds fits =
    differs known vs heap number array e (pos 0) holds there so

-- ---- assumed

for_some : {X : Type 0} (P : X → Type 0) (x : X) → P x → ForSome (Some x) P
for_some P x is = λ y same. subst P (one x y same) is
  where
    one : {X : Type 0} (a b : X) → Some a ≡ Some b → a ≡ b
    one a b e = cc

numbers_kept : (op : CmpOp) (a b : Expr) (known : StateFacts) (vs : List Value) (heap : Heap) (number : ℕ → ℤ)
    (array : ℕ → Option ℕ) → HasForm known
    → HasNumber known a → HasNumber known b → HoldsBy known vs heap number array → FitsSigned w32 (worth number a)
    → FitsSigned w32 (worth number b)
    → compares op (worth number a) (worth number b) ≡ true → HoldsIn (compared op a b known) vs heap number array
numbers_kept op a b known vs heap number array form first second holds one two is =
    assume_keeps op (vars.Number a) (vars.Number b) true (Some known) (for_some HasForm known form)
    (for_some (λ k. HasVar k (vars.Number a)) known first)
    (for_some (λ k. HasVar k (vars.Number b)) known second) vs heap number array (values.Int (worth number a))
    (values.Int (worth number b)) holds refl refl one two
    (ap Some is)

constant_there : (known : StateFacts) (n : ℤ) → negsuc 4294967295 ≤ℤ n → n ≤ℤ pos 4294967296
    → HasNumber known (constant n)
constant_there known n least greatest =
    record { there = omega arith; near = record { least = least; greatest = greatest } }

-- A number that is not n stays another one.
differing_kept : (e : Expr) (n : ℤ) (known : StateFacts) (vs : List Value) (heap : Heap) (number : ℕ → ℤ)
    (array : ℕ → Option ℕ) → HasForm known
    → HasNumber known e → FitsSigned w32 n → HoldsBy known vs heap number array → FitsSigned w32 (worth number e)
    → worth number e ≢ n
    → HoldsIn (differing e n known) vs heap number array
differing_kept e n known vs heap number array form there small holds fits other =
    let same = constant_is known vs heap number array n holds in
    numbers_kept comparisons.NeUn e (constant n) known vs heap number array form there
    (constant_there known n (omega (arith, ints, small)) (omega (arith, ints, small)))
    holds fits (subst (FitsSigned w32) (sym same) small)
    (ne_true (worth number e) (worth number (constant n)) (λ is. other (is ∙ same)))

not_negative_kept : (e : Expr) (known : StateFacts) (vs : List Value) (heap : Heap) (number : ℕ → ℤ)
    (array : ℕ → Option ℕ) → HasForm known
    → HasNumber known e → HoldsBy known vs heap number array → FitsSigned w32 (worth number e) → pos 0 ≤ℤ worth number e
    → HoldsIn (not_negative e known) vs heap number array
not_negative_kept e known vs heap number array form there holds fits above =
    let same = constant_is known vs heap number array (pos 0) holds in
    numbers_kept comparisons.Le (constant (pos 0)) e known vs heap number array form
    (constant_there known (pos 0) (omega (arith, ints)) (omega (arith, ints))) there holds
    (subst (FitsSigned w32) (sym same) (omega (arith, ints))) fits
    (le_true (worth number (constant (pos 0))) (worth number e)
    (subst (λ (m : ℤ). m ≤ℤ worth number e) (sym same) above))

not_above_kept : (e : Expr) (known : StateFacts) (vs : List Value) (heap : Heap) (number : ℕ → ℤ)
    (array : ℕ → Option ℕ) → HasForm known
    → HasNumber known e → HoldsBy known vs heap number array → FitsSigned w32 (worth number e)
    → worth number e ≤ℤ pos 31
    → HoldsIn (compared comparisons.Le e (constant (pos 31)) known) vs heap number array
not_above_kept e known vs heap number array form there holds fits below =
    let same = constant_is known vs heap number array (pos 31) holds in
    numbers_kept comparisons.Le e (constant (pos 31)) known vs heap number array form there
    (constant_there known (pos 31) (omega (arith, ints)) (omega (arith, ints))) holds
    fits (subst (FitsSigned w32) (sym same) (omega (arith, ints)))
    (le_true (worth number e) (worth number (constant (pos 31)))
    (subst (λ (m : ℤ). worth number e ≤ℤ m) (sym same) below))

then_holds : (known : StateFacts) (vs : List Value) (heap : Heap) (number : ℕ → ℤ) (array : ℕ → Option ℕ) (o : State)
    (f : StateFacts → State) → StaysThereIn known o
    → HoldsIn o vs heap number array
    → ((x : StateFacts) → StaysThere known x → HoldsBy x vs heap number array → HoldsIn (f x) vs heap number array)
    → HoldsIn (option_and_then f o) vs heap number array
then_holds known vs heap number array None f stays holds rest = elim holds [ ]
then_holds known vs heap number array (Some x) f stays holds rest = rest x stays holds

amount_kept : (n : Expr) (known : StateFacts) (vs : List Value) (heap : Heap) (number : ℕ → ℤ) (array : ℕ → Option ℕ)
    → HasForm known
    → HasNumber known n → HoldsBy known vs heap number array → FitsSigned w32 (worth number n)
    → pos 0 ≤ℤ worth number n → worth number n ≤ℤ pos 31
    → HoldsIn (amount n known) vs heap number array
amount_kept n known vs heap number array form there holds fits above below =
    then_holds known vs heap number array (not_negative n known) (compared comparisons.Le n (constant (pos 31)))
    (not_negative_follows n known form there)
    (not_negative_kept n known vs heap number array form there holds fits above)
    (λ x stays still. not_above_kept n x vs heap number array stays.form
    (number_still known x n stays there) still fits below)

division_kept : (a b : Expr) (known : StateFacts) (vs : List Value) (heap : Heap) (number : ℕ → ℤ)
    (array : ℕ → Option ℕ) → HasForm known
    → HasNumber known a → HasNumber known b → HoldsBy known vs heap number array → FitsSigned w32 (worth number a)
    → FitsSigned w32 (worth number b)
    → IsNoDivisionOverflow (worth number a) (worth number b)
    → HoldsIn (no_division_overflow a b known) vs heap number array
unfolding no_division_overflow
division_kept a b known vs heap number array form first second holds one two met =
    cond_both (is_just a LEAST) _ _ (λ (o : State). HoldsIn o vs heap number array)
    (λ e. differing_kept b (negsuc 0) known vs heap number array form second (omega (arith, ints)) holds two
    (met (just_is known vs heap number array a LEAST holds e)))
    (λ e. cond_both (is_just b (negsuc 0)) _ _ (λ (o : State). HoldsIn o vs heap number array)
    (λ f. differing_kept a LEAST known vs heap number array form first (omega (arith, ints)) holds one
    (λ is. met is (just_is known vs heap number array b (negsuc 0) holds f)))
    (λ f. holds))

-- The value of a reference: null, or its array.
abbrev reference_value : Option ℕ → Value
reference_value None = values.Null
reference_value (Some i) = values.Array i

array_kept : (r : ℕ) (a : Option ℕ) (known : StateFacts) (vs : List Value) (heap : Heap) (number : ℕ → ℤ)
    (array : ℕ → Option ℕ) → HasForm known → HasReference known r
    → HoldsBy known vs heap number array → array r ≡ a → a ≢ None
    → HoldsIn (assumed_by (conditions.NullUse r) known) vs heap number array
unfolding assumed_by
array_kept r None known vs heap number array form there holds is some = absurd (some refl)
array_kept r (Some i) known vs heap number array form there holds is some =
    assume_keeps comparisons.NeUn (vars.Reference r) (vars.Reference 0) true (Some known) (for_some HasForm known form)
    (for_some (λ k. HasVar k (vars.Reference r)) known there)
    (for_some (λ k. HasVar k (vars.Reference 0)) known (omega arith)) vs heap number array
    (values.Array i) values.Null holds (ap Some (sym is)) (ap Some (sym holds.null))
    (below_heap known vs heap number array r i holds there is) tt refl

-- Where a condition is met, the state that assumes it holds by the same choice.
pub met_is_kept : (c : Condition) (known : StateFacts) → HasForm known → IsThere known c
    → (vs : List Value) (heap : Heap) (number : ℕ → ℤ) (array : ℕ → Option ℕ) → IsHeap heap
    → HoldsBy known vs heap number array → IsOfInt32 c number
    → IsMet c heap number array → HoldsIn (assumed_by c known) vs heap number array
unfolding assumed_by
met_is_kept (conditions.NullUse r) known form there vs heap number array is_heap holds fits met =
    array_kept r (array r) known vs heap number array form there holds refl met
met_is_kept (conditions.Lower i) known form there vs heap number array is_heap holds fits met =
    not_negative_kept i known vs heap number array form there holds fits met
met_is_kept (conditions.Upper r i) known form there vs heap number array is_heap holds fits met =
    let long = length_is known vs heap number array r holds there.0 in
    numbers_kept comparisons.Lt i (length_at known r) known vs heap number array form there.1
    (length_number known r form there.0) holds fits
    (subst (FitsSigned w32) (sym long) (length_fits heap (array r) is_heap))
    (lt_true (worth number i) (worth number (length_at known r))
    (subst (λ (m : ℤ). worth number i <ℤ m) (sym long) met))
met_is_kept (conditions.ArraySize n) known form there vs heap number array is_heap holds fits met =
    not_negative_kept n known vs heap number array form there holds fits met
met_is_kept (conditions.Shift n) known form there vs heap number array is_heap holds fits met =
    amount_kept n known vs heap number array form there holds fits met.0 met.1
met_is_kept (conditions.DivZero b) known form there vs heap number array is_heap holds fits met =
    differing_kept b (pos 0) known vs heap number array form there (omega (arith, ints)) holds fits met
met_is_kept (conditions.DivOverflow a b) known form there vs heap number array is_heap holds fits met =
    division_kept a b known vs heap number array form there.0 there.1 holds fits.0 fits.1 met
met_is_kept (conditions.Overflow op a b) known form there vs heap number array is_heap holds fits met = holds
met_is_kept (conditions.Assert e) known form there vs heap number array is_heap holds fits met =
    differing_kept e (pos 0) known vs heap number array form there (omega (arith, ints)) holds fits met
