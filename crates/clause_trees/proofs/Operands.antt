-- The operands of an operation are there, before its conditions are judged and after that.
use Rattle.std.proofs.Common.{◌≡◌, ◌≢◌, ℕ, ◌==◌, ℤ, pos, ◌+ℤ◌, ◌-ℤ◌, ◌≤ℤ◌, Bool, true, false, int_le, Option, Some, None, List, [], ◌∷◌, refl, sym, ap, subst, ◌∙◌, inl, inr, arith}
use Rattle.std.specs.Option.{ForSome, option_and_then, option_map}
use Rattle.std.specs.Prelude.{if◌then◌else◌}
use Rattle.std.proofs.lemmas.Bool.{cases_Bool, cond_both}
use Rattle.std.proofs.lemmas.Int.{ints}
use Rattle.cil_model.specs.declared.instruction.BinOp.{BinOp}
use Rattle.cil_model.specs.declared.instruction.BinOp.TheVariants as operators
use Rattle.cil_model.specs.declared.instruction.CmpOp.TheVariants as comparisons
use Rattle.domain_api.specs.declared.expr.Expr.{Expr}
use Rattle.frame_names.specs.declared.var.Var.TheVariants as vars
use Rattle.number_facts.specs.Assume as numbers
use Rattle.number_facts.specs.Facts.{Facts, has}
use Rattle.number_facts.specs.Gaps.{at_most, equal, gap}
use Rattle.number_spans.specs.Constants.{constant}
use Rattle.number_spans.specs.Owed.{Divides, NotZero, IsPlaces, Shifts}
use Rattle.number_spans.specs.Shifts.{IsAmount}
use Rattle.pentagon_domain.specs.Gaps as by_bounds
use Rattle.state_facts.specs.Assuming.{assumed, following, with_facts, with_steps, with_test}
use Rattle.state_facts.specs.Forms.{HasForm, HasNumber, HasReference}
use Rattle.state_facts.specs.StateFacts.{StateFacts, State}
use Rattle.state_obligations.proofs.Following.{number_still, reference_still}
use Rattle.state_obligations.proofs.JudgedLaws.{judged_follow}
use Rattle.state_obligations.specs.Assumed.{amount, assumed_by, compared, differing, not_negative}
use Rattle.state_obligations.specs.Conditions.{AreThere, conditions_of, operator_conditions}
use Rattle.state_obligations.specs.Following.{StaysThere, StaysThereIn}
use Rattle.state_obligations.specs.Judged.{judged}
use Rattle.state_obligations.specs.declared.condition.Condition.{Condition}
use Rattle.state_obligations.specs.declared.condition.Condition.TheVariants as conditions
use Rattle.state_obligations.specs.declared.condition.Operation.TheVariants as operations

-- ---- before

pub length_there : (state : State) (r : ℕ) → ForSome state (λ known. HasReference known r)
    → ForSome state (λ known. AreThere known (conditions_of (operations.Length r)))
length_there state r there = λ known is. (there known is, tt)

pub element_there : (state : State) (r : ℕ) (i : Expr) → ForSome state (λ known. HasReference known r)
    → ForSome state (λ known. HasNumber known i) → ForSome state (λ known. AreThere known (conditions_of (operations.Element r i)))
element_there state r i there index = λ known is. (there known is, (index known is, ((there known is, index known is), tt)))

both_there : (op : BinOp) (a b : Expr) (known : StateFacts) → HasNumber known a → HasNumber known b → AreThere known (operator_conditions op a b)
both_there operators.Div a b known first second = (second, ((first, second), tt))
both_there operators.Rem a b known first second = (second, ((first, second), tt))
both_there operators.DivUn a b known first second = (second, tt)
both_there operators.RemUn a b known first second = (second, tt)
both_there operators.Shl a b known first second = (second, tt)
both_there operators.Shr a b known first second = (second, tt)
both_there operators.ShrUn a b known first second = (second, tt)
both_there operators.AddOvf a b known first second = ((first, second), tt)
both_there operators.MulOvf a b known first second = ((first, second), tt)
both_there operators.SubOvf a b known first second = ((first, second), tt)
both_there _ a b known first second = tt

pub operator_there : (op : BinOp) (state : State) (a b : Expr) → ForSome state (λ known. HasNumber known a)
    → ForSome state (λ known. HasNumber known b) → ForSome state (λ known. AreThere known (conditions_of (operations.Binary op a b)))
operator_there op state a b first second = λ known is. both_there op a b known (first known is) (second known is)

-- ---- after

nothing_judged : (cs : List Condition) → (judged cs None).state ≡ None
nothing_judged [] = refl
nothing_judged (c ∷ cs) = nothing_judged cs

no_state : (x : StateFacts) → None ≡ Some x → ⊥
no_state x is = cc

left : (cs : List Condition) (known x : StateFacts) → HasForm known → AreThere known cs → (judged cs (Some known)).state ≡ Some x → StaysThere known x
left cs known x form there is = by (judged cs (Some known)).state (judged_follow cs known form there) is
  where
    same : (y : StateFacts) → Some y ≡ Some x → y ≡ x
    same y is = cc

    by : (o : State) → StaysThereIn known o → o ≡ Some x → StaysThere known x
    by None stays at = absurd (no_state x at)
    by (Some y) stays at = subst (StaysThere known) (same y at) stays

-- what is so of each state in which all that was there is there still
left_so : (cs : List Condition) (state after : State) (P Q : StateFacts → Type 0) → ((known x : StateFacts) → StaysThere known x → P known → Q x)
    → ForSome state HasForm → ForSome state (λ known. AreThere known cs) → ForSome state P → after ≡ (judged cs state).state → ForSome after Q
left_so cs None after P Q stays form there holds is = λ x at. absurd (no_state x (sym (is ∙ nothing_judged cs) ∙ at))
left_so cs (Some known) after P Q stays form there holds is =
    λ x at. stays known x (left cs known x (form known refl) (there known refl) (sym is ∙ at)) (holds known refl)

pub judged_reference : (cs : List Condition) (state after : State) (r : ℕ) → ForSome state HasForm → ForSome state (λ known. AreThere known cs)
    → ForSome state (λ known. HasReference known r) → after ≡ (judged cs state).state → ForSome after (λ known. HasReference known r)
judged_reference cs state after r form there holds is =
    left_so cs state after (λ known. HasReference known r) (λ known. HasReference known r) (λ known x stays has. reference_still known x r stays has) form there
    holds is

pub judged_number : (cs : List Condition) (state after : State) (e : Expr) → ForSome state HasForm → ForSome state (λ known. AreThere known cs)
    → ForSome state (λ known. HasNumber known e) → after ≡ (judged cs state).state → ForSome after (λ known. HasNumber known e)
judged_number cs state after e form there holds is =
    left_so cs state after (λ known. HasNumber known e) (λ known. HasNumber known e) (λ known x stays has. number_still known x e stays has) form there holds is

-- ---- constants that are ruled out

same_gap : (facts : Facts) (is : Bool) (o other : Option ℤ) → o ≡ Some (pos 0) → other ≡ Some (pos 0) → (if is then o else other) ≡ Some (pos 0)
same_gap facts true o other first second = first
same_gap facts false o other first second = second

no_gap : (facts : Facts) → gap facts 0 0 ≡ Some (pos 0)
unfolding gap by_bounds.gap by_bounds.gap_with
no_gap facts = same_gap facts _ (Some (pos 0)) (Some (pos 0)) refl refl

constants_at_most : (facts : Facts) (a b : Expr) (more : ℤ) → a.sym ≡ 0 → b.sym ≡ 0 → at_most facts a more b ≡ int_le ((a.k +ℤ more) -ℤ b.k) (pos 0)
unfolding at_most
constants_at_most facts a b more first second = rw (first, second, no_gap facts) refl

zero_equal : (facts : Facts) (b : Expr) → b.sym ≡ 0 → b.k ≡ pos 0 → equal facts b (constant (pos 0)) ≡ true
unfolding equal
zero_equal facts b none zero =
    rw (constants_at_most facts b (constant (pos 0)) (pos 0) none refl, constants_at_most facts (constant (pos 0)) b (pos 0) refl none, zero) refl

not_apart : (facts : Facts) (b : Expr) → b.sym ≡ 0 → b.k ≡ pos 0 → numbers.assumed comparisons.NeUn facts b (constant (pos 0)) true ≡ None
unfolding numbers.assumed numbers.holding numbers.assumed_apart
not_apart facts b none zero = rw (zero_equal facts b none zero) refl

-- a comparison of numbers that cannot hold leaves nothing
none_compared : (op : _) (a b : Expr) (known : StateFacts) → numbers.assumed op known.facts a b true ≡ None → compared op a b known ≡ None
unfolding assumed with_steps with_test
none_compared op a b known none = rw none refl

zero_differs : (b : Expr) (known : StateFacts) → b.sym ≡ 0 → b.k ≡ pos 0 → differing b (pos 0) known ≡ None
zero_differs b known none zero = none_compared comparisons.NeUn b (constant (pos 0)) known (not_apart known.facts b none zero)

above : (facts : Facts) (a b : Expr) → a.sym ≡ 0 → b.sym ≡ 0 → int_le ((b.k +ℤ pos 1) -ℤ a.k) (pos 0) ≡ true
    → numbers.assumed comparisons.Le facts a b true ≡ None
unfolding numbers.assumed numbers.holding numbers.assumed_at_most
above facts a b first second is = rw (constants_at_most facts b a (pos 1 -ℤ pos 0) second first, is) refl

-- of constants that are in order by what is known
in_order : (a b : Expr) (known x : StateFacts) → a.sym ≡ 0 → b.sym ≡ 0 → compared comparisons.Le a b known ≡ Some x → a.k ≤ℤ b.k
in_order a b known x first second is = elim (cases_Bool (int_le ((b.k +ℤ pos 1) -ℤ a.k) (pos 0))) [
  | inl past ↦ absurd (no_state x (sym (none_compared comparisons.Le a b known (above known.facts a b first second past)) ∙ is))
  | inr so ↦ grind (arith, ints, so)
]

-- ---- a divisor that is a constant

divides : (b : Expr) (cs : List Condition) (state after : State) → after ≡ (judged (conditions.DivZero b ∷ cs) state).state → ForSome after (λ _. NotZero b)
unfolding assumed_by
divides b cs None after is = λ x at. absurd (no_state x (sym (is ∙ nothing_judged cs) ∙ at))
divides b cs (Some known) after is = λ x at none zero.
    absurd (no_state x (sym (is ∙ ap (λ (o : State). (judged cs o).state) (zero_differs b known none zero) ∙ nothing_judged cs) ∙ at))

anything : (after : State) → ForSome after (λ _. Unit {0})
anything after = λ x at. tt

pub divisor_left : (op : BinOp) (a b : Expr) (state after : State) → after ≡ (judged (conditions_of (operations.Binary op a b)) state).state
    → ForSome after (λ _. Divides op b)
divisor_left operators.Div a b state after is = divides b (conditions.DivOverflow a b ∷ []) state after is
divisor_left operators.Rem a b state after is = divides b (conditions.DivOverflow a b ∷ []) state after is
divisor_left operators.DivUn a b state after is = divides b [] state after is
divisor_left operators.RemUn a b state after is = divides b [] state after is
divisor_left _ a b state after is = anything after

-- ---- an amount that is a constant

amount_so : (n : Expr) (known x : StateFacts) (o : State) → not_negative n known ≡ o → option_and_then (compared comparisons.Le n (constant (pos 31))) o ≡ Some x
    → IsPlaces n
amount_so n known x None first is = absurd (no_state x is)
amount_so n known x (Some between) first is = λ none. record {
  least = in_order (constant (pos 0)) n known between refl none first;
  greatest = in_order n (constant (pos 31)) between x none refl is;
}

shifts : (b : Expr) (state after : State) → after ≡ (judged (conditions.Shift b ∷ []) state).state → ForSome after (λ _. IsPlaces b)
unfolding assumed_by
shifts b None after is = λ x at. absurd (no_state x (sym is ∙ at))
shifts b (Some known) after is = λ x at. amount_so b known x (not_negative b known) refl (sym is ∙ at)

pub amount_left : (op : BinOp) (a b : Expr) (state after : State) → after ≡ (judged (conditions_of (operations.Binary op a b)) state).state
    → ForSome after (λ _. Shifts op b)
amount_left operators.Shl a b state after is = shifts b state after is
amount_left operators.Shr a b state after is = shifts b state after is
amount_left operators.ShrUn a b state after is = shifts b state after is
amount_left _ a b state after is = anything after

pub ruleset operands = (length_there, element_there, operator_there, judged_reference, judged_number, divisor_left, amount_left)
