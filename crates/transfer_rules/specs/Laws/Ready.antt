-- Where the faults of an instruction were assumed away, its operands are such as it may be asked of.
use Rattle.std.proofs.Common.{◌≡◌, ◌≢◌, ℕ, zero, suc, ◌≤◌, ℤ, pos, ◌+ℤ◌, ◌-ℤ◌, ◌≤ℤ◌, Bool, true, false, ◌&&◌, int_le, List, [], ◌∷◌, Option, Some, None, refl, sym, ap, subst, ◌∙◌, arith}
use Rattle.std.specs.Prelude.{reverse, slice_get}
use Rattle.std.specs.Option.{ForSome, option_and_then, option_map, option_map_or}
use Rattle.std.proofs.lemmas.Bool.{cond_both}
use Rattle.std.proofs.lemmas.Int.{ints}
use Rattle.std.proofs.lemmas.Option.{none-some, same_Some}
use Rattle.cil_model.specs.declared.instruction.BinOp.{BinOp}
use Rattle.cil_model.specs.declared.instruction.BinOp.TheVariants as operators
use Rattle.cil_model.specs.declared.instruction.CmpOp.{CmpOp}
use Rattle.cil_model.specs.declared.instruction.CmpOp.TheVariants as comparisons
use Rattle.cil_model.specs.declared.instruction.Op.{Op}
use Rattle.cil_model.specs.declared.instruction.Op.TheVariants as ops
use Rattle.domain_api.specs.declared.expr.Expr.{Expr}
use Rattle.frame_names.specs.declared.var.Var.{Var}
use Rattle.frame_names.specs.declared.var.Var.TheVariants as vars
use Rattle.number_facts.specs.Assume as numbers
use Rattle.number_facts.specs.Facts.{Facts, has}
use Rattle.number_facts.specs.Gaps.{at_most, equal, gap}
use Rattle.number_spans.specs.Constants.{constant}
use Rattle.number_spans.specs.Owed.{Divides, IsPlaces, NotZero, Shifts}
use Rattle.obligation_prover.specs.Avoiding.{avoid_all}
use Rattle.obligation_prover.specs.Operations.{binary_of, element_of, from_top, operation_of}
use Rattle.pentagon_domain.specs.Gaps as by_bounds
use Rattle.state_facts.specs.Assuming.{assumed, with_facts, with_null, with_steps, with_test}
use Rattle.state_facts.specs.Forms.{HasForm}
use Rattle.state_facts.specs.StateFacts.{StateFacts, State, reference_at}
use Rattle.state_obligations.specs.Assumed.{assumed_by, compared, not_negative}
use Rattle.state_obligations.specs.Conditions.{conditions_of, operator_conditions}
use Rattle.state_obligations.specs.Following.{StaysThereIn}
use Rattle.state_obligations.specs.Judged.{judged}
use Rattle.state_obligations.specs.declared.condition.Condition.{Condition}
use Rattle.state_obligations.specs.declared.condition.Condition.TheVariants as conditions
use Rattle.transfer_rules.specs.Choices.{chosen}
use Rattle.transfer_rules.specs.Owed.{AreReadyFor, HasItems, IsReady}
use Rattle.transfer_rules.specs.Laws.PostLaws.{avoided_stays}

-- ---- constants

-- Symbol 0 lies nowhere but where it lies.
same_gap : (facts : Facts) → gap facts 0 0 ≡ Some (pos 0)
unfolding gap by_bounds.gap_with by_bounds.gap
same_gap facts = cond_both (has facts 0 && has facts 0) _ _ (λ (o : Option ℤ). o ≡ Some (pos 0)) (λ e. refl) (λ e. refl)

constants_at_most : (facts : Facts) (m more n : ℤ) → at_most facts (constant m) more (constant n) ≡ int_le
    ((m +ℤ more) -ℤ n) (pos 0)
unfolding at_most
constants_at_most facts m more n = rw (same_gap facts) refl

-- 0 is not other than 0.
none_other : (facts : Facts) → numbers.assumed comparisons.NeUn facts (constant (pos 0)) (constant (pos 0)) true ≡ None
unfolding numbers.assumed numbers.holding numbers.assumed_apart equal
none_other facts = rw (constants_at_most facts (pos 0) (pos 0) (pos 0)) refl

other_than_zero : (facts : Facts) (k : ℤ) (after : Facts)
    → numbers.assumed comparisons.NeUn facts (constant k) (constant (pos 0)) true ≡ Some after → k ≢ pos 0
other_than_zero facts k after is = λ zero.
    none-some after (sym (none_other facts) ∙ subst (λ (n : ℤ). numbers.assumed comparisons.NeUn facts (constant n)
    (constant (pos 0)) true ≡ Some after) zero is)

-- What is assumed to be at most another constant is.
no_more : (facts : Facts) (m n : ℤ) (after : Facts) → numbers.assumed comparisons.Le facts (constant m) (constant n)
    true ≡ Some after → m ≤ℤ n
unfolding numbers.assumed numbers.holding numbers.assumed_at_most
no_more facts m n after is =
    cond_both (at_most facts (constant n) (pos 1 -ℤ pos 0) (constant m)) _ _
    (λ (o : Option Facts). o ≡ Some after → m ≤ℤ n) (λ above none. absurd (none-some after none))
    (λ above some. below (sym (constants_at_most facts n (pos 1 -ℤ pos 0) m) ∙ above)) is
  where
    below : int_le ((n +ℤ (pos 1 -ℤ pos 0)) -ℤ m) (pos 0) ≡ false → m ≤ℤ n
    below e = grind (arith, ints, e)

-- ---- what was assumed

-- Where a comparison of two numbers was assumed and something is reached, the numbers allow it.
allowed : (op : CmpOp) (a b : Expr) (so : Bool) (known after : StateFacts)
    → assumed op (vars.Number a) (vars.Number b) so known ≡ Some after
    → (facts : Facts) × (numbers.assumed op known.facts a b so ≡ Some facts)
unfolding assumed with_steps with_test
allowed op a b so known after is = by _ (numbers.assumed op known.facts a b so) refl is
  where
    by : (f : StateFacts → State) (o : Option Facts) → numbers.assumed op known.facts a b so ≡ o
        → option_and_then f (option_map (with_facts known) o) ≡ Some after
        → (facts : Facts) × (numbers.assumed op known.facts a b so ≡ Some facts)
    by f None at none = absurd (none-some after none)
    by f (Some facts) at some = (facts, at)

a_constant : (e : Expr) → e.sym ≡ 0 → e ≡ constant e.k
a_constant e is = ap (λ (s : ℕ). record { sym = s; k = e.k }) is

divisor_ready : (b : Expr) (known after : StateFacts) → assumed_by (conditions.DivZero b) known ≡ Some after → NotZero b
unfolding assumed_by
divisor_ready b known after is = λ none.
    let facts = allowed comparisons.NeUn b (constant (pos 0)) true known after is in
    other_than_zero known.facts b.k facts.0
    (subst (λ (e : Expr). numbers.assumed comparisons.NeUn known.facts e (constant (pos 0)) true ≡ Some facts.0)
    (a_constant b none) facts.1)

-- Two rules one after another reach something where both do.
both_reach : (f : StateFacts → State) (o : State) (after : StateFacts) → option_and_then f o ≡ Some after
    → (x : StateFacts) × (o ≡ Some x) × (f x ≡ Some after)
both_reach f None after is = absurd (none-some after is)
both_reach f (Some x) after is = (x, refl, is)

amount_ready : (b : Expr) (known after : StateFacts) → assumed_by (conditions.Shift b) known ≡ Some after → IsPlaces b
unfolding assumed_by
amount_ready b known after is = λ none.
    let parts = both_reach (compared comparisons.Le b (constant (pos 31))) (not_negative b known) after is in
    let least = allowed comparisons.Le (constant (pos 0)) b true known parts.0 parts.1 in
    let greatest = allowed comparisons.Le b (constant (pos 31)) true parts.0 after parts.2 in
    record {
      least = no_more known.facts (pos 0) b.k least.0
          (subst (λ (e : Expr). numbers.assumed comparisons.Le known.facts (constant (pos 0)) e true ≡ Some least.0)
          (a_constant b none) least.1);
      greatest = no_more parts.0.facts b.k (pos 31) greatest.0
          (subst (λ (e : Expr). numbers.assumed comparisons.Le parts.0.facts e (constant (pos 31)) true ≡ Some
          greatest.0) (a_constant b none) greatest.1);
    }

-- ---- operators

none_judged : (cs : List Condition) → (judged cs None).state ≡ None
none_judged [] = refl
none_judged (c ∷ cs) = none_judged cs

first_reached : (c : Condition) (cs : List Condition) (known after : StateFacts)
    → (judged (c ∷ cs) (Some known)).state ≡ Some after → (x : StateFacts) × (assumed_by c known ≡ Some x)
first_reached c cs known after is = by (assumed_by c known) refl is
  where
    by : (o : State) → assumed_by c known ≡ o → (judged cs o).state ≡ Some after
        → (x : StateFacts) × (assumed_by c known ≡ Some x)
    by None at none = absurd (none-some after (sym (none_judged cs) ∙ none))
    by (Some x) at some = (x, at)

operator_ready : (op : BinOp) (a b : Expr) (known after : StateFacts)
    → (judged (operator_conditions op a b) (Some known)).state ≡ Some after → Divides op b × Shifts op b
operator_ready operators.Div a b known after is =
    let first = first_reached (conditions.DivZero b) (conditions.DivOverflow a b ∷ []) known after is in
    (divisor_ready b known first.0 first.1, tt)
operator_ready operators.Rem a b known after is =
    let first = first_reached (conditions.DivZero b) (conditions.DivOverflow a b ∷ []) known after is in
    (divisor_ready b known first.0 first.1, tt)
operator_ready operators.DivUn a b known after is =
    let first = first_reached (conditions.DivZero b) [] known after is in (divisor_ready b known first.0 first.1, tt)
operator_ready operators.RemUn a b known after is =
    let first = first_reached (conditions.DivZero b) [] known after is in (divisor_ready b known first.0 first.1, tt)
operator_ready operators.Shl a b known after is =
    let first = first_reached (conditions.Shift b) [] known after is in (tt, amount_ready b known first.0 first.1)
operator_ready operators.Shr a b known after is =
    let first = first_reached (conditions.Shift b) [] known after is in (tt, amount_ready b known first.0 first.1)
operator_ready operators.ShrUn a b known after is =
    let first = first_reached (conditions.Shift b) [] known after is in (tt, amount_ready b known first.0 first.1)
operator_ready _ a b known after is = (tt, tt)

operands_ready : (op : BinOp) (v w : Option Var) (known after : StateFacts)
    → (judged (option_map_or conditions_of (binary_of op v w) []) (Some known)).state ≡ Some after → AreReadyFor op v w
operands_ready op (Some (vars.Number a)) (Some (vars.Number b)) known after is = operator_ready op a b known after is
operands_ready op None w known after is = tt
operands_ready op (Some (vars.Number a)) None known after is = tt
operands_ready op (Some (vars.Number a)) (Some _) known after is = tt
operands_ready op (Some _) w known after is = tt

-- Reference 0 is null.
array_ready : (r : ℕ) (known after : StateFacts) → assumed_by (conditions.NullUse r) known ≡ Some after → 1 ≤ r
unfolding assumed_by assumed with_null reference_at
array_ready zero known after is = absurd (none-some after is)
array_ready (suc r) known after is = omega arith

element_ready : (v w : Option Var) (known after : StateFacts)
    → (judged (option_map_or conditions_of (element_of v w) []) (Some known)).state ≡ Some after → HasItems v w
element_ready (Some (vars.Reference r)) (Some (vars.Number i)) known after is =
    let first = first_reached (conditions.NullUse r) (conditions.Lower i ∷ conditions.Upper r i ∷ []) known after is in
    array_ready r known first.0 first.1
element_ready (Some (vars.Reference r)) None known after is = tt
element_ready (Some (vars.Reference r)) (Some _) known after is = tt
element_ready (Some _) w known after is = tt
element_ready None w known after is = tt

-- Variables are as they were.
same_variables : (known : StateFacts) (o : State) (after : StateFacts) → StaysThereIn known o → o ≡ Some after
    → after.variables ≡ known.variables
same_variables known None after stays is = absurd (none-some after is)
same_variables known (Some x) after stays is =
    subst (λ (y : StateFacts). y.variables ≡ known.variables) (same_Some x after is) stays.variables

bin_ready : (op : BinOp) (known : StateFacts) → HasForm known
    → ForSome (avoid_all (ops.Bin op) (Some known)) (IsReady (ops.Bin op))
unfolding operation_of
bin_ready op known form = λ after is.
    let same = same_variables known (avoid_all (ops.Bin op) (Some known)) after (avoided_stays (ops.Bin op) known form)
    is in
    subst (λ (vs : List Var). AreReadyFor op (slice_get (reverse vs) 1) (slice_get (reverse vs) 0)) (sym same)
    (operands_ready op (from_top 1 known) (from_top 0 known) known after is)

address_ready : (number : ℕ) (known : StateFacts) → HasForm known
    → ForSome (avoid_all (ops.LoadAddr number) (Some known)) (IsReady (ops.LoadAddr number))
unfolding operation_of
address_ready number known form = λ after is.
    let same = same_variables known (avoid_all (ops.LoadAddr number) (Some known)) after
    (avoided_stays (ops.LoadAddr number) known form) is in
    subst (λ (vs : List Var). HasItems (slice_get (reverse vs) 1) (slice_get (reverse vs) 0)) (sym same)
    (element_ready (from_top 1 known) (from_top 0 known) known after is)

-- Where the faults of an instruction were assumed away, its operands are ready.
pub avoided_ready : (op : Op) (state : State) → ForSome state HasForm → ForSome (avoid_all op state) (IsReady op)
avoided_ready (ops.Bin op) None form = λ after is. absurd (none-some after is)
avoided_ready (ops.Bin op) (Some known) form = bin_ready op known (form known refl)
avoided_ready (ops.LoadAddr number) None form = λ after is. absurd (none-some after is)
avoided_ready (ops.LoadAddr number) (Some known) form = address_ready number known (form known refl)
avoided_ready _ state form = λ after is. tt

-- So along each way.
pub chosen_ready : (op : Op) (way : ℕ) (state : State) → ForSome state (IsReady op)
    → ForSome (option_and_then (chosen op way) state) (IsReady op)
unfolding chosen
chosen_ready (ops.Bin op) way None ready = λ after is. absurd (none-some after is)
chosen_ready (ops.Bin op) way (Some known) ready = ready
chosen_ready (ops.LoadAddr number) way None ready = λ after is. absurd (none-some after is)
chosen_ready (ops.LoadAddr number) way (Some known) ready = ready
chosen_ready _ way state ready = λ after is. tt
