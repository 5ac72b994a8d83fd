-- Where a tree is true, the state in which it is assumed holds, by some choice.
use Rattle.std.proofs.Common.{◌≡◌, inl, inr, ℕ, ◌==◌, ℤ, pos, int_eq, Bool, true, false, not, List, [], ◌∷◌, ◌++◌, Option, Some, None, refl, ap, subst, sym, ◌∙◌, arith}
use Rattle.std.specs.Option.{option_and_then}
use Rattle.std.proofs.lemmas.Grind.{common_steps}
use Rattle.std.proofs.lemmas.Int.{ints}
use Rattle.std.proofs.lemmas.Option.{none-some, same_Some}
use Rattle.cil_model.specs.Arithmetic.{truth}
use Rattle.cil_model.specs.Clauses.{Reading, binary_value, both, chosen, value_of}
use Rattle.cil_model.specs.Comparisons.{is_true}
use Rattle.cil_model.specs.Terms as terms
use Rattle.cil_model.specs.Terms.{Term}
use Rattle.cil_model.specs.Values.{Heap, IsValue}
use Rattle.cil_model.specs.declared.instruction.BinOp.{BinOp}
use Rattle.cil_model.specs.declared.instruction.BinOp.TheVariants as operators
use Rattle.cil_model.specs.declared.machine.Value.{Value}
use Rattle.cil_model.specs.declared.machine.Value.TheVariants as values
use Rattle.cil_model.specs.declared.place.Kind.{Kind}
use Rattle.cil_model.specs.declared.place.Place.{Place}
use Rattle.merged_states.specs.Alike.{AreLikeStates}
use Rattle.merged_states.specs.Following.{AreOfMachine, HoldsOver}
use Rattle.merged_states.specs.Merging.{join, joining}
use Rattle.merged_states.specs.Laws.BothHold.{joined_keeps}
use Rattle.merged_states.specs.Laws.StatesHold.{machine_numbers, merged_over}
use Rattle.state_facts.specs.Forms.{HasForm}
use Rattle.state_facts.specs.Holds.{HoldsIn}
use Rattle.state_facts.specs.Moves.{popped}
use Rattle.state_facts.specs.StateFacts.{StateFacts, State}
use Rattle.clause_trees.specs.ClauseStates.{assumed, assumed_top, assumed_value, value_in}
use Rattle.clause_trees.specs.Meaning.{IsTest, KeepsAssumedTree, KeepsFormsOfVariables, Reads}
use Rattle.clause_trees.specs.TreeValues.{true_known, value}
use Rattle.clause_trees.specs.VariableKinds.{HasSameForms, HasSameFormsIn, IsReadable}
use Rattle.clause_trees.specs.declared.reader.Time.TheVariants.{Now}
use Rattle.clause_trees.specs.declared.reader.TreeEnv.{TreeEnv}
use Rattle.clause_trees.proofs.AssumedTrees.{IsNegation, assumed_same, branch_test, negated_test, negation_assumed, negation_or_value}
use Rattle.clause_trees.proofs.KeptConditions.{true_kept}
use Rattle.clause_trees.proofs.KeptSteps.{Comes, comes, popped_holds, top_value}
use Rattle.clause_trees.proofs.KeptTrees.{fits_now, value_kept}
use Rattle.clause_trees.proofs.PushedTrees.{value_pushed}
use Rattle.clause_trees.proofs.SameForms.{comparable, grown_same, readable_same}
use Rattle.clause_trees.proofs.Stays.{grown_itself, popped_below, top_is}
use Rattle.clause_trees.proofs.ValueKinds.{both_tells, kind_is_value}

-- ---- truths

flag_negated : (b holds : Bool) → is_true (values.Int (truth b)) ≡ Some holds → Some (not b) ≡ Some (not holds)
flag_negated true holds is = ap (λ h. Some (not h)) (same_Some true holds is)
flag_negated false holds is = ap (λ h. Some (not h)) (same_Some false holds is)

-- A number is 0 where its comparison with 0 is true.
negated_truth : (x y : Value) (holds : Bool) → binary_value operators.Ceq x (values.Int (pos 0)) ≡ Some y
    → is_true y ≡ Some holds
    → is_true x ≡ Some (not holds)
negated_truth (values.Int n) y holds gives is =
    flag_negated (int_eq n (pos 0)) holds (ap is_true (same_Some (values.Int (truth (int_eq n (pos 0)))) y gives) ∙ is)
negated_truth (values.Native n) y holds gives is =
    let same : int_eq (pos n) (pos 0) ≡ (n == 0) = grind (arith, ints, common_steps) in
    ap (λ b. Some (not b)) (sym same)
    ∙ flag_negated (int_eq (pos n) (pos 0)) holds
    (ap is_true (same_Some (values.Int (truth (int_eq (pos n) (pos 0)))) y gives) ∙ is)
negated_truth _ y holds gives is = absurd (none-some y gives)

-- A value that is true or false is there.
truth_tells : (o : Option Value) (holds : Bool) → option_and_then is_true o ≡ Some holds → (x : Value) × (o ≡ Some x) ×
    (is_true x ≡ Some holds)
truth_tells None holds is = absurd (none-some holds is)
truth_tells (Some x) holds is = (x, refl, is)

pub negation_value : (op : BinOp) (a b : Term) (r : Reading) (holds : Bool) → IsNegation op b
    → option_and_then is_true (value_of (terms.Bin op a b) r) ≡ Some holds
    → option_and_then is_true (value_of a r) ≡ Some (not holds)
unfolding value_of
negation_value op a b r holds is so =
    by (subst (λ o. option_and_then is_true (value_of (terms.Bin o a (terms.Const (pos 0))) r) ≡ Some holds) is.op_is
    (subst (λ t. option_and_then is_true (value_of (terms.Bin op a t) r) ≡ Some holds) is.zero_is so))
  where
    by : option_and_then is_true
        (both (value_of a r) (Some (values.Int (pos 0))) (binary_value operators.Ceq)) ≡ Some holds
        → option_and_then is_true (value_of a r) ≡ Some (not holds)
    by so =
        let (y, gives, truth_is) =
        truth_tells (both (value_of a r) (Some (values.Int (pos 0))) (binary_value operators.Ceq)) holds so in let two =
        both_tells (value_of a r) (Some (values.Int (pos 0))) (binary_value operators.Ceq) y gives in
        ap (option_and_then is_true) two.first_is
        ∙ negated_truth two.first y holds
        (subst (λ v. binary_value operators.Ceq two.first v ≡ Some y)
        (sym (same_Some (values.Int (pos 0)) two.second two.second_is)) two.gives) truth_is

-- Which branch a condition takes that is true or false.
branch_tells : (o p q : Option Value) (holds : Bool)
    → option_and_then is_true (chosen (option_and_then is_true o) p q) ≡ Some holds
    → (so : Bool) × (option_and_then is_true o ≡ Some so) × (so ≡ true → option_and_then is_true p ≡ Some holds)
    × (so ≡ false → option_and_then is_true q ≡ Some holds)
branch_tells o p q holds is = by (option_and_then is_true o) refl is
  where
    by : (t : Option Bool) → option_and_then is_true o ≡ t → option_and_then is_true (chosen t p q) ≡ Some holds
        → (so : Bool) × (option_and_then is_true o ≡ Some so) × (so ≡ true → option_and_then is_true p ≡ Some holds)
        × (so ≡ false → option_and_then is_true q ≡ Some holds)
    by None found is = absurd (none-some holds is)
    by (Some true) found is = (true, found, (λ same. is), (λ same. absurd cc))
    by (Some false) found is = (false, found, (λ same. absurd cc), (λ same. is))

-- ---- joins

like_states : (known : StateFacts) (o p : State) → HasSameFormsIn known o → HasSameFormsIn known p → AreLikeStates o p
like_states known None p first second = tt
like_states known (Some a) None first second = tt
like_states known (Some a) (Some b) first second = comparable known a b first second

join_first : (known : StateFacts) (o p : State) (vs : List Value) (heap : Heap) → AreOfMachine vs heap
    → HasSameFormsIn known o
    → HasSameFormsIn known p → HoldsOver o vs heap → HoldsOver (join o p) vs heap
join_first known o p vs heap machine first second over =
    merged_over true joining o p (joined_keeps true) (like_states known o p first second) vs heap machine over

join_second : (known : StateFacts) (o p : State) (vs : List Value) (heap : Heap) → AreOfMachine vs heap
    → HasSameFormsIn known o
    → HasSameFormsIn known p → HoldsOver p vs heap → HoldsOver (join o p) vs heap
join_second known o p vs heap machine first second over =
    merged_over false joining o p (joined_keeps false) (like_states known o p first second) vs heap machine over

-- ---- trees

module _ (env : TreeEnv) (args : List Place) (result : Place) (vs : List Value) (heap : Heap) (r : Reading)
    (reads : Reads env args result vs heap r) where
  pub of_machine : AreOfMachine vs heap
  of_machine = record { numbers = machine_numbers heap vs reads.is_heap reads.are_values; arrays = reads.is_heap }

  top_kept : (x : StateFacts) (kind : Kind) (o : State) (v : Value) (number : ℕ → ℤ) (array : ℕ → Option ℕ)
      (holds : Bool)
      → Comes x kind o (vs ++ v ∷ []) heap number array → IsValue heap v → is_true v ≡ Some holds
      → HoldsOver (option_and_then (assumed_top holds) o) vs heap
  top_kept x kind o v number array holds first value_is truth_is =
      let is = first.pushed in
      let after = first.after in
      let below = popped_below x after kind is in
      record {
        number = first.later;
        array = first.later_array;
        holds = subst (λ s. HoldsIn (option_and_then (assumed_top holds) s) vs heap first.later first.later_array)
            (sym first.state_is)
            (subst (λ t. HoldsIn (option_and_then (λ w. true_known holds w (popped after)) t) vs heap first.later
            first.later_array)
            (sym (top_is x after kind is))
            (true_kept holds (popped after) is.top v vs heap first.later first.later_array below.grown.form below.there
            value_is
            (popped_holds after vs v heap first.later first.later_array first.holds)
            (top_value x after kind vs v heap first.later first.later_array is first.holds) truth_is));
      }

  value_assumed : (t : Term) (holds : Bool) (known : StateFacts) (o : State) → IsReadable env args result known
      → HasSameFormsIn known o
      → IsTest args result t → HoldsOver o vs heap → option_and_then is_true (value_of t r) ≡ Some holds
      → HoldsOver (assumed_value holds (value_in env t o)) vs heap
  value_assumed t holds known None readable same test over so = elim over.holds [ ]
  value_assumed t holds known (Some x) readable same test over so =
      let (v, gives, truth_is) = truth_tells (value_of t r) holds so in
      let here = readable_same env args result known x same readable in
      top_kept x test.kind (value env Now t x).state v over.number over.array holds
      (comes x test.kind (value env Now t x).state (vs ++ v ∷ []) heap over.number over.array
      (value_pushed env args result t Now test.kind x here test.typed)
      (value_kept env args result heap r t Now test.kind x vs over.number over.array v here test.typed reads over.holds
      gives))
      (kind_is_value heap test.kind v (fits_now env args result heap r vs reads t Now test.kind v test.typed gives))
      truth_is

  negated_kept : (op : BinOp) (a b : Term) (holds : Bool) (known : StateFacts) (o : State)
      → IsReadable env args result known
      → HasSameFormsIn known o → IsTest args result (terms.Bin op a b) → HoldsOver o vs heap
      → option_and_then is_true (value_of (terms.Bin op a b) r) ≡ Some holds
      → (IsTest args result a → option_and_then is_true (value_of a r) ≡ Some (not holds)
      → HoldsOver (assumed env (not holds) a o) vs heap)
      → HoldsOver (assumed env holds (terms.Bin op a b) o) vs heap
  negated_kept op a b holds known o readable same test over so rest = elim (negation_or_value op b) [
    | inl is ↦
        subst (λ s. HoldsOver s vs heap) (sym (negation_assumed env holds op a b o is))
        (rest (negated_test args result op a b test.kind is test.typed) (negation_value op a b r holds is so))
    | inr is ↦
        subst (λ s. HoldsOver s vs heap) (sym (is.assumed_is env holds a o))
        (value_assumed (terms.Bin op a b) holds known o readable same test over so)
  ]

  branch_kept : (known : StateFacts) (o p : State) (so : Bool) → HasSameFormsIn known o → HasSameFormsIn known p
      → (so ≡ true → HoldsOver o vs heap) → (so ≡ false → HoldsOver p vs heap) → HoldsOver (join o p) vs heap
  branch_kept known o p true first second one two = join_first known o p vs heap of_machine first second (one refl)
  branch_kept known o p false first second one two = join_second known o p vs heap of_machine first second (two refl)

  pub assumed_kept : (t : Term) (holds : Bool) (known : StateFacts) (o : State) → IsReadable env args result known
      → HasSameFormsIn known o
      → IsTest args result t → HoldsOver o vs heap → option_and_then is_true (value_of t r) ≡ Some holds
      → HoldsOver (assumed env holds t o) vs heap
  unfolding assumed value_of
  assumed_kept (terms.Cond c a b) holds known o readable same test over so =
      let (of_test, of_first, of_second) = branch_test env args result c a b test in
      let (taken, tested, one, two) = branch_tells (value_of c r) (value_of a r) (value_of b r) holds so in
      let left = assumed_same env args result c true known o readable same of_test in
      let right = assumed_same env args result c false known o readable same of_test in
      branch_kept known (assumed env holds a (assumed env true c o)) (assumed env holds b (assumed env false c o)) taken
      (assumed_same env args result a holds known (assumed env true c o) readable left of_first)
      (assumed_same env args result b holds known (assumed env false c o) readable right of_second)
      (λ is.
      assumed_kept a holds known (assumed env true c o) readable left of_first
      (assumed_kept c true known o readable same of_test over (tested ∙ ap Some is)) (one is))
      (λ is.
      assumed_kept b holds known (assumed env false c o) readable right of_second
      (assumed_kept c false known o readable same of_test over (tested ∙ ap Some is)) (two is))
  assumed_kept (terms.Bin op a b) holds known o readable same test over so =
      negated_kept op a b holds known o readable same test over so
      (λ of_first is. assumed_kept a (not holds) known o readable same of_first over is)
  assumed_kept (terms.Const n) holds known o readable same test over so =
      value_assumed (terms.Const n) holds known o readable same test over so
  assumed_kept (terms.Arg n) holds known o readable same test over so =
      value_assumed (terms.Arg n) holds known o readable same test over so
  assumed_kept terms.Null holds known o readable same test over so =
      value_assumed terms.Null holds known o readable same test over so
  assumed_kept terms.Result holds known o readable same test over so =
      value_assumed terms.Result holds known o readable same test over so
  assumed_kept (terms.Len a) holds known o readable same test over so =
      value_assumed (terms.Len a) holds known o readable same test over so
  assumed_kept (terms.Elem place a b) holds known o readable same test over so =
      value_assumed (terms.Elem place a b) holds known o readable same test over so
  assumed_kept (terms.Un op a) holds known o readable same test over so =
      value_assumed (terms.Un op a) holds known o readable same test over so
  assumed_kept (terms.Old a) holds known o readable same test over so =
      value_assumed (terms.Old a) holds known o readable same test over so

-- ---- what is said of them

pub itself_same : (known : StateFacts) → HasForm known → HasSameForms known known
itself_same known form = grown_same known known form (grown_itself known form) refl

pub assumed_keeps_forms : (env : TreeEnv) (holds : Bool) (t : Term) (known : StateFacts)
    → KeepsFormsOfVariables env holds t known
assumed_keeps_forms env holds t known = λ args result readable test.
    assumed_same env args result t holds known (Some known) readable (itself_same known readable.form) test

pub assumed_is_kept : (env : TreeEnv) (holds : Bool) (t : Term) (state : State) → KeepsAssumedTree env holds t state
assumed_is_kept env holds t None = λ args result vs heap r readable test reads over so. elim over.holds [ ]
assumed_is_kept env holds t (Some known) = λ args result vs heap r readable test reads over so.
    let here = readable known refl in
    assumed_kept env args result vs heap r reads t holds known (Some known) here (itself_same known here.form) test over
    so
