-- Where a tree is assumed, variables keep their forms, and what holds is kept.
use Rattle.std.proofs.Common.{◌≡◌, ◌⊎◌, inl, inr, ℤ, pos, int_eq, Bool, true, false, not, List, Some, None, if◌then◌else◌, refl, ap, subst, sym, ◌∙◌, arith}
use Rattle.std.specs.Option.{option_and_then}
use Rattle.std.proofs.lemmas.Bool.{false≢true}
use Rattle.std.proofs.lemmas.Int.{ints}
use Rattle.std.proofs.lemmas.Option.{same_Some}
use Rattle.cil_model.specs.Kinds.{is_tested, pushes_comparison}
use Rattle.cil_model.specs.Passes.{merged_kind}
use Rattle.cil_model.specs.Terms as terms
use Rattle.cil_model.specs.Terms.{Term}
use Rattle.cil_model.specs.declared.instruction.BinOp.{BinOp}
use Rattle.cil_model.specs.declared.instruction.BinOp.TheVariants as operators
use Rattle.cil_model.specs.declared.instruction.CmpOp.TheVariants as comparisons
use Rattle.cil_model.specs.declared.place.Kind.{Kind}
use Rattle.cil_model.specs.declared.place.Kind.TheVariants as kinds
use Rattle.cil_model.specs.declared.place.Place.{Place}
use Rattle.state_facts.specs.Forms.{HasForm}
use Rattle.state_facts.specs.Moves.{popped}
use Rattle.state_facts.specs.StateFacts.{StateFacts, State}
use Rattle.state_obligations.specs.Following.{StaysThereIn}
use Rattle.clause_trees.specs.ClauseStates.{assumed, assumed_top, assumed_value, shown, shown_value, value_in}
use Rattle.clause_trees.specs.Meaning.{IsTest, IsTyped}
use Rattle.clause_trees.specs.TreeValues.{true_known, value}
use Rattle.clause_trees.specs.VariableKinds.{HasSameFormsIn, IsPushed, IsPushedIn, IsReadable}
use Rattle.clause_trees.specs.declared.reader.Time.TheVariants.{Now}
use Rattle.clause_trees.specs.declared.reader.TreeEnv.{TreeEnv}
use Rattle.clause_trees.proofs.PushedTrees.{true_follows, value_pushed}
use Rattle.clause_trees.proofs.SameForms.{grown_same, join_same, readable_same, same_forms_on}
use Rattle.clause_trees.proofs.Stays.{grown_on, popped_below, stays_grown, top_is}
use Rattle.clause_trees.proofs.Typing.{branches_typed, merged_cases, merged_swaps, operator_typed}

-- ---- comparisons with 0

-- A comparison with the constant 0 is the negation of its first tree, and another operator is read by its value.
pub record IsNegation (op : BinOp) (b : Term) : Type 0 where
  pub op_is : op ≡ operators.Ceq
  pub zero_is : b ≡ terms.Const (pos 0)

pub record IsReadByValue (op : BinOp) (b : Term) : Type 0 where
  pub assumed_is : (env : TreeEnv) (holds : Bool) (a : Term) (state : State)
      → assumed env holds (terms.Bin op a b) state ≡ assumed_value holds (value_in env (terms.Bin op a b) state)
  pub shown_is : (env : TreeEnv) (holds : Bool) (a : Term) (state : State)
      → shown env holds (terms.Bin op a b) state ≡ shown_value holds (value_in env (terms.Bin op a b) state)

constant_read : (n : ℤ) (zero : Bool) → int_eq n (pos 0) ≡ zero
    → IsNegation operators.Ceq (terms.Const n) ⊎ IsReadByValue operators.Ceq (terms.Const n)
unfolding assumed shown
constant_read n true is = inl (record { op_is = refl; zero_is = ap terms.Const (same n is) })
  where
    same : (n : ℤ) → int_eq n (pos 0) ≡ true → n ≡ pos 0
    same n is = grind (arith, ints, is)
constant_read n false is = inr (record {
  assumed_is = λ env holds a state.
      ap (λ b. if b then assumed env (not holds) a state else assumed_value holds
      (value_in env (terms.Bin operators.Ceq a (terms.Const n)) state)) is;
  shown_is = λ env holds a state.
      ap (λ b. if b then shown env (not holds) a state else shown_value holds
      (value_in env (terms.Bin operators.Ceq a (terms.Const n)) state)) is;
})

pub negation_or_value : (op : BinOp) (b : Term) → IsNegation op b ⊎ IsReadByValue op b
unfolding assumed shown
negation_or_value operators.Ceq (terms.Const n) = constant_read n (int_eq n (pos 0)) refl
negation_or_value operators.Ceq _ =
    inr (record { assumed_is = λ env holds a state. refl; shown_is = λ env holds a state. refl })
negation_or_value _ b = inr (record { assumed_is = λ env holds a state. refl; shown_is = λ env holds a state. refl })

pub negation_assumed : (env : TreeEnv) (holds : Bool) (op : BinOp) (a b : Term) (state : State) → IsNegation op b
    → assumed env holds (terms.Bin op a b) state ≡ assumed env (not holds) a state
unfolding assumed
negation_assumed env holds op a b state is =
    subst (λ o. assumed env holds (terms.Bin o a b) state ≡ assumed env (not holds) a state) (sym is.op_is)
    (subst (λ t. assumed env holds (terms.Bin operators.Ceq a t) state ≡ assumed env (not holds) a state)
    (sym is.zero_is) refl)

pub negation_shown : (env : TreeEnv) (holds : Bool) (op : BinOp) (a b : Term) (state : State) → IsNegation op b
    → shown env holds (terms.Bin op a b) state ≡ shown env (not holds) a state
unfolding shown
negation_shown env holds op a b state is =
    subst (λ o. shown env holds (terms.Bin o a b) state ≡ shown env (not holds) a state) (sym is.op_is)
    (subst (λ t. shown env holds (terms.Bin operators.Ceq a t) state ≡ shown env (not holds) a state) (sym is.zero_is)
    refl)

-- What is compared with 0 as a number is one.
compared_int : (kind : Kind) → pushes_comparison comparisons.Eq kind kinds.Int ≡ true → is_tested kind ≡ true
compared_int kinds.Int is = refl
compared_int kinds.Native is = refl
compared_int _ is = absurd (false≢true is)

pub negated_test : (args : List Place) (result : Place) (op : BinOp) (a b : Term) (kind : Kind) → IsNegation op b
    → IsTyped args result Now (terms.Bin op a b) kind → IsTest args result a
negated_test args result op a b kind is typed =
    let below = operator_typed args result Now operators.Ceq a (terms.Const (pos 0)) kind
    (subst (λ o. IsTyped args result Now (terms.Bin o a (terms.Const (pos 0))) kind) is.op_is
    (subst (λ t. IsTyped args result Now (terms.Bin op a t) kind) is.zero_is typed)) in
    record {
      kind = below.left;
      typed = below.first;
      tested = compared_int below.left
          (subst (λ k. pushes_comparison comparisons.Eq below.left k ≡ true)
          (sym (same_Some kinds.Int below.right below.second.kind_is)) below.takes);
    }

-- ---- forms

top_same : (x after : StateFacts) (kind : Kind) (holds : Bool) → HasForm x → IsPushed x kind after
    → HasSameFormsIn x (assumed_top holds after)
top_same x after kind holds form is =
    subst (λ o. HasSameFormsIn x (option_and_then (λ v. true_known holds v (popped after)) o))
    (sym (top_is x after kind is))
    (by (true_known holds is.top (popped after))
    (true_follows holds is.top (popped after) (popped_below x after kind is).grown.form
    (popped_below x after kind is).there))
  where
    by : (o : State) → StaysThereIn (popped after) o → HasSameFormsIn x o
    by None stays = tt
    by (Some y) stays =
        grown_same x y form (grown_on x (popped after) y (popped_below x after kind is).grown
        (stays_grown (popped after) y stays))
        (stays.variables ∙ (popped_below x after kind is).variables_are)

module _ (env : TreeEnv) (args : List Place) (result : Place) where
  value_same : (t : Term) (holds : Bool) (known : StateFacts) (o : State) → IsReadable env args result known
      → HasSameFormsIn known o
      → IsTest args result t → HasSameFormsIn known (assumed_value holds (value_in env t o))
  value_same t holds known None readable same test = tt
  value_same t holds known (Some x) readable same test =
      same_forms_on known x (assumed_value holds (value env Now t x)) same
      (by (value env Now t x).state
      (value_pushed env args result t Now test.kind x (readable_same env args result known x same readable) test.typed))
    where
      by : (p : State) → IsPushedIn x test.kind p → HasSameFormsIn x (option_and_then (assumed_top holds) p)
      by None is = tt
      by (Some after) is = top_same x after test.kind holds same.form is

  negated_same : (op : BinOp) (a b : Term) (holds : Bool) (known : StateFacts) (o : State)
      → IsReadable env args result known
      → HasSameFormsIn known o → IsTest args result (terms.Bin op a b)
      → (IsTest args result a → HasSameFormsIn known (assumed env (not holds) a o))
      → HasSameFormsIn known (assumed env holds (terms.Bin op a b) o)
  negated_same op a b holds known o readable same test rest = elim (negation_or_value op b) [
    | inl is ↦
        subst (HasSameFormsIn known) (sym (negation_assumed env holds op a b o is))
        (rest (negated_test args result op a b test.kind is test.typed))
    | inr is ↦
        subst (HasSameFormsIn known) (sym (is.assumed_is env holds a o))
        (value_same (terms.Bin op a b) holds known o readable same test)
  ]

  pub branch_test : (c a b : Term) → IsTest args result (terms.Cond c a b)
      → IsTest args result c × IsTest args result a × IsTest args result b
  branch_test c a b test =
      let below = branches_typed args result Now c a b test.kind test.typed in (
        record { kind = below.test; typed = below.test_typed; tested = below.tested },
        record {
          kind = below.left;
          typed = below.first;
          tested = left_tested below.left below.right test.kind
              below.merged test.tested;
        },
        record {
          kind = below.right;
          typed = below.second;
          tested = left_tested below.right below.left test.kind
              (merged_swaps below.left below.right test.kind below.merged) test.tested;
        },
      )
    where
      left_tested : (l r k : Kind) → merged_kind l r ≡ Some k → is_tested k ≡ true → is_tested l ≡ true
      left_tested l r k is =
          merged_cases (λ l r k. is_tested k ≡ true → is_tested l ≡ true) (λ k so. so) (λ so. so) (λ so. so)
          (λ so. refl) (λ so. refl) l r k is

  pub assumed_same : (t : Term) (holds : Bool) (known : StateFacts) (o : State) → IsReadable env args result known
      → HasSameFormsIn known o
      → IsTest args result t → HasSameFormsIn known (assumed env holds t o)
  unfolding assumed
  assumed_same (terms.Cond c a b) holds known o readable same test =
      let (of_test, of_first, of_second) = branch_test c a b test in
      join_same known (assumed env holds a (assumed env true c o)) (assumed env holds b (assumed env false c o))
      (assumed_same a holds known (assumed env true c o) readable (assumed_same c true known o readable same of_test)
      of_first)
      (assumed_same b holds known (assumed env false c o) readable (assumed_same c false known o readable same of_test)
      of_second)
  assumed_same (terms.Bin op a b) holds known o readable same test =
      negated_same op a b holds known o readable same test
      (λ of_first. assumed_same a (not holds) known o readable same of_first)
  assumed_same (terms.Const n) holds known o readable same test =
      value_same (terms.Const n) holds known o readable same test
  assumed_same (terms.Arg n) holds known o readable same test =
      value_same (terms.Arg n) holds known o readable same test
  assumed_same terms.Null holds known o readable same test = value_same terms.Null holds known o readable same test
  assumed_same terms.Result holds known o readable same test = value_same terms.Result holds known o readable same test
  assumed_same (terms.Len a) holds known o readable same test =
      value_same (terms.Len a) holds known o readable same test
  assumed_same (terms.Elem place a b) holds known o readable same test =
      value_same (terms.Elem place a b) holds known o readable same test
  assumed_same (terms.Un op a) holds known o readable same test =
      value_same (terms.Un op a) holds known o readable same test
  assumed_same (terms.Old a) holds known o readable same test =
      value_same (terms.Old a) holds known o readable same test
