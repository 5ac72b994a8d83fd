-- What is shown is so.
use Rattle.std.proofs.Common.{◌≡◌, inl, inr, ℕ, ℤ, pos, ◌≤ℤ◌, int_eq, Bool, true, false, not, ◌&&◌, List, [], ◌∷◌, ◌++◌, Option, Some, None, if◌then◌else◌, refl, ap, subst, sym, ◌∙◌, arith}
use Rattle.std.specs.Option.{option_and_then}
use Rattle.std.proofs.lemmas.Bool.{and_parts, false≢true}
use Rattle.std.proofs.lemmas.Int.{ints}
use Rattle.std.proofs.lemmas.Option.{same_Some}
use Rattle.cil_model.specs.Clauses.{Reading, binary_value, both, chosen, is_number_true, value_of}
use Rattle.cil_model.specs.Comparisons.{is_true}
use Rattle.cil_model.specs.FitKinds.{FitsKind}
use Rattle.cil_model.specs.Kinds.{is_tested, pushes_comparison}
use Rattle.cil_model.specs.Passes.{merged_kind}
use Rattle.cil_model.specs.Terms as terms
use Rattle.cil_model.specs.Terms.{Term}
use Rattle.cil_model.specs.Values.{Heap}
use Rattle.cil_model.specs.declared.instruction.BinOp.{BinOp}
use Rattle.cil_model.specs.declared.instruction.BinOp.TheVariants as operators
use Rattle.cil_model.specs.declared.instruction.CmpOp.TheVariants as comparisons
use Rattle.cil_model.specs.declared.machine.Value.{Value}
use Rattle.cil_model.specs.declared.machine.Value.TheVariants as values
use Rattle.cil_model.specs.declared.place.Kind.{Kind}
use Rattle.cil_model.specs.declared.place.Kind.TheVariants as kinds
use Rattle.cil_model.specs.declared.place.Place.{Place}
use Rattle.cil_model.proofs.KindValues.{tested}
use Rattle.domain_api.specs.declared.expr.Expr.{Expr}
use Rattle.frame_names.specs.declared.var.Var.{Var}
use Rattle.frame_names.specs.declared.var.Var.TheVariants as vars
use Rattle.merged_states.specs.Following.{HoldsOver}
use Rattle.number_facts.specs.Ends.{range_of}
use Rattle.number_facts.proofs.Knowing.{range_has}
use Rattle.number_spans.specs.Spans.{Has}
use Rattle.number_spans.proofs.ComparingLaws.{excluded_apart}
use Rattle.symbolic_values.specs.Worth.{worth}
use Rattle.state_facts.specs.Forms.{HasVar}
use Rattle.state_facts.specs.Holds.{HasValue, HoldsBy}
use Rattle.state_facts.specs.StateFacts.{StateFacts, State}
use Rattle.clause_trees.specs.ClauseStates.{assumed, is_known, is_top_known, shown, shown_value, value_in}
use Rattle.clause_trees.specs.Meaning.{IsSo, IsTest, IsTyped, Reads, ShowsIt}
use Rattle.clause_trees.specs.TreeValues.{value}
use Rattle.clause_trees.specs.VariableKinds.{HasSameFormsIn, IsOfKind, IsReadable}
use Rattle.clause_trees.specs.declared.reader.Time.TheVariants.{Now}
use Rattle.clause_trees.specs.declared.reader.TreeEnv.{TreeEnv}
use Rattle.clause_trees.proofs.AssumedKept.{assumed_kept, itself_same}
use Rattle.clause_trees.proofs.AssumedTrees.{IsNegation, assumed_same, negation_or_value, negation_shown}
use Rattle.clause_trees.proofs.EntailedValues.{form_is, value_there}
use Rattle.clause_trees.proofs.KeptSteps.{comes, top_value}
use Rattle.clause_trees.proofs.KeptTrees.{fits_now, value_kept}
use Rattle.clause_trees.proofs.PushedTrees.{value_pushed}
use Rattle.clause_trees.proofs.SameForms.{readable_same}
use Rattle.clause_trees.proofs.Stays.{pushed_there, top_is}
use Rattle.clause_trees.proofs.Typing.{branches_typed, merged_cases, operator_typed, tree_kind}

-- ---- kinds

merged_int : (a b : Kind) → merged_kind a b ≡ Some kinds.Int → (a ≡ kinds.Int) × (b ≡ kinds.Int)
merged_int a b is =
    merged_cases (λ a b kind. kind ≡ kinds.Int → (a ≡ kinds.Int) × (b ≡ kinds.Int)) (λ k same. (same, same))
    (λ same. absurd cc) (λ same. absurd cc) (λ same. absurd cc) (λ same. absurd cc) a b kinds.Int is refl

compared_kind : (args : List Place) (result : Place) (a : Term) (kind : Kind) → IsTyped args result Now a kind
    → pushes_comparison comparisons.Eq kind kinds.Int ≡ true → kind ≡ kinds.Int
compared_kind args result a kinds.Int typed is = refl
compared_kind args result a kinds.Native typed is =
    absurd (false≢true (tree_kind args result a Now kinds.Native typed))
compared_kind args result a _ typed is = absurd (false≢true is)

negated_typed : (args : List Place) (result : Place) (op : BinOp) (a b : Term) (kind : Kind) → IsNegation op b
    → IsTyped args result Now (terms.Bin op a b) kind → IsTyped args result Now a kinds.Int
negated_typed args result op a b kind is typed =
    let below = operator_typed args result Now operators.Ceq a (terms.Const (pos 0)) kind
    (subst (λ o. IsTyped args result Now (terms.Bin o a (terms.Const (pos 0))) kind) is.op_is
    (subst (λ t. IsTyped args result Now (terms.Bin op a t) kind) is.zero_is typed)) in
    subst (IsTyped args result Now a)
    (compared_kind args result a below.left below.first
    (subst (λ k. pushes_comparison comparisons.Eq below.left k ≡ true)
    (sym (same_Some kinds.Int below.right below.second.kind_is)) below.takes))
    below.first

-- ---- what is so

-- The same of values.
abbrev pub IsSoOf : Bool → Option Value → Type 0
IsSoOf true o = is_number_true o ≡ true
IsSoOf false o = o ≡ Some (values.Int (pos 0))

so_of : (holds : Bool) (t : Term) (r : Reading) → IsSoOf holds (value_of t r) → IsSo holds t r
so_of true t r so = so
so_of false t r so = so

of_so : (holds : Bool) (t : Term) (r : Reading) → IsSo holds t r → IsSoOf holds (value_of t r)
of_so true t r so = so
of_so false t r so = so

same_so : (holds : Bool) (o p : Option Value) → o ≡ p → IsSoOf holds p → IsSoOf holds o
same_so holds o p same so = subst (IsSoOf holds) (sym same) so

equal_zero : (n : ℤ) → (not (int_eq n (pos 0))) ≡ true → binary_value operators.Ceq (values.Int n)
    (values.Int (pos 0)) ≡ Some (values.Int (pos 0))
equal_zero n differs = by (int_eq n (pos 0)) differs refl
  where
    by : (b : Bool) → not b ≡ true → int_eq n (pos 0) ≡ b
        → binary_value operators.Ceq (values.Int n) (values.Int (pos 0)) ≡ Some (values.Int (pos 0))
    by true differs is = absurd (false≢true differs)
    by false differs is = ap (λ b. Some (values.Int (if b then pos 1 else pos 0))) is

negated_so : (holds : Bool) (o : Option Value) → IsSoOf (not holds) o
    → IsSoOf holds (both o (Some (values.Int (pos 0))) (binary_value operators.Ceq))
negated_so true o so = subst
    (λ p. is_number_true (both p (Some (values.Int (pos 0))) (binary_value operators.Ceq)) ≡ true) (sym so) refl
negated_so false (Some (values.Int n)) so = equal_zero n so
negated_so false _ so = absurd (false≢true so)

negation_so : (op : BinOp) (a b : Term) (r : Reading) (holds : Bool) → IsNegation op b → IsSo (not holds) a r
    → IsSo holds (terms.Bin op a b) r
unfolding value_of
negation_so op a b r holds is so =
    so_of holds (terms.Bin op a b) r
    (subst (λ o. IsSoOf holds (value_of (terms.Bin o a b) r)) (sym is.op_is)
    (subst (λ t. IsSoOf holds (value_of (terms.Bin operators.Ceq a t) r)) (sym is.zero_is)
    (negated_so holds (value_of a r) (of_so (not holds) a r so))))

-- ---- numbers that are known

known_so : (holds : Bool) (after : StateFacts) (e : Expr) (n : ℤ) → is_known holds after (Some (vars.Number e)) ≡ true
    → Has (range_of after.facts e) n
    → IsSoOf holds (Some (values.Int n))
known_so true after e n is has =
    differs (λ same. excluded_apart (range_of after.facts e) (pos 0) n has is (sym same))
  where
    differs : (n ≡ pos 0 → ⊥) → not (int_eq n (pos 0)) ≡ true
    differs apart = by (int_eq n (pos 0)) refl
      where
        by : (b : Bool) → int_eq n (pos 0) ≡ b → not b ≡ true
        by true is = absurd (apart (let same : n ≡ pos 0 = grind (arith, ints, is) in same))
        by false is = refl
known_so false after e n is has =
    let parts = and_parts (int_eq (range_of after.facts e).lo (pos 0)) (int_eq (range_of after.facts e).hi (pos 0))
    is in
    ap (λ m. Some (values.Int m))
    (between (range_of after.facts e).lo (range_of after.facts e).hi parts.0 parts.1 has.above has.below)
  where
    between : (lo hi : ℤ) → int_eq lo (pos 0) ≡ true → int_eq hi (pos 0) ≡ true → lo ≤ℤ n → n ≤ℤ hi → n ≡ pos 0
    between lo hi low high above below = grind (arith, ints, low, high, above, below)

top_so : (holds : Bool) (after : StateFacts) (v : Var) (x : Value) (ws : List Value) (heap : Heap) (number : ℕ → ℤ)
    (array : ℕ → Option ℕ)
    → HasVar after v → IsOfKind after kinds.Int v → FitsKind heap kinds.Int x → HoldsBy after ws heap number array
    → HasValue number array v x
    → is_known holds after (Some v) ≡ true → IsSoOf holds (Some x)
top_so holds after (vars.Number e) (values.Int n) ws heap number array there of_kind fits holding has is =
    known_so holds after e n is
    (subst (Has (range_of after.facts e)) (sym (same_Some n (worth number e) has))
    (range_has after.facts number e holding.facts.allowed there.there))
top_so holds after (vars.Number e) _ ws heap number array there of_kind fits holding has is = elim fits [ ]
top_so holds after _ x ws heap number array there of_kind fits holding has is = elim of_kind [ ]

-- ---- trees

module _ (env : TreeEnv) (args : List Place) (result : Place) (vs : List Value) (heap : Heap) (r : Reading)
    (reads : Reads env args result vs heap r) where
  value_so : (t : Term) (holds : Bool) (known : StateFacts) (o : State) → IsReadable env args result known
      → HasSameFormsIn known o
      → IsTyped args result Now t kinds.Int → HoldsOver o vs heap → shown_value holds (value_in env t o) ≡ true
      → IsSo holds t r
  value_so t holds known None readable same typed over is = elim over.holds [ ]
  value_so t holds known (Some x) readable same typed over is =
      let parts = and_parts (value env Now t x).entailed (is_top_known holds (value env Now t x).state) is in
      let here = readable_same env args result known x same readable in
      let (v, gives) = value_there env args result heap r t Now kinds.Int x vs over.number over.array here typed reads
      over.holds parts.0 in
      let first = comes x kinds.Int (value env Now t x).state (vs ++ v ∷ []) heap over.number over.array
      (value_pushed env args result t Now kinds.Int x here typed)
      (value_kept env args result heap r t Now kinds.Int x vs over.number over.array v here typed reads over.holds
      gives) in
      so_of holds t r
      (same_so holds (value_of t r) (Some v) gives
      (top_so holds first.after first.pushed.top v (vs ++ v ∷ []) heap first.later first.later_array
      (pushed_there x first.after kinds.Int first.pushed) first.pushed.of_kind
      (fits_now env args result heap r vs reads t Now kinds.Int v typed gives)
      first.holds (top_value x first.after kinds.Int vs v heap first.later first.later_array first.pushed first.holds)
      (subst (λ w. is_known holds first.after w ≡ true) (top_is x first.after kinds.Int first.pushed)
      (subst (λ s. is_top_known holds s ≡ true) first.state_is parts.1))))

  negated_shown : (op : BinOp) (a b : Term) (holds : Bool) (known : StateFacts) (o : State)
      → IsReadable env args result known
      → HasSameFormsIn known o → IsTyped args result Now (terms.Bin op a b) kinds.Int → HoldsOver o vs heap
      → shown env holds (terms.Bin op a b) o ≡ true
      → (IsTyped args result Now a kinds.Int → shown env (not holds) a o ≡ true → IsSo (not holds) a r)
      → IsSo holds (terms.Bin op a b) r
  negated_shown op a b holds known o readable same typed over is rest = elim (negation_or_value op b) [
    | inl negates ↦
        negation_so op a b r holds negates
        (rest (negated_typed args result op a b kinds.Int negates typed)
        (sym (negation_shown env holds op a b o negates) ∙ is))
    | inr by_value ↦
        value_so (terms.Bin op a b) holds known o readable same typed over (sym (by_value.shown_is env holds a o) ∙ is)
  ]

  -- What the test of a condition is, where its obligations are entailed.
  test_there : (c : Term) (kind : Kind) (known : StateFacts) (o : State) → IsReadable env args result known
      → HasSameFormsIn known o
      → IsTyped args result Now c kind → is_tested kind ≡ true → HoldsOver o vs heap
      → (value_in env c o).entailed ≡ true
      → (so : Bool) × (option_and_then is_true (value_of c r) ≡ Some so)
  test_there c kind known None readable same typed is over entailed = elim over.holds [ ]
  test_there c kind known (Some x) readable same typed is over entailed =
      let here = readable_same env args result known x same readable in
      let (v, gives) = value_there env args result heap r c Now kind x vs over.number over.array here typed reads
      over.holds entailed in
      let (so, truth_is) = tested heap kind v is
      (form_is heap kind v (fits_now env args result heap r vs reads c Now kind v typed gives)) in
      (so, ap (option_and_then is_true) gives ∙ truth_is)

  branch_so : (holds so : Bool) (p q : Option Value) → (so ≡ true → IsSoOf holds p) → (so ≡ false → IsSoOf holds q)
      → IsSoOf holds (chosen (Some so) p q)
  branch_so holds true p q one two = one refl
  branch_so holds false p q one two = two refl

  pub shown_so : (t : Term) (holds : Bool) (known : StateFacts) (o : State) → IsReadable env args result known
      → HasSameFormsIn known o
      → IsTyped args result Now t kinds.Int → HoldsOver o vs heap → shown env holds t o ≡ true → IsSo holds t r
  unfolding shown value_of
  shown_so (terms.Cond c a b) holds known o readable same typed over is =
      let below = branches_typed args result Now c a b kinds.Int typed in
      let ints = merged_int below.left below.right below.merged in
      let outer = and_parts (value_in env c o).entailed
      (shown env holds a (assumed env true c o) && shown env holds b (assumed env false c o)) is in
      let parts = and_parts (shown env holds a (assumed env true c o)) (shown env holds b (assumed env false c o))
      outer.1 in
      let of_test : IsTest args result c =
      record { kind = below.test; typed = below.test_typed; tested = below.tested } in
      let (so, taken) = test_there c below.test known o readable same below.test_typed below.tested over outer.0 in
      so_of holds (terms.Cond c a b) r
      (same_so holds (value_of (terms.Cond c a b) r) (chosen (Some so) (value_of a r) (value_of b r))
      (ap (λ w. chosen w (value_of a r) (value_of b r)) taken)
      (branch_so holds so (value_of a r) (value_of b r)
      (λ truth_is.
      of_so holds a r
      (shown_so a holds known (assumed env true c o) readable
      (assumed_same env args result c true known o readable same of_test)
      (subst (IsTyped args result Now a) ints.0 below.first)
      (assumed_kept env args result vs heap r reads c true known o readable same of_test over
      (taken ∙ ap Some truth_is)) parts.0))
      (λ truth_is.
      of_so holds b r
      (shown_so b holds known (assumed env false c o) readable
      (assumed_same env args result c false known o readable same of_test)
      (subst (IsTyped args result Now b) ints.1 below.second)
      (assumed_kept env args result vs heap r reads c false known o readable same of_test over
      (taken ∙ ap Some truth_is)) parts.1))))
  shown_so (terms.Bin op a b) holds known o readable same typed over is =
      negated_shown op a b holds known o readable same typed over is
      (λ of_first so. shown_so a (not holds) known o readable same of_first over so)
  shown_so (terms.Const n) holds known o readable same typed over is =
      value_so (terms.Const n) holds known o readable same typed over is
  shown_so (terms.Arg n) holds known o readable same typed over is =
      value_so (terms.Arg n) holds known o readable same typed over is
  shown_so terms.Null holds known o readable same typed over is =
      value_so terms.Null holds known o readable same typed over is
  shown_so terms.Result holds known o readable same typed over is =
      value_so terms.Result holds known o readable same typed over is
  shown_so (terms.Len a) holds known o readable same typed over is =
      value_so (terms.Len a) holds known o readable same typed over is
  shown_so (terms.Elem place a b) holds known o readable same typed over is =
      value_so (terms.Elem place a b) holds known o readable same typed over is
  shown_so (terms.Un op a) holds known o readable same typed over is =
      value_so (terms.Un op a) holds known o readable same typed over is
  shown_so (terms.Old a) holds known o readable same typed over is =
      value_so (terms.Old a) holds known o readable same typed over is

-- ---- what is said of them

pub shown_is_so : (env : TreeEnv) (holds : Bool) (t : Term) (state : State) → ShowsIt env holds t state
shown_is_so env holds t None = λ args result vs heap r readable typed reads over is. elim over.holds [ ]
shown_is_so env holds t (Some known) = λ args result vs heap r readable typed reads over is.
    let here = readable known refl in
    shown_so env args result vs heap r reads t holds known (Some known) here (itself_same known here.form) typed over is
