-- Where a tree has a value, the state behind it holds with that value on top, by a choice that is as before for what
-- was there.
use Rattle.std.proofs.Common.{◌≡◌, ℕ, zero, suc, ◌+◌, ℤ, Bool, true, false, List, [], ◌∷◌, ◌++◌, slice_get, Option, Some, None, refl, ap, subst, sym, ◌∙◌}
use Rattle.std.specs.List.{AllByRecursion}
use Rattle.std.specs.Option.{option_and_then}
use Rattle.std.proofs.lemmas.Option.{none-some, same_Some}
use Rattle.cil_model.specs.Clauses.{Reading, binary_value, chosen, element_value, length_value, unary_value, value_of}
use Rattle.cil_model.specs.Comparisons.{is_true}
use Rattle.cil_model.specs.FitKinds.{FitsKind}
use Rattle.cil_model.specs.Terms as terms
use Rattle.cil_model.specs.Terms.{Term}
use Rattle.cil_model.specs.Values.{Heap, IsValue}
use Rattle.cil_model.specs.declared.machine.Value.{Value}
use Rattle.cil_model.specs.declared.machine.Value.TheVariants as values
use Rattle.cil_model.specs.declared.place.Kind.{Kind}
use Rattle.cil_model.specs.declared.place.Kind.TheVariants as kinds
use Rattle.cil_model.specs.declared.place.Place.{Place}
use Rattle.frame_names.specs.declared.var.Var.{Var}
use Rattle.frame_names.specs.declared.var.Var.TheVariants as vars
use Rattle.number_spans.specs.Constants.{constant}
use Rattle.number_facts.proofs.Knowing.{constant_worth}
use Rattle.state_facts.specs.Holds.{HasValue, HaveValues, HoldsBy}
use Rattle.state_facts.specs.Keeps.{HoldsOn}
use Rattle.state_facts.specs.StateFacts.{StateFacts}
use Rattle.state_facts.proofs.MovesHold.{push_keeps}
use Rattle.clause_trees.specs.Meaning.{IsTyped, KeepsValue, PushesOne, Reads, ReadsResult, reading_at}
use Rattle.clause_trees.specs.TreeValues.{given, value, variable, with_one}
use Rattle.clause_trees.specs.VariableKinds.{IsReadable}
use Rattle.clause_trees.specs.declared.reader.Time.{Time}
use Rattle.clause_trees.specs.declared.reader.Time.TheVariants.{Now, Entry}
use Rattle.clause_trees.specs.declared.reader.TreeEnv.{TreeEnv}
use Rattle.clause_trees.proofs.KeptConditions.{condition_kept}
use Rattle.clause_trees.proofs.KeptNodes.{binary_node, element_node, length_node, unary_node}
use Rattle.clause_trees.proofs.KeptSteps.{comes, held_so, one_kept, two_kept}
use Rattle.clause_trees.proofs.PushedTrees.{below_readable, stays_readable, value_pushed}
use Rattle.clause_trees.proofs.Stays.{pushed_readable}
use Rattle.clause_trees.proofs.Typing.{branches_typed, element_typed, length_typed, old_typed, operator_typed, tree_kind, unary_typed}
use Rattle.clause_trees.proofs.ValueKinds.{args_at, both_tells, element_tells, heap_at, kept_from, kind_is_value, kind_kept, old_at, one_tells, result_at, value_fits}

-- ---- leaves

-- What a variable has is the value that stands at its index.
found_value : (number : ℕ → ℤ) (array : ℕ → Option ℕ) (vs : List Var) (xs : List Value) (i : ℕ) (x : Value)
    → HaveValues number array vs xs
    → slice_get xs i ≡ Some x → (v : Var) × (slice_get vs i ≡ Some v) × HasValue number array v x
found_value number array [] [] i x have is = absurd (none-some x is)
found_value number array [] (y ∷ xs) i x have is = elim have [ ]
found_value number array (v ∷ vs) [] i x have is = elim have [ ]
found_value number array (v ∷ vs) (y ∷ xs) zero x have is =
    (v, refl, subst (HasValue number array v) (same_Some y x is) have.0)
found_value number array (v ∷ vs) (y ∷ xs) (suc i) x have is = found_value number array vs xs i x have.1 is

given_kept : (known : StateFacts) (v : Var) (is : Value) (vs : List Value) (heap : Heap) (number : ℕ → ℤ)
    (array : ℕ → Option ℕ)
    → HoldsBy known vs heap number array → HasValue number array v is
    → HoldsOn (Some known) (given v known).state (vs ++ is ∷ []) heap number array
given_kept known v is vs heap number array holds has =
    held_so known _ (vs ++ is ∷ []) heap number array (push_keeps v (Some known) vs heap number array is holds has)

variable_kept : (known : StateFacts) (i : ℕ) (is : Value) (vs : List Value) (heap : Heap) (number : ℕ → ℤ)
    (array : ℕ → Option ℕ)
    → HoldsBy known vs heap number array → slice_get vs i ≡ Some is
    → HoldsOn (Some known) (variable (Some i) known).state (vs ++ is ∷ []) heap number array
variable_kept known i is vs heap number array holds at =
    let (v, found, has) = found_value number array known.variables vs i is holds.variables at in
    subst (λ o. HoldsOn (Some known) (with_one given o known).state (vs ++ is ∷ []) heap number array) (sym found)
    (given_kept known v is vs heap number array holds has)

-- ---- readings of more values

appended_at : (xs : List Value) (y : Value) (i : ℕ) (x : Value) → slice_get xs i ≡ Some x
    → slice_get (xs ++ y ∷ []) i ≡ Some x
appended_at [] y i x is = absurd (none-some x is)
appended_at (z ∷ xs) y zero x is = is
appended_at (z ∷ xs) y (suc i) x is = appended_at xs y i x is

all_and_one : {X : Type 0} (P : X → Type 0) (xs : List X) (x : X) → AllByRecursion P xs → P x
    → AllByRecursion P (xs ++ x ∷ [])
all_and_one P [] x all is = (is, tt)
all_and_one P (y ∷ xs) x all is = (all.0, all_and_one P xs x all.1 is)

result_read : (vs : List Value) (x : Value) (o : Option ℕ) (p : Option Value) → ReadsResult vs o p
    → ReadsResult (vs ++ x ∷ []) o p
result_read vs x None None reads = tt
result_read vs x None (Some v) reads = elim reads [ ]
result_read vs x (Some i) None reads = elim reads [ ]
result_read vs x (Some i) (Some v) reads = appended_at vs x i v reads

-- A reading goes on where a value of the machine is pushed.
pub reads_on : (env : TreeEnv) (args : List Place) (result : Place) (vs : List Value) (heap : Heap) (r : Reading)
    (x : Value)
    → Reads env args result vs heap r → IsValue heap x → Reads env args result (vs ++ x ∷ []) heap r
reads_on env args result vs heap r x reads is = record {
  heap_is = reads.heap_is;
  args_are = λ n v found. appended_at vs x (env.args + n) v (reads.args_are n v found);
  result_is = result_read vs x env.result r.result reads.result_is;
  fit = reads.fit;
  result_fits = reads.result_fits;
  is_heap = reads.is_heap;
  is_entry = reads.is_entry;
  kept = reads.kept;
  are_values = all_and_one (IsValue heap) vs x reads.are_values is;
}

-- ---- trees

module _ (env : TreeEnv) (args : List Place) (result : Place) (heap : Heap) (r : Reading) where
  now_is : (vs : List Value) → Reads env args result vs heap r → (time : Time) → time ≡ Now
      → (reading_at time r).heap ≡ heap
  now_is vs reads Now same = reads.heap_is
  now_is vs reads Entry same = absurd cc

  -- Over the heap that is there now, a value of a tree is one of its kind.
  pub fits_now : (vs : List Value) → Reads env args result vs heap r → (t : Term) (time : Time) (kind : Kind)
      (is : Value)
      → IsTyped args result time t kind → value_of t (reading_at time r) ≡ Some is → FitsKind heap kind is
  fits_now vs reads t time kind is typed gives =
      kind_kept (reading_at time r).heap heap kind is (kept_from env args result vs heap r reads time)
      (value_fits env args result vs heap r reads t time kind is typed gives)

  read_result : (known : StateFacts) (is : Value) (vs : List Value) (number : ℕ → ℤ) (array : ℕ → Option ℕ)
      (o : Option ℕ) (p : Option Value)
      → HoldsBy known vs heap number array → ReadsResult vs o p → p ≡ Some is
      → HoldsOn (Some known) (variable o known).state (vs ++ is ∷ []) heap number array
  read_result known is vs number array None None holds reads gives = absurd (none-some is gives)
  read_result known is vs number array None (Some v) holds reads gives = elim reads [ ]
  read_result known is vs number array (Some i) None holds reads gives = elim reads [ ]
  read_result known is vs number array (Some i) (Some v) holds reads gives =
      variable_kept known i is vs heap number array holds (reads ∙ gives)

  -- What the test of a condition was, where the condition has a value.
  test_tells : (o : Option Value) (p q : Option Value) (is : Value) → chosen (option_and_then is_true o) p q ≡ Some is
      → (x : Value) × (so : Bool) × (o ≡ Some x) × (is_true x ≡ Some so) × (so ≡ true → p ≡ Some is) ×
      (so ≡ false → q ≡ Some is)
  test_tells None p q is gives = absurd (none-some is gives)
  test_tells (Some x) p q is gives = by (is_true x) refl gives
    where
      by : (t : Option Bool) → is_true x ≡ t → chosen t p q ≡ Some is
          → (y : Value) × (so : Bool) × (Some x ≡ Some y) × (is_true y ≡ Some so) × (so ≡ true → p ≡ Some is) ×
          (so ≡ false → q ≡ Some is)
      by None found gives = absurd (none-some is gives)
      by (Some true) found gives = (x, true, refl, found, (λ same. gives), (λ same. absurd cc))
      by (Some false) found gives = (x, false, refl, found, (λ same. absurd cc), (λ same. gives))

  pub value_kept : (t : Term) (time : Time) (kind : Kind) (known : StateFacts) (vs : List Value) (number : ℕ → ℤ)
      (array : ℕ → Option ℕ)
      (is : Value) → IsReadable env args result known → IsTyped args result time t kind
      → Reads env args result vs heap r
      → HoldsBy known vs heap number array → value_of t (reading_at time r) ≡ Some is
      → HoldsOn (Some known) (value env time t known).state (vs ++ is ∷ []) heap number array
  unfolding value value_of
  value_kept (terms.Const n) time kind known vs number array is readable typed reads holds gives =
      given_kept known (vars.Number (constant n)) is vs heap number array holds
      (subst (HasValue number array (vars.Number (constant n))) (same_Some (values.Int n) is gives)
      (ap Some (sym (constant_worth known.facts number (constant n) holds.facts.allowed refl))))
  value_kept (terms.Arg n) time kind known vs number array is readable typed reads holds gives =
      variable_kept known (env.args + n) is vs heap number array holds
      (reads.args_are n is (ap (λ l. slice_get l n) (sym (args_at time r)) ∙ gives))
  value_kept terms.Null time kind known vs number array is readable typed reads holds gives =
      given_kept known (vars.Reference 0) is vs heap number array holds
      (subst (HasValue number array (vars.Reference 0)) (same_Some values.Null is gives) (ap Some (sym holds.null)))
  value_kept terms.Result time kind known vs number array is readable typed reads holds gives =
      read_result known is vs number array env.result r.result holds reads.result_is (sym (result_at time r) ∙ gives)
  value_kept (terms.Len a) time kind known vs number array is readable typed reads holds gives =
      let below = length_typed args result time a kind typed in
      let one = one_tells (value_of a (reading_at time r)) (length_value (reading_at time r).heap) is gives in
      one_kept known below.array (value env time a known).state _ vs one.inner (vs ++ is ∷ []) heap number array
      (comes known below.array (value env time a known).state (vs ++ one.inner ∷ []) heap number array
      (value_pushed env args result a time below.array known readable below.typed)
      (value_kept a time below.array known vs number array one.inner readable below.typed reads holds one.inner_is))
      (λ v x later later_array lies still has.
      length_node (reading_at time r).heap heap (kept_from env args result vs heap r reads time) reads.is_heap x v
      one.inner is vs later
      later_array lies.grown.form lies.there still has one.gives)
  value_kept (terms.Elem place a b) time kind known vs number array is readable typed reads holds gives =
      let below = element_typed args result time place a b kind typed in
      let over = (reading_at time r).heap in
      let two = both_tells (value_of a (reading_at time r)) (value_of b (reading_at time r)) (element_value over place)
      is gives in
      let value_one = kind_is_value heap below.array two.first
      (fits_now vs reads a time below.array two.first below.first two.first_is) in
      let value_two = kind_is_value heap kinds.Int two.second
      (fits_now vs reads b time kinds.Int two.second below.second two.second_is) in
      let first = comes known below.array (value env time a known).state (vs ++ two.first ∷ []) heap number array
      (value_pushed env args result a time below.array known readable below.first)
      (value_kept a time below.array known vs number array two.first readable below.first reads holds two.first_is) in
      let here = pushed_readable env args result known first.after below.array first.pushed readable in
      let second = comes first.after kinds.Int (value env time b first.after).state
      ((vs ++ two.first ∷ []) ++ two.second ∷ []) heap first.later
      first.later_array
      (value_pushed env args result b time kinds.Int first.after here below.second)
      (value_kept b time kinds.Int first.after (vs ++ two.first ∷ []) first.later first.later_array two.second here
      below.second
      (reads_on env args result vs heap r two.first reads value_one) first.holds two.second_is) in
      two_kept known below.array kinds.Int (value env time a known).state (value env time b) _ vs two.first two.second
      (vs ++ is ∷ []) heap
      number array first second
      (λ v w x later later_array lies still has other.
      element_node over heap (kept_from env args result vs heap r reads time) reads.is_heap
      (heap_at env args result vs heap r reads time) time
      (now_is vs reads time) x place v w two.first two.second is vs later later_array
      (element_tells over place two.first two.second is two.gives) lies.lower.grown.form lies.lower.there lies.there
      value_two still has other)
  value_kept (terms.Bin op a b) time kind known vs number array is readable typed reads holds gives =
      let below = operator_typed args result time op a b kind typed in
      let two = both_tells (value_of a (reading_at time r)) (value_of b (reading_at time r)) (binary_value op) is
      gives in
      let value_one = kind_is_value heap below.left two.first
      (fits_now vs reads a time below.left two.first below.first two.first_is) in
      let value_two = kind_is_value heap below.right two.second
      (fits_now vs reads b time below.right two.second below.second two.second_is) in
      let first = comes known below.left (value env time a known).state (vs ++ two.first ∷ []) heap number array
      (value_pushed env args result a time below.left known readable below.first)
      (value_kept a time below.left known vs number array two.first readable below.first reads holds two.first_is) in
      let here = pushed_readable env args result known first.after below.left first.pushed readable in
      let second = comes first.after below.right (value env time b first.after).state
      ((vs ++ two.first ∷ []) ++ two.second ∷ []) heap first.later
      first.later_array
      (value_pushed env args result b time below.right first.after here below.second)
      (value_kept b time below.right first.after (vs ++ two.first ∷ []) first.later first.later_array two.second here
      below.second
      (reads_on env args result vs heap r two.first reads value_one) first.holds two.second_is) in
      two_kept known below.left below.right (value env time a known).state (value env time b) _ vs two.first two.second
      (vs ++ is ∷ []) heap
      number array first second
      (λ v w x later later_array lies still has other.
      binary_node heap reads.is_heap x op v w two.first two.second is vs later later_array lies.lower.grown.form
      lies.lower.there lies.there
      value_one value_two still has other two.gives)
  value_kept (terms.Un op a) time kind known vs number array is readable typed reads holds gives =
      let below = unary_typed args result time op a kind typed in
      let one = one_tells (value_of a (reading_at time r)) (unary_value op) is gives in
      let value_one = kind_is_value heap kinds.Int one.inner
      (fits_now vs reads a time kinds.Int one.inner below.typed one.inner_is) in
      one_kept known kinds.Int (value env time a known).state _ vs one.inner (vs ++ is ∷ []) heap number array
      (comes known kinds.Int (value env time a known).state (vs ++ one.inner ∷ []) heap number array
      (value_pushed env args result a time kinds.Int known readable below.typed)
      (value_kept a time kinds.Int known vs number array one.inner readable below.typed reads holds one.inner_is))
      (λ v x later later_array lies still has.
      unary_node heap reads.is_heap x op v one.inner is vs later later_array lies.grown.form lies.there value_one still
      has one.gives)
  value_kept (terms.Old a) time kind known vs number array is readable typed reads holds gives =
      value_kept a Entry kind known vs number array is readable (old_typed args result time a kind typed).1 reads holds
      (sym (old_at time r a) ∙ gives)
  value_kept (terms.Cond c a b) time kind known vs number array is readable typed reads holds gives =
      let below = branches_typed args result time c a b kind typed in
      let (x, so, found, truth, one, two) = test_tells (value_of c (reading_at time r)) (value_of a (reading_at time r))
      (value_of b (reading_at time r)) is gives in
      let value_one = kind_is_value heap below.test x (fits_now vs reads c time below.test x below.test_typed found) in
      one_kept known below.test (value env time c known).state _ vs x (vs ++ is ∷ []) heap number array
      (comes known below.test (value env time c known).state (vs ++ x ∷ []) heap number array
      (value_pushed env args result c time below.test known readable below.test_typed)
      (value_kept c time below.test known vs number array x readable below.test_typed reads holds found))
      (λ v y later later_array lies still has.
      let here = below_readable env args result known y below.test v readable lies in
      condition_kept y below.left below.right kind (value env time a) (value env time b) v so x is vs heap later
      later_array lies.grown.form
      lies.there reads.is_heap value_one still has truth below.merged
      (tree_kind args result a time below.left below.first) (tree_kind args result b time below.right below.second)
      (λ z stays. value_pushed env args result a time below.left z (stays_readable env args result y z here stays)
      below.first)
      (λ z stays. value_pushed env args result b time below.right z (stays_readable env args result y z here stays)
      below.second)
      (λ same. (
        fits_now vs reads a time below.left is below.first (one same),
        λ z stays holding. value_kept a time below.left z vs later later_array is
            (stays_readable env args result y z here stays) below.first reads
            holding (one same),
      ))
      (λ same. (
        fits_now vs reads b time below.right is below.second (two same),
        λ z stays holding. value_kept b time below.right z vs later later_array is
            (stays_readable env args result y z here stays) below.second reads
            holding (two same),
      )))

-- ---- what is said of them

pub value_pushes : (env : TreeEnv) (time : Time) (t : Term) (known : StateFacts) → PushesOne env time t known
value_pushes env time t known =
    λ args result kind readable typed. value_pushed env args result t time kind known readable typed

pub value_keeps : (env : TreeEnv) (time : Time) (t : Term) (known : StateFacts) → KeepsValue env time t known
value_keeps env time t known = λ args result kind vs heap number array r is readable typed reads holds gives.
    value_kept env args result heap r t time kind known vs number array is readable typed reads holds gives
