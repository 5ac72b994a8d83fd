-- Where all obligations inside a tree are entailed, it has a value.
use Rattle.std.proofs.Common.{◌≡◌, ℕ, zero, suc, ℤ, pos, ◌≤ℤ◌, ◌<ℤ◌, int_le, int_lt, unsigned_abs, Bool, true, false, ◌&&◌, List, [], ◌∷◌, ◌++◌, length, slice_get, Option, Some, None, if◌then◌else◌, FitsSigned, w32, Result, Ok, refl, ap, subst, sym, ◌∙◌, arith}
use Rattle.std.specs.Prelude.{IsSome, option_map}
use Rattle.std.specs.Option.{option_and_then, option_map_or}
use Rattle.std.proofs.lemmas.Bool.{and_parts, false≢true}
use Rattle.std.proofs.lemmas.Int.{ints}
use Rattle.std.proofs.lemmas.Option.{none-some, same_Some}
use Rattle.cil_model.specs.Arithmetic.{operated, truth}
use Rattle.cil_model.specs.Clauses.{Reading, both, chosen, faultless, item_in, value_of}
use Rattle.cil_model.specs.Clauses as clauses
use Rattle.cil_model.specs.Comparisons.{comparison_of, is_true}
use Rattle.cil_model.specs.FitKinds.{FitsKind}
use Rattle.cil_model.specs.Kinds.{is_array_of, is_reference, kind_of}
use Rattle.cil_model.specs.Terms as terms
use Rattle.cil_model.specs.Terms.{Term}
use Rattle.cil_model.specs.Values.{FitPlaces, Heap, IsHeap, KeepsForms, has_array, same_place}
use Rattle.cil_model.specs.declared.instruction.BinOp.{BinOp}
use Rattle.cil_model.specs.declared.instruction.CmpOp.{CmpOp}
use Rattle.cil_model.specs.declared.instruction.UnOp.{UnOp}
use Rattle.cil_model.specs.declared.machine.ArrayCell.{ArrayCell}
use Rattle.cil_model.specs.declared.machine.FaultKind.{FaultKind}
use Rattle.cil_model.specs.declared.machine.Value.{Value}
use Rattle.cil_model.specs.declared.machine.Value.TheVariants as values
use Rattle.cil_model.specs.declared.place.Kind.{Kind}
use Rattle.cil_model.specs.declared.place.Kind.TheVariants as kinds
use Rattle.cil_model.specs.declared.place.Place.{Place}
use Rattle.cil_model.specs.declared.place.Place.TheVariants as places
use Rattle.cil_model.proofs.KindForms as forms
use Rattle.cil_model.proofs.KindValues.{array_of, item_there, null_or_array, pushed_defined, tested}
use Rattle.domain_api.specs.declared.expr.Expr.{Expr}
use Rattle.frame_names.specs.declared.var.Var.{Var}
use Rattle.frame_names.specs.declared.var.Var.TheVariants as vars
use Rattle.symbolic_values.specs.Worth.{worth}
use Rattle.state_facts.specs.Forms.{HasForm, HasVar}
use Rattle.state_facts.specs.Holds.{HasValue, HoldsBy, HoldsIn, length_of_array}
use Rattle.state_facts.specs.Moves.{popped}
use Rattle.state_facts.specs.StateFacts.{StateFacts, State}
use Rattle.state_obligations.specs.Conditions.{conditions_of}
use Rattle.state_obligations.specs.Following.{StaysThere, StaysThereIn}
use Rattle.state_obligations.specs.declared.condition.Operation.TheVariants as operations
use Rattle.state_obligations.proofs.FaultLaws.{operated_where_met}
use Rattle.state_obligations.proofs.JudgedLaws.{judged_are_met}
use Rattle.clause_trees.specs.Meaning.{HasValueWhereEntailed, IsTyped, Reads, ReadsResult, reading_at}
use Rattle.clause_trees.specs.TreeValues.{Step, binary_value, branch, condition_value, element_value, from_top, in_state, length_value, on_one, on_two, true_known, value, variable, with_one, with_two}
use Rattle.clause_trees.specs.TreeValues as trees
use Rattle.clause_trees.specs.VariableKinds.{IsReadable}
use Rattle.clause_trees.specs.declared.reader.Time.{Time}
use Rattle.clause_trees.specs.declared.reader.Time.TheVariants.{Entry}
use Rattle.clause_trees.specs.declared.reader.TreeEnv.{TreeEnv}
use Rattle.clause_trees.proofs.KeptConditions.{true_kept}
use Rattle.clause_trees.proofs.KeptNodes.{operands_fit, same_length}
use Rattle.clause_trees.proofs.KeptSteps.{Comes, comes, popped_holds, top_value}
use Rattle.clause_trees.proofs.KeptTrees.{fits_now, reads_on, value_kept}
use Rattle.clause_trees.proofs.PushedTrees.{below_readable, stays_readable, true_follows, value_pushed}
use Rattle.clause_trees.proofs.PushedValues.{AreBelow, has_two, lower_is_top, lower_pushed, operands_there}
use Rattle.clause_trees.proofs.Stays.{IsBelow, popped_below, pushed_readable, top_is}
use Rattle.clause_trees.proofs.Typing.{Takes, branches_typed, element_typed, length_typed, old_typed, operator_typed, unary_typed}
use Rattle.clause_trees.proofs.ValueKinds.{args_at, kept_from, kind_is_value, old_at, result_at, value_fits}

abbrev pub HasOne : Option Value → Type 0
HasOne o = (is : Value) × (o ≡ Some is)

-- ---- steps with operands

abbrev pub EntailsOne : StateFacts → Kind → (Var → Step) → List Value → Value → Heap → Type 0 → Type 0
EntailsOne known kind step vs x heap P =
    (v : Var) (below : StateFacts) (number : ℕ → ℤ) (array : ℕ → Option ℕ)
    → IsBelow known kind v below → HoldsBy below vs heap number array → HasValue number array v x
    → (step v below).entailed ≡ true → P

one_entailed : (known : StateFacts) (kind : Kind) (o : State) (step : Var → Step) (vs : List Value) (x : Value)
    (heap : Heap)
    (number : ℕ → ℤ) (array : ℕ → Option ℕ) (P : Type 0) → Comes known kind o (vs ++ x ∷ []) heap number array
    → (in_state (on_one step) o).entailed ≡ true → EntailsOne known kind step vs x heap P → P
one_entailed known kind o step vs x heap number array P first entailed each =
    let is = first.pushed in
    let after = first.after in
    each is.top (popped after) first.later first.later_array (popped_below known after kind is)
    (popped_holds after vs x heap first.later first.later_array first.holds)
    (top_value known after kind vs x heap first.later first.later_array is first.holds)
    (subst (λ (t : Option Var). (with_one step t (popped after)).entailed ≡ true) (top_is known after kind is)
    (subst (λ s. (in_state (on_one step) s).entailed ≡ true) first.state_is entailed))

abbrev pub EntailsTwo : StateFacts → Kind → Kind → (Var → Var → Step) → List Value → Value → Value → Heap → Type 0
    → Type 0
EntailsTwo known first second step vs x y heap P =
    (v w : Var) (below : StateFacts) (number : ℕ → ℤ) (array : ℕ → Option ℕ)
    → AreBelow known first second v w below → HoldsBy below vs heap number array → HasValue number array v x
    → HasValue number array w y
    → (step v w below).entailed ≡ true → P

two_entailed : (known : StateFacts) (k l : Kind) (o : State) (inside : Step) (step : Var → Var → Step) (vs : List Value)
    (x y : Value)
    (heap : Heap) (number : ℕ → ℤ) (array : ℕ → Option ℕ) (P : Type 0)
    (first : Comes known k o (vs ++ x ∷ []) heap number array)
    → Comes first.after l (inside first.after).state ((vs ++ x ∷ []) ++ y ∷ []) heap first.later first.later_array
    → (in_state (on_two step) (in_state inside o).state).entailed ≡ true → EntailsTwo known k l step vs x y heap P → P
two_entailed known k l o inside step vs x y heap number array P first second entailed each =
    let is = first.pushed in
    let more = second.pushed in
    let after = second.after in
    let two = has_two known first.after after k l is more in
    let between = popped_holds after (vs ++ x ∷ []) y heap second.later second.later_array second.holds in
    each is.top more.top (popped (popped after)) second.later second.later_array two.below
    (popped_holds (popped after) vs x heap second.later second.later_array between)
    (subst (λ v. HasValue second.later second.later_array v x) (lower_is_top known first.after after k l is more)
    (top_value known (popped after) k vs x heap second.later second.later_array
    (lower_pushed known first.after after k l is more) between))
    (top_value first.after after l (vs ++ x ∷ []) y heap second.later second.later_array more second.holds)
    (subst (λ (t : Option Var). (with_two step (Some is.top) t (popped (popped after))).entailed ≡ true) two.upper_is
    (subst (λ (t : Option Var). (with_two step t (from_top 0 after) (popped (popped after))).entailed ≡ true)
    two.lower_is
    (subst (λ s. (in_state (on_two step) s).entailed ≡ true) second.state_is
    (subst (λ s. (in_state (on_two step) (in_state inside s).state).entailed ≡ true) first.state_is entailed))))

-- ---- nodes

pub form_is : (heap : Heap) (kind : Kind) (x : Value) → FitsKind heap kind x → forms.HasForm heap kind x
form_is heap kind x fits = (forms.forms_of heap (kind ∷ []) (x ∷ []) (fits, tt)).0

some_cell : (heap : Heap) (place : Place) (a : ℕ) → has_array heap place a ≡ true
    → (cell : ArrayCell) × (slice_get heap a ≡ Some cell) × (same_place cell.place place ≡ true)
some_cell heap place a has = by (slice_get heap a) refl has
  where
    by : (o : Option ArrayCell) → slice_get heap a ≡ o
        → option_map_or (λ (cell : ArrayCell). same_place cell.place place) o false ≡ true
        → (cell : ArrayCell) × (slice_get heap a ≡ Some cell) × (same_place cell.place place ≡ true)
    by None found has = absurd (false≢true has)
    by (Some cell) found has = (cell, found, has)

array_found : (heap : Heap) (kind : Kind) (a : ℕ) → FitsKind heap kind (values.Array a)
    → (cell : ArrayCell) × (slice_get heap a ≡ Some cell)
array_found heap kinds.Ints a fits = let (cell, found, same) = some_cell heap places.Ints a fits in (cell, found)
array_found heap kinds.Bools a fits = let (cell, found, same) = some_cell heap places.Bools a fits in (cell, found)
array_found heap _ a fits = absurd fits

length_has : (over heap : Heap) (known : StateFacts) (kind : Kind) (v : Var) (x : Value) (vs : List Value)
    (number : ℕ → ℤ)
    (array : ℕ → Option ℕ) → IsHeap heap → HasForm known → HasVar known v → HoldsBy known vs heap number array
    → HasValue number array v x
    → is_reference kind ≡ true → FitsKind over kind x → (length_value v known).entailed ≡ true
    → HasOne (clauses.length_value over x)
length_has over heap known kind (vars.Reference r) values.Null vs number array is_heap form there holds has reference
    fits entailed =
    let met = judged_are_met (conditions_of (operations.Length r)) known form (there, tt) entailed vs heap number array
    is_heap holds (tt, tt) in
    absurd (met.0 (sym (same_Some None (array r) has)))
length_has over heap known kind v (values.Array a) vs number array is_heap form there holds has reference fits
    entailed =
    let (cell, found) = array_found over kind a fits in
    (values.Int (pos (length cell.items)), ap (option_map (λ (c : ArrayCell). values.Int (pos (length c.items)))) found)
length_has over heap known kind v values.Null vs number array is_heap form there holds has reference fits entailed =
    absurd (false≢true entailed)
length_has over heap known kind v x vs number array is_heap form there holds has reference fits entailed =
    absurd (null_or_array over kind x reference (form_is over kind x fits))

item_has : (over : Heap) (place : Place) (a : ℕ) (n : ℤ) (cell : ArrayCell) → slice_get over a ≡ Some cell
    → same_place cell.place place ≡ true
    → pos 0 ≤ℤ n → n <ℤ pos (length cell.items)
    → HasOne (clauses.element_value over place (values.Array a) (values.Int n))
item_has over place a n cell found same above below =
    let not_below : int_lt n (pos 0) ≡ false = grind (arith, ints, above) in
    let not_above : int_le (pos (length cell.items)) n ≡ false = grind (arith, ints, below) in
    let (item, at) = item_there cell.items n not_below not_above in
    let low : int_le (pos 0) n ≡ true = grind (arith, ints, above) in (
      values.Int item,
      ap (option_and_then (item_in place n)) found
          ∙ ap
          (λ b. if b && int_le (pos 0) n then option_map values.Int (slice_get cell.items (unsigned_abs n)) else None)
          same
          ∙ ap (λ b. if b then option_map values.Int (slice_get cell.items (unsigned_abs n)) else None) low
          ∙ ap (option_map values.Int) at,
    )

module _ (over heap : Heap) (kept : KeepsForms over heap) (is_heap : IsHeap heap) where
  array_has : (known : StateFacts) (place : Place) (kind : Kind) (r : ℕ) (i : Expr) (x : Value) (n : ℤ) (time : Time)
      (vs : List Value)
      (number : ℕ → ℤ) (array : ℕ → Option ℕ) → HasForm known → HasVar known (vars.Reference r)
      → HasVar known (vars.Number i)
      → HoldsBy known vs heap number array → HasValue number array (vars.Reference r) x
      → HasValue number array (vars.Number i) (values.Int n)
      → FitsSigned w32 n → is_array_of place kind ≡ true → FitsKind over kind x
      → (element_value time place (vars.Reference r) (vars.Number i) known).entailed ≡ true
      → HasOne (clauses.element_value over place x (values.Int n))
  array_has known place kind r i values.Null n time vs number array form first second holds has other fits of_place
      fits_kind entailed =
      let index = same_Some n (worth number i) other in
      let int32 = subst (FitsSigned w32) index fits in
      let met = judged_are_met (conditions_of (operations.Element r i)) known form
      (first, (second, ((first, second), tt))) entailed vs heap number
      array is_heap holds (tt, (int32, (int32, tt))) in
      absurd (met.0 (sym (same_Some None (array r) has)))
  array_has known place kind r i (values.Array a) n time vs number array form first second holds has other fits of_place
      fits_kind entailed =
      let index = same_Some n (worth number i) other in
      let int32 = subst (FitsSigned w32) index fits in
      let met = judged_are_met (conditions_of (operations.Element r i)) known form
      (first, (second, ((first, second), tt))) entailed vs heap number
      array is_heap holds (tt, (int32, (int32, tt))) in
      let (cell, found, same) = some_cell over place a
      (array_of over place kind a of_place (form_is over kind (values.Array a) fits_kind)) in
      let long : length_of_array heap (array r) ≡ pos (length cell.items) =
      ap (length_of_array heap) (sym (same_Some (Some a) (array r) has)) ∙ ap (λ m. pos m)
      (same_length over heap kept is_heap a cell found) in
      item_has over place a n cell found same (subst (λ m. pos 0 ≤ℤ m) (sym index) met.1.0)
      (subst (λ m. m <ℤ pos (length cell.items)) (sym index) (subst (λ l. worth number i <ℤ l) long met.1.1.0))
  array_has known place kind r i _ n time vs number array form first second holds has other fits of_place fits_kind
      entailed =
      absurd (none-some _ has)

  element_has : (known : StateFacts) (place : Place) (kind : Kind) (v w : Var) (x y : Value) (time : Time)
      (vs : List Value)
      (number : ℕ → ℤ) (array : ℕ → Option ℕ) → HasForm known → HasVar known v → HasVar known w
      → HoldsBy known vs heap number array → HasValue number array v x → HasValue number array w y
      → is_array_of place kind ≡ true → FitsKind over kind x → FitsKind over kinds.Int y
      → (element_value time place v w known).entailed ≡ true → HasOne (clauses.element_value over place x y)
  element_has known place kind (vars.Reference r) (vars.Number i) x (values.Int n) time vs number array form first
      second holds has other of_place fits_kind fits entailed =
      array_has known place kind r i x n time vs number array form first second holds has other fits of_place fits_kind
      entailed
  element_has known place kind (vars.Reference r) (vars.Number i) x _ time vs number array form first second holds has
      other of_place fits_kind fits entailed =
      absurd fits
  element_has known place kind _ _ x y time vs number array form first second holds has other of_place fits_kind fits
      entailed =
      absurd (false≢true entailed)

-- ---- operators

int_of : (heap : Heap) (x : Value) → FitsKind heap kinds.Int x → (n : ℤ) × (x ≡ values.Int n) × FitsSigned w32 n
int_of heap (values.Int n) fits = (n, refl, fits)
int_of heap _ fits = absurd fits

faultless_has : (outcome : Result ℤ FaultKind) → ((n : ℤ) × (outcome ≡ Ok n)) → HasOne (faultless outcome)
faultless_has outcome (n, is) = (values.Int n, ap faultless is)

module _ (heap : Heap) (is_heap : IsHeap heap) where
  numbers_have : (known : StateFacts) (op : BinOp) (v w : Var) (m n : ℤ) (vs : List Value) (number : ℕ → ℤ)
      (array : ℕ → Option ℕ)
      → HasForm known → HasVar known v → HasVar known w → FitsSigned w32 m → FitsSigned w32 n
      → HoldsBy known vs heap number array
      → HasValue number array v (values.Int m) → HasValue number array w (values.Int n)
      → (trees.binary_by op None v w known).entailed ≡ true
      → HasOne (clauses.arithmetic_value op (values.Int m) (values.Int n))
  numbers_have known op (vars.Number a) (vars.Number b) m n vs number array form first second one two holds has other
      entailed =
      let left = same_Some m (worth number a) has in
      let right = same_Some n (worth number b) other in
      let met = judged_are_met (conditions_of (operations.Binary op a b)) known form
      (operands_there op a b known first second) entailed vs heap
      number array is_heap holds
      (operands_fit op a b number (subst (FitsSigned w32) left one) (subst (FitsSigned w32) right two)) in
      let (result, outcome) = operated_where_met op a b heap number array met in
      faultless_has (operated op m n)
      (result, ap (λ k. operated op k n) left ∙ ap (λ k. operated op (worth number a) k) right ∙ outcome)
  numbers_have known op _ _ m n vs number array form first second one two holds has other entailed =
      absurd (false≢true entailed)

  binary_has : (known : StateFacts) (args : List Place) (result : Place) (time : Time) (op : BinOp) (k l : Kind)
      (v w : Var) (x y : Value)
      (vs : List Value) (number : ℕ → ℤ) (array : ℕ → Option ℕ) (over : Heap)
      → HasForm known → HasVar known v → HasVar known w → HoldsBy known vs heap number array
      → HasValue number array v x → HasValue number array w y → Takes args result time (comparison_of op) k l
      → FitsKind over k x → FitsKind over l y → (binary_value op v w known).entailed ≡ true
      → HasOne (clauses.binary_value op x y)
  binary_has known args result time op k l v w x y vs number array over form first second holds has other takes one two
      entailed =
      by (comparison_of op) takes entailed
    where
      by : (o : Option CmpOp) → Takes args result time o k l → (trees.binary_by op o v w known).entailed ≡ true
          → HasOne (clauses.binary_by op o x y)
      by None takes entailed =
          let (m, left, low) = int_of over x (subst (λ kind. FitsKind over kind x) takes.0 one) in
          let (n, right, high) = int_of over y (subst (λ kind. FitsKind over kind y) takes.1 two) in
          let (is, found) = numbers_have known op v w m n vs number array form first second low high holds
          (subst (HasValue number array v) left has) (subst (HasValue number array w) right other) entailed in (
            is,
            ap (λ a. clauses.arithmetic_value op a y) left ∙ ap (clauses.arithmetic_value op (values.Int m)) right ∙
                found,
          )
      by (Some cmp) takes entailed =
          let (so, found) = pushed_defined over cmp k l x y takes (form_is over k x one) (form_is over l y two) in
          (values.Int (truth so), ap (option_map (λ holds. values.Int (truth holds))) found)

unary_has : (heap : Heap) (op : UnOp) (x : Value) → FitsKind heap kinds.Int x → HasOne (clauses.unary_value op x)
unary_has heap op (values.Int n) fits = (_, refl)
unary_has heap op _ fits = absurd fits

-- ---- conditions

-- Where a branch is taken whose obligations are entailed, its tree has a value.
branch_has : (known : StateFacts) (inside : Step) (so : Bool) (v : Var) (vs : List Value) (heap : Heap) (number : ℕ → ℤ)
    (array : ℕ → Option ℕ) (P : Type 0) → StaysThereIn known (true_known so v known)
    → HoldsIn (true_known so v known) vs heap number array
    → (branch inside so v known).entailed ≡ true
    → ((y : StateFacts) → StaysThere known y → HoldsBy y vs heap number array → (inside y).entailed ≡ true → P) → P
branch_has known inside so v vs heap number array P stays holds entailed each =
    by (true_known so v known) stays holds entailed
  where
    by : (o : State) → StaysThereIn known o → HoldsIn o vs heap number array → (in_state inside o).entailed ≡ true → P
    by None stays holds entailed = elim holds [ ]
    by (Some y) stays holds entailed = each y stays holds entailed

branches_have : (o p : Option Value) (so : Bool) → (so ≡ true → HasOne o) → (so ≡ false → HasOne p)
    → HasOne (chosen (Some so) o p)
branches_have o p true first second = first refl
branches_have o p false first second = second refl

-- ---- leaves

argument_there : (heap : Heap) (types : List Place) (found : List Value) (n : ℕ) (kind : Kind)
    → FitPlaces heap types found
    → option_and_then kind_of (slice_get types n) ≡ Some kind → HasOne (slice_get found n)
argument_there heap [] found n kind fit is = absurd (none-some kind is)
argument_there heap (p ∷ ps) [] n kind fit is = absurd fit
argument_there heap (p ∷ ps) (x ∷ xs) zero kind fit is = (x, refl)
argument_there heap (p ∷ ps) (x ∷ xs) (suc n) kind fit is = argument_there heap ps xs n kind fit.1 is

result_there : (vs : List Value) (known : StateFacts) (o : Option ℕ) (p : Option Value) → ReadsResult vs o p
    → (variable o known).entailed ≡ true → HasOne p
result_there vs known None p reads entailed = absurd (false≢true entailed)
result_there vs known (Some i) None reads entailed = elim reads [ ]
result_there vs known (Some i) (Some v) reads entailed = (v, refl)

-- ---- trees

module _ (env : TreeEnv) (args : List Place) (result : Place) (heap : Heap) (r : Reading) where
  pub value_there : (t : Term) (time : Time) (kind : Kind) (known : StateFacts) (vs : List Value) (number : ℕ → ℤ)
      (array : ℕ → Option ℕ)
      → IsReadable env args result known → IsTyped args result time t kind → Reads env args result vs heap r
      → HoldsBy known vs heap number array → (value env time t known).entailed ≡ true
      → HasOne (value_of t (reading_at time r))
  unfolding value value_of
  value_there (terms.Const n) time kind known vs number array readable typed reads holds entailed = (values.Int n, refl)
  value_there (terms.Arg n) time kind known vs number array readable typed reads holds entailed =
      let (x, found) = argument_there r.entry_heap args r.args n kind reads.fit typed.kind_is in
      (x, ap (λ l. slice_get l n) (args_at time r) ∙ found)
  value_there terms.Null time kind known vs number array readable typed reads holds entailed = (values.Null, refl)
  value_there terms.Result time kind known vs number array readable typed reads holds entailed =
      let (x, found) = result_there vs known env.result r.result reads.result_is entailed in
      (x, result_at time r ∙ found)
  value_there (terms.Len a) time kind known vs number array readable typed reads holds entailed =
      let below = length_typed args result time a kind typed in
      let over = (reading_at time r).heap in
      let parts = and_parts (value env time a known).entailed _ entailed in
      let (x, found) = value_there a time below.array known vs number array readable below.typed reads holds parts.0 in
      let (is, gives) = one_entailed known below.array (value env time a known).state length_value vs x heap number
      array
      (HasOne (clauses.length_value over x))
      (comes known below.array (value env time a known).state (vs ++ x ∷ []) heap number array
      (value_pushed env args result a time below.array known readable below.typed)
      (value_kept env args result heap r a time below.array known vs number array x readable below.typed reads holds
      found)) parts.1
      (λ v y later later_array lies still has so.
      length_has over heap y below.array v x vs later later_array reads.is_heap lies.grown.form lies.there still has
      below.reference
      (value_fits env args result vs heap r reads a time below.array x below.typed found) so) in
      (is, ap (option_and_then (clauses.length_value over)) found ∙ gives)
  value_there (terms.Elem place a b) time kind known vs number array readable typed reads holds entailed =
      let below = element_typed args result time place a b kind typed in
      let over = (reading_at time r).heap in
      let outer = and_parts ((value env time a known).entailed &&
      (in_state (value env time b) (value env time a known).state).entailed) _ entailed in
      let parts = and_parts (value env time a known).entailed _ outer.0 in
      let (x, found) = value_there a time below.array known vs number array readable below.first reads holds parts.0 in
      let value_one = kind_is_value heap below.array x
      (fits_now env args result heap r vs reads a time below.array x below.first found) in
      let first = comes known below.array (value env time a known).state (vs ++ x ∷ []) heap number array
      (value_pushed env args result a time below.array known readable below.first)
      (value_kept env args result heap r a time below.array known vs number array x readable below.first reads holds
      found) in
      let here = pushed_readable env args result known first.after below.array first.pushed readable in
      let more = reads_on env args result vs heap r x reads value_one in
      let inner = subst (λ s. (in_state (value env time b) s).entailed ≡ true) first.state_is parts.1 in
      let (y, other) = value_there b time kinds.Int first.after (vs ++ x ∷ []) first.later first.later_array here
      below.second more first.holds inner in
      let second = comes first.after kinds.Int (value env time b first.after).state ((vs ++ x ∷ []) ++ y ∷ []) heap
      first.later first.later_array
      (value_pushed env args result b time kinds.Int first.after here below.second)
      (value_kept env args result heap r b time kinds.Int first.after (vs ++ x ∷ []) first.later first.later_array y
      here below.second more
      first.holds other) in
      let (is, gives) = two_entailed known below.array kinds.Int (value env time a known).state (value env time b)
      (element_value time place) vs x y heap
      number array (HasOne (clauses.element_value over place x y)) first second outer.1
      (λ v w z later later_array lies still has also so.
      element_has over heap (kept_from env args result vs heap r reads time) reads.is_heap z place below.array v w x y
      time vs later later_array
      lies.lower.grown.form lies.lower.there lies.there still has also below.of_place
      (value_fits env args result vs heap r reads a time below.array x below.first found)
      (value_fits env args result vs heap r reads b time kinds.Int y below.second other) so) in (
        is,
        ap (λ o. both o (value_of b (reading_at time r)) (clauses.element_value over place)) found
            ∙ ap (λ o. both (Some x) o (clauses.element_value over place)) other ∙ gives,
      )
  value_there (terms.Bin op a b) time kind known vs number array readable typed reads holds entailed =
      let below = operator_typed args result time op a b kind typed in
      let over = (reading_at time r).heap in
      let outer = and_parts ((value env time a known).entailed &&
      (in_state (value env time b) (value env time a known).state).entailed) _ entailed in
      let parts = and_parts (value env time a known).entailed _ outer.0 in
      let (x, found) = value_there a time below.left known vs number array readable below.first reads holds parts.0 in
      let value_one = kind_is_value heap below.left x
      (fits_now env args result heap r vs reads a time below.left x below.first found) in
      let first = comes known below.left (value env time a known).state (vs ++ x ∷ []) heap number array
      (value_pushed env args result a time below.left known readable below.first)
      (value_kept env args result heap r a time below.left known vs number array x readable below.first reads holds
      found) in
      let here = pushed_readable env args result known first.after below.left first.pushed readable in
      let more = reads_on env args result vs heap r x reads value_one in
      let inner = subst (λ s. (in_state (value env time b) s).entailed ≡ true) first.state_is parts.1 in
      let (y, other) = value_there b time below.right first.after (vs ++ x ∷ []) first.later first.later_array here
      below.second more first.holds inner in
      let second = comes first.after below.right (value env time b first.after).state ((vs ++ x ∷ []) ++ y ∷ []) heap
      first.later first.later_array
      (value_pushed env args result b time below.right first.after here below.second)
      (value_kept env args result heap r b time below.right first.after (vs ++ x ∷ []) first.later first.later_array y
      here below.second more
      first.holds other) in
      let (is, gives) = two_entailed known below.left below.right (value env time a known).state (value env time b)
      (binary_value op) vs x y heap
      number array (HasOne (clauses.binary_value op x y)) first second outer.1
      (λ v w z later later_array lies still has also so.
      binary_has heap reads.is_heap z args result time op below.left below.right v w x y vs later later_array over
      lies.lower.grown.form lies.lower.there lies.there still has also below.takes
      (value_fits env args result vs heap r reads a time below.left x below.first found)
      (value_fits env args result vs heap r reads b time below.right y below.second other) so) in (
        is,
        ap (λ o. both o (value_of b (reading_at time r)) (clauses.binary_value op)) found
            ∙ ap (λ o. both (Some x) o (clauses.binary_value op)) other ∙ gives,
      )
  value_there (terms.Un op a) time kind known vs number array readable typed reads holds entailed =
      let below = unary_typed args result time op a kind typed in
      let parts = and_parts (value env time a known).entailed _ entailed in
      let (x, found) = value_there a time kinds.Int known vs number array readable below.typed reads holds parts.0 in
      let (is, gives) = unary_has (reading_at time r).heap op x
      (value_fits env args result vs heap r reads a time kinds.Int x below.typed found) in
      (is, ap (option_and_then (clauses.unary_value op)) found ∙ gives)
  value_there (terms.Old a) time kind known vs number array readable typed reads holds entailed =
      let (is, gives) = value_there a Entry kind known vs number array readable
      (old_typed args result time a kind typed).1 reads holds entailed in
      (is, old_at time r a ∙ gives)
  value_there (terms.Cond c a b) time kind known vs number array readable typed reads holds entailed =
      let below = branches_typed args result time c a b kind typed in
      let parts = and_parts (value env time c known).entailed _ entailed in
      let (x, found) = value_there c time below.test known vs number array readable below.test_typed reads holds
      parts.0 in
      let value_one = kind_is_value heap below.test x
      (fits_now env args result heap r vs reads c time below.test x below.test_typed found) in
      let (so, truth_is) = tested (reading_at time r).heap below.test x below.tested
      (form_is (reading_at time r).heap below.test x
      (value_fits env args result vs heap r reads c time below.test x below.test_typed found)) in
      let (is, gives) = one_entailed known below.test (value env time c known).state
      (condition_value (value env time a) (value env time b)) vs x heap
      number array (HasOne (chosen (Some so) (value_of a (reading_at time r)) (value_of b (reading_at time r))))
      (comes known below.test (value env time c known).state (vs ++ x ∷ []) heap number array
      (value_pushed env args result c time below.test known readable below.test_typed)
      (value_kept env args result heap r c time below.test known vs number array x readable below.test_typed reads holds
      found)) parts.1
      (λ v y later later_array lies still has both_so.
      let here = below_readable env args result known y below.test v readable lies in
      let each = and_parts (branch (value env time a) true v y).entailed (branch (value env time b) false v y).entailed
      both_so in
      branches_have (value_of a (reading_at time r)) (value_of b (reading_at time r)) so
      (λ same.
      branch_has y (value env time a) true v vs heap later later_array (HasOne (value_of a (reading_at time r)))
      (true_follows true v y lies.grown.form lies.there)
      (true_kept true y v x vs heap later later_array lies.grown.form lies.there value_one still has
      (truth_is ∙ ap Some same)) each.0
      (λ z stays holding inner.
      value_there a time below.left z vs later later_array (stays_readable env args result y z here stays) below.first
      reads holding inner))
      (λ same.
      branch_has y (value env time b) false v vs heap later later_array (HasOne (value_of b (reading_at time r)))
      (true_follows false v y lies.grown.form lies.there)
      (true_kept false y v x vs heap later later_array lies.grown.form lies.there value_one still has
      (truth_is ∙ ap Some same)) each.1
      (λ z stays holding inner.
      value_there b time below.right z vs later later_array (stays_readable env args result y z here stays) below.second
      reads holding inner))) in (
        is,
        ap (λ o. chosen (option_and_then is_true o) (value_of a (reading_at time r))
            (value_of b (reading_at time r))) found
            ∙ ap (λ o. chosen o (value_of a (reading_at time r)) (value_of b (reading_at time r))) truth_is ∙ gives,
      )

-- ---- what is said of them

is_there : (o : Option Value) → HasOne o → IsSome o
is_there o (is, found) = subst IsSome (sym found) refl

pub value_has : (env : TreeEnv) (time : Time) (t : Term) (known : StateFacts) → HasValueWhereEntailed env time t known
value_has env time t known = λ args result kind vs heap number array r readable typed reads holds entailed.
    is_there (value_of t (reading_at time r))
    (value_there env args result heap r t time kind known vs number array readable typed reads holds entailed)
