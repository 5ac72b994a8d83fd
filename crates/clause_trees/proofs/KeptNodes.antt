-- What nodes keep: where operands have values of which the machine makes a value, what is pushed has it.
use Rattle.std.proofs.Common.{◌≡◌, ◌≢◌, ℕ, zero, suc, ◌<◌, ℤ, pos, negsuc, ◌≤ℤ◌, ◌<ℤ◌, ◌-ℤ◌, neg_ℤ, int_le, unsigned_abs, Bool, true, false, ◌&&◌, List, [], ◌∷◌, ◌++◌, length, slice_get, Option, Some, None, FitsSigned, w32, Result, Ok, Err, refl, ap, subst, sym, ◌∙◌, arith}
use Rattle.std.specs.Prelude.{option_map}
use Rattle.std.specs.Option.{option_map_or}
use Rattle.std.proofs.lemmas.Int.{int_wrap_fits, ints}
use Rattle.std.proofs.lemmas.Option.{get_or_from_slice_get, none-some, same_Some, slice_get_within}
use Rattle.cc_base.specs.Wrap.{wrap32}
use Rattle.cil_model.specs.Arithmetic.{operated, operated_one, truth}
use Rattle.cil_model.specs.Clauses.{arithmetic_value, binary_by, faultless}
use Rattle.cil_model.specs.Clauses as clauses
use Rattle.cil_model.specs.Comparisons.{comparison_of, number_of, pushed_comparison}
use Rattle.cil_model.specs.Values.{FitItems, FitsPlace, Heap, IsHeap, IsValue, KeepsForms, same_place}
use Rattle.cil_model.specs.declared.instruction.BinOp.{BinOp}
use Rattle.cil_model.specs.declared.instruction.BinOp.TheVariants as operators
use Rattle.cil_model.specs.declared.instruction.CmpOp.{CmpOp}
use Rattle.cil_model.specs.declared.instruction.UnOp.{UnOp}
use Rattle.cil_model.specs.declared.instruction.UnOp.TheVariants as unary
use Rattle.cil_model.specs.declared.machine.ArrayCell.{ArrayCell}
use Rattle.cil_model.specs.declared.machine.FaultKind.{FaultKind}
use Rattle.cil_model.specs.declared.machine.Value.{Value}
use Rattle.cil_model.specs.declared.machine.Value.TheVariants as values
use Rattle.cil_model.specs.declared.place.Place.{Place}
use Rattle.cil_model.specs.declared.place.Place.TheVariants as places
use Rattle.cil_model.proofs.HeapsKept.{array_of_heap}
use Rattle.domain_api.specs.declared.expr.Expr.{Expr}
use Rattle.frame_names.specs.declared.var.Var.{Var}
use Rattle.frame_names.specs.declared.var.Var.TheVariants as vars
use Rattle.number_spans.specs.Constants.{constant}
use Rattle.number_facts.proofs.Knowing.{constant_worth}
use Rattle.symbolic_values.specs.Worth.{worth}
use Rattle.state_facts.specs.Arithmetic.{HaveInts}
use Rattle.state_facts.specs.Forms.{HasForm, HasNumber, HasReference, HasVar}
use Rattle.state_facts.specs.Holds.{HasValue, HoldsBy, length_in, length_of_array}
use Rattle.state_facts.specs.Keeps.{HoldsOn}
use Rattle.state_facts.specs.Moves.{item_place}
use Rattle.state_facts.specs.StateFacts.{StateFacts, length_at, length_of}
use Rattle.state_facts.specs.States as rule
use Rattle.state_facts.proofs.Agreeing.{length_kept}
use Rattle.state_facts.proofs.ComparisonsHold.{IsLike, compare_keeps, like_address, like_number, like_reference, like_text, unlike}
use Rattle.state_facts.proofs.MovesHold.{push_keeps}
use Rattle.state_facts.proofs.StoresHold.{load_keeps}
use Rattle.state_facts.proofs.ResultsHold.{arith_keeps}
use Rattle.state_facts.proofs.UnknownValues.{unknown_is_kept}
use Rattle.state_obligations.specs.Conditions.{operator_conditions}
use Rattle.state_obligations.specs.Meaning.{AreOfInt32}
use Rattle.state_obligations.specs.declared.condition.Operation.TheVariants as operations
use Rattle.state_obligations.proofs.FaultLaws.{met_where_operated}
use Rattle.clause_trees.specs.TreeValues.{arithmetic, binary_value, element_value, length_value, minuend, push_item, push_length, unary_value}
use Rattle.clause_trees.specs.TreeValues as trees
use Rattle.clause_trees.specs.declared.reader.Time.{Time}
use Rattle.clause_trees.specs.declared.reader.Time.TheVariants.{Now, Entry}
use Rattle.clause_trees.proofs.KeptSteps.{array_by_reference, for_known, held_so, int_by_number, owed_kept}
use Rattle.clause_trees.proofs.PushedTrees.{reference_found}
use Rattle.clause_trees.proofs.PushedValues.{constant_there, minuend_fits, operands_there}
use Rattle.clause_trees.proofs.Stays.{stays_grown, var_there}
use Rattle.clause_trees.proofs.ValueKinds.{IsItem, found_item}

-- ---- lengths

pub length_worth : (known : StateFacts) (vs : List Value) (heap : Heap) (number : ℕ → ℤ) (array : ℕ → Option ℕ)
    (r a : ℕ)
    → HoldsBy known vs heap number array → HasReference known r → array r ≡ Some a
    → worth number (length_at known r) ≡ pos (length_in heap a)
length_worth known vs heap number array zero a holds there is = absurd (none-some a (sym holds.null ∙ is))
length_worth known vs heap number array (suc r) a holds there is =
    let (x, found) = reference_found known r there in
    ap (λ o. worth number (length_of o)) found
    ∙ (holds.references (suc r) x found).length_is ∙ ap (length_of_array heap) is

pub length_of_cell : (heap : Heap) (a : ℕ) (cell : ArrayCell) → slice_get heap a ≡ Some cell
    → length_in heap a ≡ length cell.items
length_of_cell heap a cell found = ap (λ o. option_map_or (λ (c : ArrayCell). length c.items) o 0) found

module _ (over heap : Heap) (kept : KeepsForms over heap) (is_heap : IsHeap heap) where
  pub same_length : (a : ℕ) (cell : ArrayCell) → slice_get over a ≡ Some cell → length_in heap a ≡ length cell.items
  same_length a cell found =
      length_kept over heap a kept (slice_get_within over a cell found) ∙ length_of_cell over a cell found

  array_length : (known : StateFacts) (r a : ℕ) (is : Value) (vs : List Value) (number : ℕ → ℤ) (array : ℕ → Option ℕ)
      → HasForm known → HasReference known r → HoldsBy known vs heap number array → array r ≡ Some a
      → clauses.length_value over (values.Array a) ≡ Some is
      → HoldsOn (Some known) (length_value (vars.Reference r) known).state (vs ++ is ∷ []) heap number array
  array_length known r a is vs number array form there holds at gives = by (slice_get over a) refl gives
    where
      some : array r ≢ None
      some none = none-some a (sym none ∙ at)

      by : (o : Option ArrayCell) → slice_get over a ≡ o
          → option_map (λ cell. values.Int (pos (length cell.items))) o ≡ Some is
          → HoldsOn (Some known) (length_value (vars.Reference r) known).state (vs ++ is ∷ []) heap number array
      by None found gives = absurd (none-some is gives)
      by (Some cell) found gives =
          owed_kept known (operations.Length r) (push_length r) vs (vs ++ is ∷ []) heap number array form (there, tt)
          is_heap holds (tt, tt)
          (some, tt)
          (λ x stays still.
          held_so x _ (vs ++ is ∷ []) heap number array
          (push_keeps (vars.Number (length_at x r)) (Some x) vs heap number array is still
          (ap number_of (sym (same_Some (values.Int (pos (length cell.items))) is gives))
          ∙ ap (λ n. Some (pos n)) (sym (same_length a cell found))
          ∙ ap Some (sym (length_worth x vs heap number array r a still
          (var_there known x (vars.Reference r) (stays_grown known x stays) there) at)))))

  pub length_node : (known : StateFacts) (v : Var) (x is : Value) (vs : List Value) (number : ℕ → ℤ)
      (array : ℕ → Option ℕ)
      → HasForm known → HasVar known v → HoldsBy known vs heap number array → HasValue number array v x
      → clauses.length_value over x ≡ Some is
      → HoldsOn (Some known) (length_value v known).state (vs ++ is ∷ []) heap number array
  length_node known v (values.Array a) is vs number array form there holds has gives =
      array_by_reference number array
      (λ u. HasVar known u → HoldsOn (Some known) (length_value u known).state (vs ++ is ∷ []) heap number array) v a
      has
      (λ r at inside. array_length known r a is vs number array form inside holds at gives) there
  length_node known v _ is vs number array form there holds has gives = absurd (none-some is gives)

-- ---- items

counted : (n : ℤ) → int_le (pos 0) n ≡ true → n ≡ pos (unsigned_abs n)
counted n above = omega (arith, ints, above)

pub same_by_number : (p q : Place) → same_place p q ≡ true → p ≡ q
same_by_number places.Void places.Void is = refl
same_by_number places.Bool places.Bool is = refl
same_by_number places.Int places.Int is = refl
same_by_number places.Bools places.Bools is = refl
same_by_number places.Ints places.Ints is = refl
same_by_number _ _ is = absurd cc

item_fits_place : (heap : Heap) (place : Place) (items : List ℤ) (k : ℕ) (n : ℤ) → FitItems place items
    → slice_get items k ≡ Some n
    → FitsPlace heap (item_place place) (values.Int n)
item_fits_place heap places.Bools items k n fit is = found_item _ items k n fit is
item_fits_place heap places.Ints items k n fit is = found_item _ items k n fit is
item_fits_place heap _ items k n fit is = absurd fit

-- What an item's conditions ask of its operands.
index_within : (items : List ℤ) (n item : ℤ) → int_le (pos 0) n ≡ true → slice_get items (unsigned_abs n) ≡ Some item
    → (pos 0 ≤ℤ n) × (n <ℤ pos (length items))
index_within items n item above is =
    let inside : unsigned_abs n < length items = slice_get_within items (unsigned_abs n) item is in
    (omega (arith, ints, above), omega (arith, ints, above, inside))

module _ (over heap : Heap) (kept : KeepsForms over heap) (is_heap : IsHeap heap) (is_over : IsHeap over) (time : Time)
    (now : time ≡ Now → over ≡ heap) where
  -- what is pushed, behind the conditions
  item_pushed : (x : StateFacts) (place : Place) (r : ℕ) (i : Expr) (y z is : Value) (vs : List Value)
      (number : ℕ → ℤ) (array : ℕ → Option ℕ)
      (item : IsItem over place y z is) → HasForm x → HasReference x r → HoldsBy x vs heap number array
      → array r ≡ Some item.array → item.index ≡ worth number i
      → (t : Time) → t ≡ time → HoldsOn (Some x) (push_item t place r i (Some x))
      (vs ++ values.Int item.item ∷ []) heap number array
  item_pushed x place r i y z is vs number array item form there holds at index Now same =
      subst (λ n. HoldsOn (Some x) (push_item Now place r i (Some x)) (vs ++ values.Int n ∷ []) heap number array)
      (get_or_from_slice_get item.cell.items (unsigned_abs item.index) item.item (pos 0) item.item_is)
      (load_keeps r i (Some x) (for_known x HasForm form) (for_known x (λ known. HasReference known r) there) vs heap
      number array item.array item.cell (unsigned_abs item.index) holds is_heap (record {
        array_is = at;
        cell_is = subst (λ h. slice_get h item.array ≡ Some item.cell) (now (sym same)) item.cell_is;
        index_is = sym index ∙ counted item.index item.not_negative;
        below = slice_get_within item.cell.items (unsigned_abs item.index) item.item item.item_is;
      }))
  item_pushed x place r i y z is vs number array item form there holds at index Entry same =
      unknown_is_kept (item_place place) (Some x) (for_known x HasForm form) vs heap number array (values.Int item.item)
      holds is_heap
      (subst (λ p. FitsPlace heap (item_place p) (values.Int item.item))
      (same_by_number item.cell.place place item.of_place)
      (item_fits_place heap item.cell.place item.cell.items (unsigned_abs item.index) item.item
      (array_of_heap over item.array item.cell is_over item.cell_is).0 item.item_is))

  array_item : (known : StateFacts) (place : Place) (r : ℕ) (i : Expr) (y z is : Value) (vs : List Value)
      (number : ℕ → ℤ)
      (array : ℕ → Option ℕ) (item : IsItem over place y z is) → HasForm known → HasReference known r
      → HasNumber known i
      → HoldsBy known vs heap number array → array r ≡ Some item.array → item.index ≡ worth number i
      → FitsSigned w32 item.index
      → HoldsOn (Some known) (element_value time place (vars.Reference r) (vars.Number i) known).state
      (vs ++ is ∷ []) heap number array
  array_item known place r i y z is vs number array item form first second holds at index fits =
      let within = index_within item.cell.items item.index item.item item.not_negative item.item_is in
      let there : length_of_array heap (array r) ≡ pos (length item.cell.items) =
      ap (length_of_array heap) at ∙ ap (λ n. pos n)
      (same_length over heap kept is_heap item.array item.cell item.cell_is) in
      let int32 = subst (FitsSigned w32) index fits in
      owed_kept known (operations.Element r i) (push_item time place r i) vs (vs ++ is ∷ []) heap number array form
      (first, (second, ((first, second), tt))) is_heap holds (tt, (int32, (int32, tt))) (
        (λ none. none-some item.array (sym none ∙ at)),
        (
          subst (λ n. pos 0 ≤ℤ n) index within.0,
          (
            subst (λ n. n <ℤ length_of_array heap (array r)) index
                (subst (λ l. item.index <ℤ l) (sym there) within.1),
            tt,
          ),
        ),
      )
      (λ x stays still.
      subst (λ v. HoldsOn (Some x) (push_item time place r i (Some x)) (vs ++ v ∷ []) heap number array) item.value_is
      (item_pushed x place r i y z is vs number array item stays.form
      (var_there known x (vars.Reference r) (stays_grown known x stays) first) still at index time refl))

  pub element_node : (known : StateFacts) (place : Place) (v w : Var) (y z is : Value) (vs : List Value)
      (number : ℕ → ℤ)
      (array : ℕ → Option ℕ) → IsItem over place y z is → HasForm known → HasVar known v → HasVar known w
      → IsValue heap z
      → HoldsBy known vs heap number array → HasValue number array v y → HasValue number array w z
      → HoldsOn (Some known) (element_value time place v w known).state (vs ++ is ∷ []) heap number array
  element_node known place v w y z is vs number array item form first second value holds has other =
      array_by_reference number array
      (λ u. HasVar known u
      → HoldsOn (Some known) (element_value time place u w known).state (vs ++ is ∷ []) heap number array) v item.array
      (subst (HasValue number array v) item.array_is has)
      (λ r at there.
      int_by_number number array
      (λ u. HasVar known u
      → HoldsOn (Some known) (element_value time place (vars.Reference r) u known).state (vs ++ is ∷ []) heap number
      array) w item.index
      (subst (HasValue number array w) item.index_is other)
      (λ i index inside.
      array_item known place r i y z is vs number array item form there inside holds at index
      (subst (IsValue heap) item.index_is value)) second) first

-- ---- operators

pub operands_fit : (op : BinOp) (a b : Expr) (number : ℕ → ℤ) → FitsSigned w32 (worth number a)
    → FitsSigned w32 (worth number b)
    → AreOfInt32 (operator_conditions op a b) number
operands_fit operators.Div a b number first second = (second, ((first, second), tt))
operands_fit operators.Rem a b number first second = (second, ((first, second), tt))
operands_fit operators.DivUn a b number first second = (second, tt)
operands_fit operators.RemUn a b number first second = (second, tt)
operands_fit operators.Shl a b number first second = (second, tt)
operands_fit operators.Shr a b number first second = (second, tt)
operands_fit operators.ShrUn a b number first second = (second, tt)
operands_fit operators.AddOvf a b number first second = ((first, second), tt)
operands_fit operators.MulOvf a b number first second = ((first, second), tt)
operands_fit operators.SubOvf a b number first second = ((first, second), tt)
operands_fit _ a b number first second = tt

-- What a value may be compared as is told by its variable.
abbrev has_number : Var → Bool
has_number (vars.Number e) = true
has_number (vars.Reference r) = false
has_number vars.Text = false
has_number (vars.Address r e) = false

abbrev has_reference : Var → Bool
has_reference (vars.Number e) = false
has_reference (vars.Reference r) = true
has_reference vars.Text = false
has_reference (vars.Address r e) = false

like_variable : (number : ℕ → ℤ) (array : ℕ → Option ℕ) (v : Var) (x : Value) → HasValue number array v x
    → IsLike x (has_number v) (has_reference v)
like_variable number array (vars.Number e) x has = like_number x (worth number e) has
like_variable number array (vars.Reference r) x has = like_reference x (array r) has
like_variable number array vars.Text x has = like_text x has
like_variable number array (vars.Address r e) x has = like_address x (array r, worth number e) has

module _ (heap : Heap) (is_heap : IsHeap heap) where
  pub arithmetic_node : (known : StateFacts) (op : BinOp) (a b : Expr) (m n result : ℤ) (vs : List Value)
      (number : ℕ → ℤ)
      (array : ℕ → Option ℕ) → HasForm known → HasNumber known a → HasNumber known b
      → HoldsBy known vs heap number array
      → HaveInts heap number array a b m n → operated op m n ≡ Ok result
      → HoldsOn (Some known) (arithmetic op a b known).state (vs ++ values.Int result ∷ []) heap number array
  arithmetic_node known op a b m n result vs number array form first second holds have gives =
      let one = same_Some m (worth number a) have.first_is in
      let two = same_Some n (worth number b) have.second_is in
      owed_kept known (operations.Binary op a b) (rule.arith op a b) vs (vs ++ values.Int result ∷ []) heap number array
      form
      (operands_there op a b known first second) is_heap holds
      (operands_fit op a b number (subst (FitsSigned w32) one have.first_fits)
      (subst (FitsSigned w32) two have.second_fits))
      (met_where_operated op a b heap number array result
      (subst (λ k. operated op k (worth number b) ≡ Ok result) one
      (subst (λ k. operated op m k ≡ Ok result) two gives)))
      (λ x stays still.
      let grown = stays_grown known x stays in
      arith_keeps op a b (Some x) (for_known x HasForm stays.form)
      (for_known x (λ known. HasNumber known a) (var_there known x (vars.Number a) grown first))
      (for_known x (λ known. HasNumber known b) (var_there known x (vars.Number b) grown second))
      vs heap number array m n result still have gives)

  compared_node : (known : StateFacts) (op : BinOp) (cmp : CmpOp) (v w : Var) (x y is : Value) (vs : List Value)
      (number : ℕ → ℤ)
      (array : ℕ → Option ℕ) → HasForm known → HasVar known v → HasVar known w → IsValue heap x → IsValue heap y
      → HoldsBy known vs heap number array → HasValue number array v x → HasValue number array w y
      → comparison_of op ≡ Some cmp
      → (o : Option Bool) → pushed_comparison cmp x y ≡ o → option_map (λ holds. values.Int (truth holds)) o ≡ Some is
      → HoldsOn (Some known) (rule.compare op v w (Some known)) (vs ++ is ∷ []) heap number array
  compared_node known op cmp v w x y is vs number array form first second one two holds has other comparison None
      compared gives =
      absurd (none-some is gives)
  compared_node known op cmp v w x y is vs number array form first second one two holds has other comparison (Some so)
      compared gives =
      subst (λ z. HoldsOn (Some known) (rule.compare op v w (Some known)) (vs ++ z ∷ []) heap number array)
      (same_Some (values.Int (truth so)) is gives)
      (compare_keeps op v w (Some known) (for_known known HasForm form) (for_known known (λ k. HasVar k v) first)
      (for_known known (λ k. HasVar k w) second) vs heap number array x y cmp so holds has other one two comparison
      compared)

  faultless_tells : (outcome : Result ℤ FaultKind) (is : Value) → faultless outcome ≡ Some is
      → (n : ℤ) × (outcome ≡ Ok n) × (values.Int n ≡ is)
  faultless_tells (Ok n) is gives = (n, refl, same_Some (values.Int n) is gives)
  faultless_tells (Err fault) is gives = absurd (none-some is gives)

  numbers_node : (known : StateFacts) (op : BinOp) (a b : Expr) (m n : ℤ) (is : Value) (vs : List Value)
      (number : ℕ → ℤ)
      (array : ℕ → Option ℕ) → HasForm known → HasNumber known a → HasNumber known b
      → HoldsBy known vs heap number array
      → HaveInts heap number array a b m n → arithmetic_value op (values.Int m) (values.Int n) ≡ Some is
      → HoldsOn (Some known) (arithmetic op a b known).state (vs ++ is ∷ []) heap number array
  numbers_node known op a b m n is vs number array form first second holds have gives =
      let (result, outcome, same) = faultless_tells (operated op m n) is gives in
      subst (λ v. HoldsOn (Some known) (arithmetic op a b known).state (vs ++ v ∷ []) heap number array) same
      (arithmetic_node known op a b m n result vs number array form first second holds have outcome)

  arithmetic_known : (known : StateFacts) (op : BinOp) (v w : Var) (m n : ℤ) (is : Value) (vs : List Value)
      (number : ℕ → ℤ)
      (array : ℕ → Option ℕ) → HasForm known → HasVar known v → HasVar known w → FitsSigned w32 m → FitsSigned w32 n
      → HoldsBy known vs heap number array → HasValue number array v (values.Int m)
      → HasValue number array w (values.Int n)
      → arithmetic_value op (values.Int m) (values.Int n) ≡ Some is
      → HoldsOn (Some known) (trees.binary_by op None v w known).state (vs ++ is ∷ []) heap number array
  arithmetic_known known op v w m n is vs number array form first second one two holds has other gives =
      int_by_number number array
      (λ u. HasVar known u
      → HoldsOn (Some known) (trees.binary_by op None u w known).state (vs ++ is ∷ []) heap number array) v m has
      (λ a left there.
      int_by_number number array
      (λ u. HasVar known u
      → HoldsOn (Some known) (trees.binary_by op None (vars.Number a) u known).state (vs ++ is ∷ []) heap number array)
      w n other
      (λ b right inside.
      numbers_node known op a b m n is vs number array form there inside holds
      (record { first_is = ap Some left; second_is = ap Some right; first_fits = one; second_fits = two }) gives)
      second) first

  no_comparison : (op : BinOp) (cmp : CmpOp) (x y is : Value) (p q r t : Bool) → IsLike x p q → IsLike y r t
      → (p && r) ≡ false
      → (q && t) ≡ false → clauses.binary_by op (Some cmp) x y ≡ Some is → ⊥
  no_comparison op cmp x y is p q r t first second numbers references gives = by (pushed_comparison cmp x y) refl gives
    where
      by : (o : Option Bool) → pushed_comparison cmp x y ≡ o
          → option_map (λ holds. values.Int (truth holds)) o ≡ Some is → ⊥
      by None found gives = none-some is gives
      by (Some so) found gives = unlike cmp x y so p q r t first second numbers references found

  pub binary_node : (known : StateFacts) (op : BinOp) (v w : Var) (x y is : Value) (vs : List Value) (number : ℕ → ℤ)
      (array : ℕ → Option ℕ) → HasForm known → HasVar known v → HasVar known w → IsValue heap x → IsValue heap y
      → HoldsBy known vs heap number array → HasValue number array v x → HasValue number array w y
      → clauses.binary_value op x y ≡ Some is
      → HoldsOn (Some known) (binary_value op v w known).state (vs ++ is ∷ []) heap number array
  binary_node known op v w x y is vs number array form first second one two holds has other gives =
      by (comparison_of op) refl v w x y first second one two has other gives
    where
      by : (o : Option CmpOp) → comparison_of op ≡ o → (v w : Var) (x y : Value) → HasVar known v → HasVar known w
          → IsValue heap x
          → IsValue heap y → HasValue number array v x → HasValue number array w y
          → clauses.binary_by op o x y ≡ Some is
          → HoldsOn (Some known) (trees.binary_by op o v w known).state (vs ++ is ∷ []) heap number array
      by None found v w (values.Int m) (values.Int n) first second one two has other gives =
          arithmetic_known known op v w m n is vs number array form first second one two holds has other gives
      by None found v w _ _ first second one two has other gives = absurd (none-some is gives)
      by (Some cmp) found (vars.Number a) (vars.Number b) x y first second one two has other gives =
          compared_node known op cmp (vars.Number a) (vars.Number b) x y is vs number array form first second one two
          holds has other found
          (pushed_comparison cmp x y) refl gives
      by (Some cmp) found (vars.Reference r) (vars.Reference q) x y first second one two has other gives =
          compared_node known op cmp (vars.Reference r) (vars.Reference q) x y is vs number array form first second one
          two holds has other found
          (pushed_comparison cmp x y) refl gives
      by (Some cmp) found v w x y first second one two has other gives =
          absurd (no_comparison op cmp x y is (has_number v) (has_reference v) (has_number w) (has_reference w)
          (like_variable number array v x has) (like_variable number array w y other) refl refl gives)

  subtracted : (op : UnOp) (n : ℤ) → FitsSigned w32 n → operated operators.Sub (minuend op) n ≡ Ok (operated_one op n)
  subtracted unary.Neg n fits = let same : pos 0 -ℤ n ≡ neg_ℤ n = omega (arith, ints) in ap (λ k. Ok (wrap32 k)) same
  subtracted unary.Not n fits =
      let small : FitsSigned w32 (negsuc 0 -ℤ n) =
      omega (arith, ints, fits) in ap Ok (int_wrap_fits w32 (negsuc 0 -ℤ n) small)

  pub unary_node : (known : StateFacts) (op : UnOp) (v : Var) (x is : Value) (vs : List Value) (number : ℕ → ℤ)
      (array : ℕ → Option ℕ)
      → HasForm known → HasVar known v → IsValue heap x → HoldsBy known vs heap number array → HasValue number array v x
      → clauses.unary_value op x ≡ Some is → HoldsOn (Some known) (unary_value op v known).state
      (vs ++ is ∷ []) heap number array
  unary_node known op v (values.Int n) is vs number array form there value holds has gives =
      int_by_number number array
      (λ u. HasVar known u → HoldsOn (Some known) (unary_value op u known).state (vs ++ is ∷ []) heap number array) v n
      has
      (λ e at inside.
      subst (λ y. HoldsOn (Some known) (unary_value op (vars.Number e) known).state (vs ++ y ∷ []) heap number array)
      (same_Some (values.Int (operated_one op n)) is gives)
      (arithmetic_node known operators.Sub (constant (minuend op)) e (minuend op) n (operated_one op n) vs number array
      form
      (constant_there known (minuend op) (minuend_fits op)) inside holds
      (record {
        first_is = ap Some (sym (constant_worth known.facts number (constant (minuend op)) holds.facts.allowed refl));
        second_is = ap Some at;
        first_fits = minuend_fits op;
        second_fits = value;
      }) (subtracted op n value))) there
  unary_node known op v _ is vs number array form there value holds has gives = absurd (none-some is gives)
