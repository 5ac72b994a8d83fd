-- The value of a tree is one of its kind.
use Rattle.std.proofs.Common.{◌≡◌, ℕ, zero, suc, ◌<◌, ℤ, pos, int_le, unsigned_abs, Bool, true, false, ◌&&◌, List, [], ◌∷◌, length, slice_get, Option, Some, None, if◌then◌else◌, FitsSigned, w32, Result, Ok, Err, IfOk, refl, ap, subst, sym, ◌∙◌, arith}
use Rattle.std.specs.Prelude.{option_map}
use Rattle.std.specs.List.{AllByRecursion}
use Rattle.std.specs.Option.{option_and_then}
use Rattle.std.proofs.lemmas.Bool.{and_parts, false≢true}
use Rattle.std.proofs.lemmas.Int.{ints}
use Rattle.std.proofs.lemmas.Option.{none-some, same_Some}
use Rattle.cil_model.specs.Arithmetic.{operated, operated_one, truth}
use Rattle.cil_model.specs.Clauses.{Reading, arithmetic_value, at_entry, binary_by, binary_value, both, chosen, element_value, faultless, item_in, length_value, unary_value, value_of}
use Rattle.cil_model.specs.Comparisons.{comparison_of, is_true, pushed_comparison}
use Rattle.cil_model.specs.FitKinds.{FitsKind}
use Rattle.cil_model.specs.Kinds.{kind_of}
use Rattle.cil_model.specs.Passes.{merged_kind}
use Rattle.cil_model.specs.Terms as terms
use Rattle.cil_model.specs.Terms.{Term}
use Rattle.cil_model.specs.Values.{FitItems, FitPlaces, FitsPlace, Heap, IsByte, IsHeap, IsValue, KeepsForms, has_array, same_place}
use Rattle.cil_model.specs.declared.instruction.BinOp.{BinOp}
use Rattle.cil_model.specs.declared.instruction.CmpOp.{CmpOp}
use Rattle.cil_model.specs.declared.instruction.UnOp.{UnOp}
use Rattle.cil_model.specs.declared.machine.ArrayCell.{ArrayCell}
use Rattle.cil_model.specs.declared.machine.FaultKind.{FaultKind}
use Rattle.cil_model.specs.declared.machine.Value.{Value}
use Rattle.cil_model.specs.declared.machine.Value.TheVariants as values
use Rattle.cil_model.specs.declared.place.Kind.{Kind}
use Rattle.cil_model.specs.declared.place.Kind.TheVariants as kinds
use Rattle.cil_model.specs.declared.place.Place.{Place}
use Rattle.cil_model.specs.declared.place.Place.TheVariants as places
use Rattle.cil_model.proofs.ArithmeticFits.{operated_fits, operated_one_fits, truth_fits}
use Rattle.cil_model.proofs.HeapsKept.{HasItemOf-kept, array_of_heap, has_array-kept, keeps_itself}
use Rattle.clause_trees.specs.Meaning.{IsTyped, Reads, reading_at}
use Rattle.clause_trees.specs.declared.reader.Time.{Time}
use Rattle.clause_trees.specs.declared.reader.Time.TheVariants.{Now, Entry}
use Rattle.clause_trees.specs.declared.reader.TreeEnv.{TreeEnv}
use Rattle.clause_trees.proofs.Typing.{branches_typed, element_typed, length_typed, merged_cases, merged_swaps, old_typed, operator_typed, unary_typed}

-- ---- values of kinds

pub kind_kept : (old new : Heap) (kind : Kind) (v : Value) → KeepsForms old new → FitsKind old kind v
    → FitsKind new kind v
kind_kept old new kinds.Int (values.Int n) kept fits = fits
kind_kept old new kinds.Native (values.Native n) kept fits = fits
kind_kept old new kinds.Ints values.Null kept fits = tt
kind_kept old new kinds.Ints (values.Array i) kept fits = has_array-kept old new places.Ints i kept fits
kind_kept old new kinds.Bools values.Null kept fits = tt
kind_kept old new kinds.Bools (values.Array i) kept fits = has_array-kept old new places.Bools i kept fits
kind_kept old new kinds.NullRef values.Null kept fits = tt
kind_kept old new kinds.Text values.Text kept fits = tt
kind_kept old new kinds.AddrInts (values.Addr a n) kept fits = HasItemOf-kept old new places.Ints a n kept fits
kind_kept old new kinds.AddrBools (values.Addr a n) kept fits = HasItemOf-kept old new places.Bools a n kept fits
kind_kept old new _ _ kept fits = absurd fits

array_there : (heap : Heap) (place : Place) (i : ℕ) → has_array heap place i ≡ true → i < length heap
array_there [] place zero has = absurd (false≢true has)
array_there [] place (suc i) has = absurd (false≢true has)
array_there (cell ∷ heap) place zero has = omega arith
array_there (cell ∷ heap) place (suc i) has = let rest = array_there heap place i has in omega (arith, rest)

-- A value of a kind is one of the machine.
pub kind_is_value : (heap : Heap) (kind : Kind) (v : Value) → FitsKind heap kind v → IsValue heap v
kind_is_value heap kinds.Int (values.Int n) fits = fits
kind_is_value heap kinds.Native (values.Native n) fits = fits
kind_is_value heap kinds.Ints values.Null fits = tt
kind_is_value heap kinds.Ints (values.Array i) fits = array_there heap places.Ints i fits
kind_is_value heap kinds.Bools values.Null fits = tt
kind_is_value heap kinds.Bools (values.Array i) fits = array_there heap places.Bools i fits
kind_is_value heap kinds.NullRef values.Null fits = tt
kind_is_value heap kinds.Text values.Text fits = tt
kind_is_value heap kinds.AddrInts (values.Addr a n) fits = fits.1
kind_is_value heap kinds.AddrBools (values.Addr a n) fits = fits.1
kind_is_value heap _ _ fits = absurd fits

byte_fits : (n : ℤ) → IsByte n → FitsSigned w32 n
byte_fits n is = let low = is.0 in let high = is.1 in omega (arith, ints, low, high)

pub place_of_kind : (heap : Heap) (place : Place) (kind : Kind) (v : Value) → FitsPlace heap place v
    → kind_of place ≡ Some kind
    → FitsKind heap kind v
place_of_kind heap places.Bool kind (values.Int n) fits is =
    subst (λ k. FitsKind heap k (values.Int n)) (same_Some kinds.Int kind is) (byte_fits n fits)
place_of_kind heap places.Int kind (values.Int n) fits is =
    subst (λ k. FitsKind heap k (values.Int n)) (same_Some kinds.Int kind is) fits
place_of_kind heap places.Bools kind values.Null fits is =
    subst (λ k. FitsKind heap k values.Null) (same_Some kinds.Bools kind is) tt
place_of_kind heap places.Bools kind (values.Array i) fits is =
    subst (λ k. FitsKind heap k (values.Array i)) (same_Some kinds.Bools kind is) fits
place_of_kind heap places.Ints kind values.Null fits is =
    subst (λ k. FitsKind heap k values.Null) (same_Some kinds.Ints kind is) tt
place_of_kind heap places.Ints kind (values.Array i) fits is =
    subst (λ k. FitsKind heap k (values.Array i)) (same_Some kinds.Ints kind is) fits
place_of_kind heap _ kind _ fits is = absurd fits

-- A value of either branch is one of both.
pub merged_left : (heap : Heap) (a b kind : Kind) (v : Value) → merged_kind a b ≡ Some kind → FitsKind heap a v
    → FitsKind heap kind v
merged_left heap a b kind v is =
    merged_cases (λ a b kind. FitsKind heap a v → FitsKind heap kind v) (λ k fits. fits) (λ fits. fits) (λ fits. fits)
    (null_ints v) (null_bools v) a b kind is
  where
    null_ints : (v : Value) → FitsKind heap kinds.NullRef v → FitsKind heap kinds.Ints v
    null_ints values.Null fits = tt
    null_ints _ fits = absurd fits

    null_bools : (v : Value) → FitsKind heap kinds.NullRef v → FitsKind heap kinds.Bools v
    null_bools values.Null fits = tt
    null_bools _ fits = absurd fits

-- ---- parts of values

pub record HasBoth (o p : Option Value) (f : Value → Value → Option Value) (is : Value) : Type 0 where
  pub first : Value
  pub second : Value
  pub first_is : o ≡ Some first
  pub second_is : p ≡ Some second
  pub gives : f first second ≡ Some is

pub both_tells : (o p : Option Value) (f : Value → Value → Option Value) (is : Value) → both o p f ≡ Some is
    → HasBoth o p f is
both_tells (Some a) (Some b) f is gives =
    record { first = a; second = b; first_is = refl; second_is = refl; gives = gives }
both_tells None p f is gives = absurd (none-some is gives)
both_tells (Some a) None f is gives = absurd (none-some is gives)

pub record HasOne {X : Type 0} (o : Option X) (f : X → Option Value) (is : Value) : Type 0 where
  pub inner : X
  pub inner_is : o ≡ Some inner
  pub gives : f inner ≡ Some is

pub one_tells : {X : Type 0} (o : Option X) (f : X → Option Value) (is : Value) → option_and_then f o ≡ Some is
    → HasOne o f is
one_tells None f is gives = absurd (none-some is gives)
one_tells (Some x) f is gives = record { inner = x; inner_is = refl; gives = gives }

-- ---- nodes

length_fits : (heap : Heap) (x is : Value) → IsHeap heap → length_value heap x ≡ Some is → FitsKind heap kinds.Int is
length_fits heap (values.Array a) is is_heap gives = by (slice_get heap a) refl gives
  where
    by : (o : Option ArrayCell) → slice_get heap a ≡ o
        → option_map (λ cell. values.Int (pos (length cell.items))) o ≡ Some is
        → FitsKind heap kinds.Int is
    by None found gives = absurd (none-some is gives)
    by (Some cell) found gives =
        let array = array_of_heap heap a cell is_heap found in
        let short : length cell.items < 2147483648 = array.1 in
        subst (FitsKind heap kinds.Int) (same_Some (values.Int (pos (length cell.items))) is gives)
        (omega (arith, ints, short))
length_fits heap _ is is_heap gives = absurd (none-some is gives)

-- An item that is taken, with its index and its array.
pub record IsItem (heap : Heap) (place : Place) (x y is : Value) : Type 0 where
  pub array : ℕ
  pub index : ℤ
  pub cell : ArrayCell
  pub item : ℤ
  pub array_is : x ≡ values.Array array
  pub index_is : y ≡ values.Int index
  pub cell_is : slice_get heap array ≡ Some cell
  pub of_place : same_place cell.place place ≡ true
  pub not_negative : int_le (pos 0) index ≡ true
  pub item_is : slice_get cell.items (unsigned_abs index) ≡ Some item
  pub value_is : values.Int item ≡ is

item_tells : (heap : Heap) (place : Place) (a : ℕ) (n : ℤ) (is : Value) → option_and_then (item_in place n)
    (slice_get heap a) ≡ Some is
    → IsItem heap place (values.Array a) (values.Int n) is
item_tells heap place a n is gives = on_cell (slice_get heap a) refl gives
  where
    on_item : (cell : ArrayCell) → slice_get heap a ≡ Some cell → same_place cell.place place ≡ true
        → int_le (pos 0) n ≡ true
        → (o : Option ℤ) → slice_get cell.items (unsigned_abs n) ≡ o → option_map values.Int o ≡ Some is
        → IsItem heap place (values.Array a) (values.Int n) is
    on_item cell found of_place above None at gives = absurd (none-some is gives)
    on_item cell found of_place above (Some item) at gives = record {
      array = a;
      index = n;
      cell = cell;
      item = item;
      array_is = refl;
      index_is = refl;
      cell_is = found;
      of_place = of_place;
      not_negative = above;
      item_is = at;
      value_is = same_Some (values.Int item) is gives;
    }

    on_test : (cell : ArrayCell) → slice_get heap a ≡ Some cell → (test : Bool)
        → (same_place cell.place place && int_le (pos 0) n) ≡ test
        → (if test then option_map values.Int (slice_get cell.items (unsigned_abs n)) else None) ≡ Some is
        → IsItem heap place (values.Array a) (values.Int n) is
    on_test cell found false test gives = absurd (none-some is gives)
    on_test cell found true test gives =
        let parts = and_parts (same_place cell.place place) (int_le (pos 0) n) test in
        on_item cell found parts.0 parts.1 (slice_get cell.items (unsigned_abs n)) refl gives

    on_cell : (o : Option ArrayCell) → slice_get heap a ≡ o → option_and_then (item_in place n) o ≡ Some is
        → IsItem heap place (values.Array a) (values.Int n) is
    on_cell None found gives = absurd (none-some is gives)
    on_cell (Some cell) found gives = on_test cell found _ refl gives

pub element_tells : (heap : Heap) (place : Place) (x y is : Value) → element_value heap place x y ≡ Some is
    → IsItem heap place x y is
element_tells heap place (values.Array a) (values.Int n) is gives = item_tells heap place a n is gives
element_tells heap place _ _ is gives = absurd (none-some is gives)

pub found_item : (P : ℤ → Type 0) (items : List ℤ) (k : ℕ) (n : ℤ) → AllByRecursion P items → slice_get items k ≡ Some n
    → P n
found_item P [] k n all is = absurd (none-some n is)
found_item P (x ∷ items) zero n all is = subst P (same_Some x n is) all.0
found_item P (x ∷ items) (suc k) n all is = found_item P items k n all.1 is

item_fits : (place : Place) (items : List ℤ) (k : ℕ) (n : ℤ) → FitItems place items → slice_get items k ≡ Some n
    → FitsSigned w32 n
item_fits places.Bools items k n fit is = byte_fits n (found_item IsByte items k n fit is)
item_fits places.Ints items k n fit is = found_item (FitsSigned w32) items k n fit is
item_fits _ items k n fit is = absurd fit

element_fits : (heap : Heap) (place : Place) (x y is : Value) → IsHeap heap → element_value heap place x y ≡ Some is
    → FitsKind heap kinds.Int is
element_fits heap place x y is is_heap gives =
    let item = element_tells heap place x y is gives in
    let array = array_of_heap heap item.array item.cell is_heap item.cell_is in
    subst (FitsKind heap kinds.Int) item.value_is
    (item_fits item.cell.place item.cell.items (unsigned_abs item.index) item.item array.0 item.item_is)

faultless_fits : (heap : Heap) (outcome : Result ℤ FaultKind) (is : Value) → IfOk outcome (FitsSigned w32)
    → faultless outcome ≡ Some is
    → FitsKind heap kinds.Int is
faultless_fits heap (Ok n) is fits gives = subst (FitsKind heap kinds.Int) (same_Some (values.Int n) is gives) fits
faultless_fits heap (Err fault) is fits gives = absurd (none-some is gives)

truth_is_int : (heap : Heap) (o : Option Bool) (is : Value) → option_map (λ holds. values.Int (truth holds)) o ≡ Some is
    → FitsKind heap kinds.Int is
truth_is_int heap None is gives = absurd (none-some is gives)
truth_is_int heap (Some holds) is gives =
    subst (FitsKind heap kinds.Int) (same_Some (values.Int (truth holds)) is gives) (truth_fits holds)

arithmetic_fits : (heap : Heap) (op : BinOp) (x y is : Value) → IsValue heap x → IsValue heap y
    → arithmetic_value op x y ≡ Some is
    → FitsKind heap kinds.Int is
arithmetic_fits heap op (values.Int a) (values.Int b) is one two gives =
    faultless_fits heap (operated op a b) is (operated_fits op a b one two) gives
arithmetic_fits heap op _ _ is one two gives = absurd (none-some is gives)

binary_fits : (heap : Heap) (op : BinOp) (o : Option CmpOp) (x y is : Value) → IsValue heap x → IsValue heap y
    → binary_by op o x y ≡ Some is
    → FitsKind heap kinds.Int is
binary_fits heap op None x y is one two gives = arithmetic_fits heap op x y is one two gives
binary_fits heap op (Some cmp) x y is one two gives = truth_is_int heap (pushed_comparison cmp x y) is gives

unary_fits : (heap : Heap) (op : UnOp) (x is : Value) → IsValue heap x → unary_value op x ≡ Some is
    → FitsKind heap kinds.Int is
unary_fits heap op (values.Int a) is one gives =
    subst (FitsKind heap kinds.Int) (same_Some (values.Int (operated_one op a)) is gives) (operated_one_fits op a one)
unary_fits heap op _ is one gives = absurd (none-some is gives)

-- ---- readings at a time

pub args_at : (time : Time) (r : Reading) → (reading_at time r).args ≡ r.args
args_at Now r = refl
args_at Entry r = refl

pub result_at : (time : Time) (r : Reading) → (reading_at time r).result ≡ r.result
result_at Now r = refl
result_at Entry r = refl

pub old_at : (time : Time) (r : Reading) (a : Term) → value_of a (at_entry (reading_at time r)) ≡ value_of a
    (reading_at Entry r)
old_at Now r a = refl
old_at Entry r a = refl

-- ---- trees

module _ (env : TreeEnv) (args : List Place) (result : Place) (vs : List Value) (heap : Heap) (r : Reading)
    (reads : Reads env args result vs heap r) where
  pub heap_at : (time : Time) → IsHeap (reading_at time r).heap
  heap_at Now = subst IsHeap (sym reads.heap_is) reads.is_heap
  heap_at Entry = reads.is_entry

  pub kept_to : (time : Time) → KeepsForms r.entry_heap (reading_at time r).heap
  kept_to Now = subst (KeepsForms r.entry_heap) (sym reads.heap_is) reads.kept
  kept_to Entry = keeps_itself r.entry_heap

  pub kept_from : (time : Time) → KeepsForms (reading_at time r).heap heap
  kept_from Now = subst (λ h. KeepsForms h heap) (sym reads.heap_is) (keeps_itself heap)
  kept_from Entry = reads.kept

  argument_fits : (types : List Place) (found : List Value) (n : ℕ) (kind : Kind) (v : Value)
      → FitPlaces r.entry_heap types found
      → option_and_then kind_of (slice_get types n) ≡ Some kind → slice_get found n ≡ Some v
      → FitsKind r.entry_heap kind v
  argument_fits [] [] n kind v fit is at = absurd (none-some v at)
  argument_fits [] (x ∷ xs) n kind v fit is at = absurd fit
  argument_fits (p ∷ ps) [] n kind v fit is at = absurd fit
  argument_fits (p ∷ ps) (x ∷ xs) zero kind v fit is at =
      subst (FitsKind r.entry_heap kind) (same_Some x v at) (place_of_kind r.entry_heap p kind x fit.0 is)
  argument_fits (p ∷ ps) (x ∷ xs) (suc n) kind v fit is at = argument_fits ps xs n kind v fit.1 is at

  branch_fits : (so : Option Bool) (o p : Option Value) (left right kind : Kind) (is : Value) (over : Heap)
      → merged_kind left right ≡ Some kind
      → ((v : Value) → o ≡ Some v → FitsKind over left v) → ((v : Value) → p ≡ Some v → FitsKind over right v)
      → chosen so o p ≡ Some is → FitsKind over kind is
  branch_fits None o p left right kind is over merged first second gives = absurd (none-some is gives)
  branch_fits (Some true) o p left right kind is over merged first second gives =
      merged_left over left right kind is merged (first is gives)
  branch_fits (Some false) o p left right kind is over merged first second gives =
      merged_left over right left kind is (merged_swaps left right kind merged) (second is gives)

  pub value_fits : (t : Term) (time : Time) (kind : Kind) (is : Value) → IsTyped args result time t kind
      → value_of t (reading_at time r) ≡ Some is → FitsKind (reading_at time r).heap kind is
  unfolding value_of
  value_fits (terms.Const n) time kind is typed gives =
      subst (λ k. FitsKind (reading_at time r).heap k is) (same_Some kinds.Int kind typed.kind_is)
      (subst (FitsKind (reading_at time r).heap kinds.Int) (same_Some (values.Int n) is gives) typed.ints.0)
  value_fits (terms.Arg n) time kind is typed gives =
      kind_kept r.entry_heap (reading_at time r).heap kind is (kept_to time)
      (argument_fits args r.args n kind is reads.fit typed.kind_is
      (ap (λ l. slice_get l n) (sym (args_at time r)) ∙ gives))
  value_fits terms.Null time kind is typed gives =
      subst (λ k. FitsKind (reading_at time r).heap k is) (same_Some kinds.NullRef kind typed.kind_is)
      (subst (FitsKind (reading_at time r).heap kinds.NullRef) (same_Some values.Null is gives) tt)
  value_fits terms.Result Now kind is typed gives =
      place_of_kind r.heap result kind is
      (subst (λ h. FitsPlace h result is) (sym reads.heap_is) (reads.result_fits is gives)) typed.kind_is
  value_fits terms.Result Entry kind is typed gives = absurd (none-some kind typed.kind_is)
  value_fits (terms.Len a) time kind is typed gives =
      let below = length_typed args result time a kind typed in
      let one = one_tells (value_of a (reading_at time r)) (length_value (reading_at time r).heap) is gives in
      subst (λ k. FitsKind (reading_at time r).heap k is) below.int
      (length_fits (reading_at time r).heap one.inner is (heap_at time) one.gives)
  value_fits (terms.Elem place a b) time kind is typed gives =
      let below = element_typed args result time place a b kind typed in
      let two = both_tells (value_of a (reading_at time r)) (value_of b (reading_at time r))
      (element_value (reading_at time r).heap place) is gives in
      subst (λ k. FitsKind (reading_at time r).heap k is) below.int
      (element_fits (reading_at time r).heap place two.first two.second is (heap_at time) two.gives)
  value_fits (terms.Bin op a b) time kind is typed gives =
      let below = operator_typed args result time op a b kind typed in
      let two = both_tells (value_of a (reading_at time r)) (value_of b (reading_at time r)) (binary_value op) is
      gives in
      subst (λ k. FitsKind (reading_at time r).heap k is) below.int
      (binary_fits (reading_at time r).heap op (comparison_of op) two.first two.second is
      (kind_is_value (reading_at time r).heap below.left two.first
      (value_fits a time below.left two.first below.first two.first_is))
      (kind_is_value (reading_at time r).heap below.right two.second
      (value_fits b time below.right two.second below.second two.second_is)) two.gives)
  value_fits (terms.Un op a) time kind is typed gives =
      let below = unary_typed args result time op a kind typed in
      let one = one_tells (value_of a (reading_at time r)) (unary_value op) is gives in
      subst (λ k. FitsKind (reading_at time r).heap k is) below.int
      (unary_fits (reading_at time r).heap op one.inner is
      (kind_is_value (reading_at time r).heap kinds.Int one.inner
      (value_fits a time kinds.Int one.inner below.typed one.inner_is)) one.gives)
  value_fits (terms.Old a) time kind is typed gives =
      let below = old_typed args result time a kind typed in
      kind_kept r.entry_heap (reading_at time r).heap kind is (kept_to time)
      (value_fits a Entry kind is below.1 (sym (old_at time r a) ∙ gives))
  value_fits (terms.Cond c a b) time kind is typed gives =
      let below = branches_typed args result time c a b kind typed in
      branch_fits (option_and_then is_true (value_of c (reading_at time r))) (value_of a (reading_at time r))
      (value_of b (reading_at time r))
      below.left below.right kind is (reading_at time r).heap below.merged
      (λ v found. value_fits a time below.left v below.first found)
      (λ v found. value_fits b time below.right v below.second found) gives
