-- What an address tells of its item: the conditions of the item are met.
use Rattle.std.proofs.Common.{◌≡◌, ◌≢◌, ℕ, ◌<◌, nat_lt, ℤ, pos, ◌<ℤ◌, true, false, Option, Some, None, length, FitsSigned, w32, sym, ap, subst, ◌∙◌, arith}
use Rattle.std.specs.Prelude.{slice_get}
use Rattle.std.specs.Option.{option_map_or}
use Rattle.std.proofs.lemmas.Bool.{false≢true, ltb-true}
use Rattle.std.proofs.lemmas.Int.{ints}
use Rattle.cil_model.specs.Values.{Heap, IsHeap, IsValue, has_item}
use Rattle.cil_model.specs.declared.machine.ArrayCell.{ArrayCell}
use Rattle.cil_model.specs.declared.machine.Value.{Value}
use Rattle.cil_model.specs.declared.machine.Value.TheVariants as values
use Rattle.domain_api.specs.declared.expr.Expr.{Expr}
use Rattle.frame_names.specs.declared.var.Var.TheVariants as vars
use Rattle.state_facts.proofs.ArraysHold.{array_long}
use Rattle.state_facts.specs.Holds.{HasValue, length_in, length_of_array}
use Rattle.symbolic_values.specs.Worth.{worth}
use Rattle.state_obligations.specs.Conditions.{conditions_of}
use Rattle.state_obligations.specs.Meaning.{AreMet, AreOfInt32}
use Rattle.state_obligations.specs.declared.condition.Operation.TheVariants as operations

-- The array and the index of an address that a variable is, where the item is there.
pub record IsItem (heap : Heap) (number : ℕ → ℤ) (array : ℕ → Option ℕ) (r : ℕ) (e : Expr) : Type 0 where
  pub index : ℕ
  pub some : array r ≢ None
  pub index_is : worth number e ≡ pos index
  pub below : pos index <ℤ length_of_array heap (array r)

item_below : (heap : Heap) (a n : ℕ) → has_item heap a n ≡ true → n < length_in heap a
item_below heap a n has = each (slice_get heap a) has
  where
    each : (o : Option ArrayCell) → option_map_or (λ (c : ArrayCell). nat_lt n (length c.items)) o false ≡ true
        → n < option_map_or (λ (c : ArrayCell). length c.items) o 0
    each None there = absurd (false≢true there)
    each (Some cell) there = ltb-true n (length cell.items) there

pub item_of_address : (r : ℕ) (e : Expr) (heap : Heap) (number : ℕ → ℤ) (array : ℕ → Option ℕ) (value : Value)
    → HasValue number array (vars.Address r e) value → IsValue heap value → IsItem heap number array r e
item_of_address r e heap number array (values.Addr a n) is there =
    let within = item_below heap a n there in
    let same = same_parts (Some a, pos n) (array r, worth number e) is in
    let array_is : array r ≡ Some a = sym (ap (λ (x : Option ℕ × ℤ). x.0) same) in
    record {
      index = n;
      some = λ none. no_array a (sym array_is ∙ none);
      index_is = sym (ap (λ (x : Option ℕ × ℤ). x.1) same);
      below =
          subst (λ (o : Option ℕ). pos n <ℤ length_of_array heap o) (sym array_is) (as_numbers n (length_in heap a) within);
    }
  where
    same_parts : (x y : Option ℕ × ℤ) → Some x ≡ Some y → x ≡ y
    same_parts x y is = cc

    no_array : (a : ℕ) → Some a ≡ None → ⊥
    no_array a is = cc

    as_numbers : (m n : ℕ) → m < n → pos m <ℤ pos n
    as_numbers m n less = omega (arith, ints, less)
item_of_address r e heap number array (values.Int n) is there = absurd cc
item_of_address r e heap number array (values.Native n) is there = absurd cc
item_of_address r e heap number array values.Null is there = absurd cc
item_of_address r e heap number array (values.Array a) is there = absurd cc
item_of_address r e heap number array values.Text is there = absurd cc

-- The address of an item was taken where all conditions of the item were met, and they are met still.
pub address_is_met : (r : ℕ) (e : Expr) (heap : Heap) (number : ℕ → ℤ) (array : ℕ → Option ℕ) (value : Value)
    → HasValue number array (vars.Address r e) value → IsValue heap value
    → AreMet (conditions_of (operations.Element r e)) heap number array
address_is_met r e heap number array value is there =
    let item = item_of_address r e heap number array value is there in
    let index_is = item.index_is in (
      item.some,
      (
        omega (arith, ints, index_is),
        (subst (λ (n : ℤ). n <ℤ length_of_array heap (array r)) (sym index_is) item.below, tt),
      ),
    )

-- Its index is an int32.
pub address_fits : (r : ℕ) (e : Expr) (heap : Heap) (number : ℕ → ℤ) (array : ℕ → Option ℕ) (value : Value)
    → HasValue number array (vars.Address r e) value → IsValue heap value → IsHeap heap
    → AreOfInt32 (conditions_of (operations.Element r e)) number
address_fits r e heap number array value is there is_heap =
    let item = item_of_address r e heap number array value is there in
    let index_is = item.index_is in
    let below = item.below in
    let long = (array_long heap (array r) is_heap).1 in
    let fits : FitsSigned w32 (worth number e) = omega (arith, ints, index_is, below, long) in
    (tt, (fits, (fits, tt)))
