-- What each call keeps: where a state holds by a choice, the state after it holds by that choice, or by one that says
-- more.
use Rattle.std.specs.Prelude.{◌≡◌, ℕ, ◌-◌, ◌<◌, ◌≤◌, ℤ, pos, Bool, List, [], ◌∷◌, ◌++◌, FitsSigned, get_or, length, take, drop, set, slice_get, Option, Some, None}
use Rattle.std.specs.Int.{w32}
use Rattle.std.specs.List.{AllByRecursion}
use Rattle.cil_model.specs.Arithmetic.{truth}
use Rattle.cil_model.specs.Calls.{FitsResult, IsPassedOrNew, KeepsArrays}
use Rattle.cil_model.specs.Comparisons.{comparison_of, compares_values, pushed_comparison}
use Rattle.cil_model.specs.Effects.{item_of, with_item}
use Rattle.cil_model.specs.Values as machine
use Rattle.cil_model.specs.Values.{Heap, IsHeap, IsValue}
use Rattle.cil_model.specs.declared.instruction.BinOp.{BinOp}
use Rattle.cil_model.specs.declared.instruction.CmpOp.{CmpOp}
use Rattle.cil_model.specs.declared.machine.ArrayCell.{ArrayCell}
use Rattle.cil_model.specs.declared.machine.Value.{Value}
use Rattle.cil_model.specs.declared.machine.Value.TheVariants as values
use Rattle.cil_model.specs.declared.place.Place.{Place}
use Rattle.domain_api.specs.declared.expr.Expr.{Expr}
use Rattle.symbolic_values.specs.Worth.{worth}
use Rattle.state_facts.specs.Holds.{HasValue, HoldsIn}
use Rattle.state_facts.specs.StateFacts.{State}
use Rattle.frame_names.specs.declared.var.Var.{Var}

abbrev pub symbols_in : State → ℕ
symbols_in None = 0
symbols_in (Some known) = length known.facts.ranges

abbrev pub references_in : State → ℕ
references_in None = 0
references_in (Some known) = length known.references

-- The state after holds by some choice, which is as before for each symbol and each reference that was there.
pub record HoldsOn (before after : State) (vs : List Value) (heap : Heap) (number : ℕ → ℤ) (array : ℕ → Option ℕ) : Type 0 where
  pub later : ℕ → ℤ
  pub later_array : ℕ → Option ℕ
  pub agrees : (s : ℕ) → s ≤ symbols_in before → later s ≡ number s
  pub agrees_arrays : (r : ℕ) → r ≤ references_in before → later_array r ≡ array r
  pub holds : HoldsIn after vs heap later later_array

-- ---- moves

abbrev pub KeepsPush : Var → State → State → Type 0
KeepsPush v before after =
    (vs : List Value) (heap : Heap) (number : ℕ → ℤ) (array : ℕ → Option ℕ) (value : Value)
    → HoldsIn before vs heap number array
    → HasValue number array v value → HoldsIn after (vs ++ value ∷ []) heap number array

abbrev pub KeepsPop : State → State → Type 0
KeepsPop before after =
    (vs : List Value) (heap : Heap) (number : ℕ → ℤ) (array : ℕ → Option ℕ) → HoldsIn before vs heap number array
    → HoldsIn after (take (length vs - 1) vs) heap number array

-- A value is put into a variable as the machine puts it into a place.
abbrev pub KeepsPut : ℕ → Var → Place → State → State → Type 0
KeepsPut i v place before after =
    (vs : List Value) (heap : Heap) (number : ℕ → ℤ) (array : ℕ → Option ℕ) (value stored : Value)
    → HoldsIn before vs heap number array
    → HasValue number array v value → machine.put heap place value ≡ Some stored
    → HoldsOn before after (set vs i stored) heap number array

-- ---- comparisons

-- What is pushed is what the machine pushes.
abbrev pub KeepsComparison : BinOp → Var → Var → State → State → Type 0
KeepsComparison op a b before after =
    (vs : List Value) (heap : Heap) (number : ℕ → ℤ) (array : ℕ → Option ℕ)
    (first second : Value) (cmp : CmpOp) (so : Bool)
    → HoldsIn before vs heap number array → HasValue number array a first → HasValue number array b second
    → IsValue heap first → IsValue heap second → comparison_of op ≡ Some cmp
    → pushed_comparison cmp first second ≡ Some so
    → HoldsOn before after (vs ++ values.Int (truth so) ∷ []) heap number array

abbrev pub KeepsAssumed : CmpOp → Var → Var → Bool → State → State → Type 0
KeepsAssumed op a b holds before after =
    (vs : List Value) (heap : Heap) (number : ℕ → ℤ) (array : ℕ → Option ℕ) (first second : Value)
    → HoldsIn before vs heap number array → HasValue number array a first → HasValue number array b second
    → IsValue heap first → IsValue heap second → compares_values op first second ≡ Some holds
    → HoldsIn after vs heap number array

-- ---- arrays

-- The array of a reference, and the index of one of its items that an expression is worth.
pub record HasItem
    (heap : Heap) (number : ℕ → ℤ) (array : Option ℕ) (at : Expr) (i : ℕ) (cell : ArrayCell) (index : ℕ)
    : Type 0 where
  pub array_is : array ≡ Some i
  pub cell_is : slice_get heap i ≡ Some cell
  pub index_is : worth number at ≡ pos index
  pub below : index < length cell.items

-- The item at the index is what is pushed.
abbrev pub KeepsLoad : ℕ → Expr → State → State → Type 0
KeepsLoad r at before after =
    (vs : List Value) (heap : Heap) (number : ℕ → ℤ) (array : ℕ → Option ℕ) (i : ℕ) (cell : ArrayCell) (index : ℕ)
    → HoldsIn before vs heap number array → IsHeap heap → HasItem heap number (array r) at i cell index
    → HoldsOn before after (vs ++ values.Int (get_or cell.items index (pos 0)) ∷ []) heap number array

-- The item at the index becomes the number, as the machine stores it in an array of this type.
abbrev pub KeepsStore : ℕ → Expr → Expr → State → State → Type 0
KeepsStore r at value before after =
    (vs : List Value) (heap : Heap) (number : ℕ → ℤ) (array : ℕ → Option ℕ) (i : ℕ) (cell : ArrayCell) (index : ℕ)
    → HoldsIn before vs heap number array → IsHeap heap → HasItem heap number (array r) at i cell index
    → FitsSigned w32 (worth number value)
    → HoldsOn before after vs (with_item heap i cell index (item_of cell.place (worth number value))) number array

-- An array of this type and length comes behind the others.
abbrev pub KeepsNewArray : Place → Expr → State → State → Type 0
KeepsNewArray place length_is before after =
    (vs : List Value) (heap : Heap) (number : ℕ → ℤ) (array : ℕ → Option ℕ) (cell : ArrayCell)
    → HoldsIn before vs heap number array
    → cell.place ≡ place → worth number length_is ≡ pos (length cell.items) → AllByRecursion (λ n. n ≡ pos 0) cell.items
    → HoldsOn before after (vs ++ values.Array (length heap) ∷ []) (heap ++ cell ∷ []) number array

abbrev pub listed : Option Value → List Value
listed None = []
listed (Some value) = value ∷ []

-- A call gives a value of its place, or none, and an array that it gives was passed or is new. Arrays that were not
-- passed keep their items.
abbrev pub KeepsCall : ℕ → ℕ → Place → State → State → Type 0
KeepsCall first args place before after =
    (vs : List Value) (heap new : Heap) (number : ℕ → ℤ) (array : ℕ → Option ℕ) (result : Option Value)
    → HoldsIn before vs heap number array
    → IsHeap new → KeepsArrays heap new (take args (drop first vs)) → FitsResult new place result
    → IsPassedOrNew heap (take args (drop first vs)) result
    → HoldsOn before after (vs ++ listed result) new number array
