-- What is done with an item of an array is what the machine does.
use Rattle.std.proofs.Common.{◌≡◌, ℕ, ℤ, pos, List, ◌∷◌, length, Bool, true, false, if◌then◌else◌, Option, Some, None, option_map, int_le, int_lt, slice_get, unsigned_abs, refl, sym, ap, ◌∙◌}
use Rattle.cil_model.specs.Effects.{Effect, at_index, goes_on, item_of, item_value, loads, of_place, pushes, with_item}
use Rattle.cil_model.specs.Values.{Heap, same_place}
use Rattle.cil_model.specs.declared.instruction.Instr.{Instr}
use Rattle.cil_model.specs.declared.machine.ArrayCell.{ArrayCell}
use Rattle.cil_model.specs.declared.machine.Value.{Value}
use Rattle.cil_model.specs.declared.machine.Value.TheVariants as values
use Rattle.cil_model.specs.declared.place.Place.{Place}
use Rattle.cil_eval.specs.Actions.{DoesOver, acted, goes_on as run_goes_on}
use Rattle.cil_eval.specs.ArrayRows.{bounded, loaded, loads_there, stored_heap, stores_value}
use Rattle.cil_eval.specs.Outcome.{State, after_effects}
use Rattle.clause_eval.specs.Stores.{replaced_in}
use Rattle.cil_eval.specs.declared.action.Action.{Action}
use Rattle.cil_eval.specs.declared.action.Action.TheVariants as actions

-- What holds of both branches holds of a condition, over two that are chosen by it.
pub cond_both₂ : {X Y : Type 0} (b : Bool) {x y : X} {u v : Y} (P : X → Y → Type 0) → P x u → P y v → P (if b then x else y) (if b then u else v)
cond_both₂ true P h k = h
cond_both₂ false P h k = k

module _ (cells : ℕ) (s : State) (i : Instr) (heap : Heap) (rest : List Value) (place : Place) (n : ℤ) where
  -- ---- loads

  abbrev loading : ArrayCell → List Effect
  loading cell = at_index cell n (pushes i s.running heap rest (item_value cell n))

  pushed_item : (item : Option ℤ) → after_effects cells s i (pushes i s.running heap rest (option_map values.Int item)) ≡ acted (loaded actions.Next item) rest heap s i
  pushed_item None = refl
  pushed_item (Some item) = refl

  abbrev Loads : ArrayCell → List Effect → Action → Type 0
  Loads cell es action = after_effects cells s i es ≡ acted (loaded action (slice_get cell.items (unsigned_abs n))) rest heap s i

  loads_cell : (cell : ArrayCell) → Loads cell (of_place place (Some cell) loading) (bounded place n (Some cell))
  loads_cell cell =
      cond_both₂ (same_place cell.place place) (Loads cell)
      (cond_both₂ (int_lt n (pos 0)) (Loads cell) refl
      (cond_both₂ (int_le (pos (length cell.items)) n) (Loads cell) refl (pushed_item (slice_get cell.items (unsigned_abs n)))))
      refl

  loads_from : (cell : Option ArrayCell) → after_effects cells s i (of_place place cell loading) ≡ acted (loads_there place n cell) rest heap s i
  loads_from None = refl
  loads_from (Some cell) = loads_cell cell

  -- ---- stores

  module _ (a : ℕ) (v : ℤ) where
    abbrev storing : ArrayCell → List Effect
    storing cell = at_index cell n (goes_on i s.running (with_item heap a cell (unsigned_abs n) (item_of place v)) rest)

    abbrev after : Action → Option ArrayCell → Heap
    after actions.Next cell = replaced_in heap a (unsigned_abs n) (item_of place v) cell
    after action cell = heap

    abbrev Stores : ArrayCell → List Effect → Action → Type 0
    Stores cell es action = after_effects cells s i es ≡ acted action rest (after action (Some cell)) s i

    stores_cell : (cell : ArrayCell) → Stores cell (of_place place (Some cell) storing) (bounded place n (Some cell))
    stores_cell cell =
        cond_both₂ (same_place cell.place place) (Stores cell)
        (cond_both₂ (int_lt n (pos 0)) (Stores cell) refl (cond_both₂ (int_le (pos (length cell.items)) n) (Stores cell) refl refl)) refl

    stores_from : (cell : Option ArrayCell) → after_effects cells s i (of_place place cell storing) ≡ acted (bounded place n cell) rest (after (bounded place n cell) cell) s i
    stores_from None = refl
    stores_from (Some cell) = stores_cell cell

pub loads_by : (cells : ℕ) (place : Place) (n : ℤ) (a : ℕ) (action : Action) (old rest : List Value) (heap : Heap) → old ≡ values.Int n ∷ values.Array a ∷ rest
    → action ≡ loads_there place n (slice_get heap a) → DoesOver cells (loads place) action old rest heap heap
loads_by cells place n a action old rest heap is e s i = rw (is, e) (loads_from cells s i heap rest place n (slice_get heap a))

same_after : (action : Action) (place : Place) (heap : Heap) (a : ℕ) (n v : ℤ) (s : State) (i : Instr) (rest : List Value) (cells : ℕ)
    → after cells s i heap rest place n a v action (slice_get heap a) ≡ stored_heap action place heap a (unsigned_abs n) v
same_after actions.Next place heap a n v s i rest cells = refl
same_after (actions.Push value) place heap a n v s i rest cells = refl
same_after (actions.Jump at) place heap a n v s i rest cells = refl
same_after (actions.Fault kind) place heap a n v s i rest cells = refl
same_after actions.Assumed place heap a n v s i rest cells = refl
same_after actions.Cells place heap a n v s i rest cells = refl
same_after actions.Stuck place heap a n v s i rest cells = refl

-- A store that ends the run leaves the heap.
pub stored_at_end : (action : Action) (place : Place) (heap : Heap) (a n : ℕ) (v : ℤ) → run_goes_on action ≡ false → stored_heap action place heap a n v ≡ heap
stored_at_end actions.Next place heap a n v e = absurd cc
stored_at_end _ place heap a n v e = refl

pub stores_by : (cells : ℕ) (place : Place) (n v : ℤ) (a : ℕ) (action : Action) (value : Value) (old rest : List Value) (heap new : Heap)
    → value ≡ values.Int v → old ≡ values.Int n ∷ values.Array a ∷ rest → action ≡ bounded place n (slice_get heap a)
    → new ≡ stored_heap action place heap a (unsigned_abs n) v → DoesOver cells (stores_value place value) action old rest heap new
stores_by cells place n v a action value old rest heap new one is e to s i =
    rw (one, is) (stores_from cells s i heap rest place n a v (slice_get heap a)
    ∙ ap (λ (x : Action). acted x rest (after cells s i heap rest place n a v x (slice_get heap a)) s i) (sym e)
    ∙ ap (λ (h : Heap). acted action rest h s i) (same_after action place heap a n v s i rest cells ∙ sym to))
