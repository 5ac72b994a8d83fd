-- What is done with the address of an item is what the machine does.
use Rattle.std.proofs.Common.{◌≡◌, ℕ, ℤ, pos, List, [], ◌∷◌, length, if◌then◌else◌, Option, Some, None, option_map, int_le, int_lt, nat_lt, slice_get, unsigned_abs, refl, sym, ap, ◌∙◌}
use Rattle.cil_model.specs.Effects.{Effect, addresses, at_index, goes_on, item_of, loads_through, of_place, pushes, stores_through, with_item}
use Rattle.cil_model.specs.Values.{Heap, same_place}
use Rattle.cil_model.specs.declared.instruction.Instr.{Instr}
use Rattle.cil_model.specs.declared.machine.ArrayCell.{ArrayCell}
use Rattle.cil_model.specs.declared.machine.Value.{Value}
use Rattle.cil_model.specs.declared.machine.Value.TheVariants as values
use Rattle.cil_model.specs.declared.place.Place.{Place}
use Rattle.cil_eval.specs.Actions.{DoesOver, acted}
use Rattle.cil_eval.specs.AddressRows.{addressed, loads_at, there}
use Rattle.cil_eval.specs.ArrayRows.{bounded, loaded, stored_heap}
use Rattle.cil_eval.specs.Outcome.{State, after_effects}
use Rattle.clause_eval.specs.Stores.{replaced_in}
use Rattle.cil_eval.specs.declared.action.Action.{Action}
use Rattle.cil_eval.specs.declared.action.Action.TheVariants as actions
use Rattle.cil_eval.proofs.ArrayLemmas.{cond_both₂}

module _ (cells : ℕ) (s : State) (i : Instr) (heap : Heap) (rest : List Value) (place : Place) (a : ℕ) where
  -- ---- the address of an item

  module _ (n : ℤ) where
    abbrev addressing : ArrayCell → List Effect
    addressing cell = at_index cell n (goes_on i s.running heap (values.Addr a (unsigned_abs n) ∷ rest))

    abbrev Addresses : List Effect → Action → Type 0
    Addresses es action = after_effects cells s i es ≡ acted (addressed a n action) rest heap s i

    addresses_from : (cell : Option ArrayCell) → Addresses (of_place place cell addressing) (bounded place n cell)
    addresses_from None = refl
    addresses_from (Some cell) =
        cond_both₂ (same_place cell.place place) Addresses
        (cond_both₂ (int_lt n (pos 0)) Addresses refl (cond_both₂ (int_le (pos (length cell.items)) n) Addresses refl refl)) refl

  module _ (n : ℕ) where
    -- ---- loads

    abbrev loading : ArrayCell → List Effect
    loading cell = pushes i s.running heap rest (option_map values.Int (slice_get cell.items n))

    abbrev Loads : List Effect → Action → Type 0
    Loads es action = after_effects cells s i es ≡ acted action rest heap s i

    pushed_item : (item : Option ℤ) → Loads (pushes i s.running heap rest (option_map values.Int item)) (loaded actions.Next item)
    pushed_item None = refl
    pushed_item (Some item) = refl

    loads_from : (cell : Option ArrayCell) → Loads (of_place place cell loading) (loads_at place n cell)
    loads_from None = refl
    loads_from (Some cell) = cond_both₂ (same_place cell.place place) Loads (pushed_item (slice_get cell.items n)) refl

    -- ---- stores

    module _ (v : ℤ) where
      abbrev storing : ArrayCell → List Effect
      storing cell = if nat_lt n (length cell.items) then goes_on i s.running (with_item heap a cell n (item_of place v)) rest else []

      abbrev after : Action → Option ArrayCell → Heap
      after actions.Next cell = replaced_in heap a n (item_of place v) cell
      after action cell = heap

      abbrev Stores : ArrayCell → List Effect → Action → Type 0
      Stores cell es action = after_effects cells s i es ≡ acted action rest (after action (Some cell)) s i

      stores_from : (cell : Option ArrayCell) → after_effects cells s i (of_place place cell storing) ≡ acted (there place n cell) rest (after (there place n cell) cell) s i
      stores_from None = refl
      stores_from (Some cell) =
          cond_both₂ (same_place cell.place place) (Stores cell) (cond_both₂ (nat_lt n (length cell.items)) (Stores cell) refl refl) refl

      same_after : (action : Action) → after action (slice_get heap a) ≡ stored_heap action place heap a n v
      same_after actions.Next = refl
      same_after (actions.Push value) = refl
      same_after (actions.Jump at) = refl
      same_after (actions.Fault kind) = refl
      same_after actions.Assumed = refl
      same_after actions.Cells = refl
      same_after actions.Stuck = refl

pub addresses_by : (cells : ℕ) (place : Place) (n : ℤ) (a : ℕ) (action : Action) (old rest : List Value) (heap : Heap) → old ≡ values.Int n ∷ values.Array a ∷ rest
    → action ≡ addressed a n (bounded place n (slice_get heap a)) → DoesOver cells (addresses place) action old rest heap heap
addresses_by cells place n a action old rest heap is e s i = rw (is, e) (addresses_from cells s i heap rest place a n (slice_get heap a))

pub loads_through_by : (cells : ℕ) (place : Place) (n a : ℕ) (action : Action) (old rest : List Value) (heap : Heap) → old ≡ values.Addr a n ∷ rest
    → action ≡ loads_at place n (slice_get heap a) → DoesOver cells (loads_through place) action old rest heap heap
loads_through_by cells place n a action old rest heap is e s i = rw (is, e) (loads_from cells s i heap rest place a n (slice_get heap a))

pub stores_through_by : (cells : ℕ) (place : Place) (n a : ℕ) (v : ℤ) (action : Action) (old rest : List Value) (heap new : Heap)
    → old ≡ values.Int v ∷ values.Addr a n ∷ rest → action ≡ there place n (slice_get heap a)
    → new ≡ stored_heap action place heap a n v → DoesOver cells (stores_through place) action old rest heap new
stores_through_by cells place n a v action old rest heap new is e to s i =
    rw is (stores_from cells s i heap rest place a n v (slice_get heap a)
    ∙ ap (λ (x : Action). acted x rest (after cells s i heap rest place a n v x (slice_get heap a)) s i) (sym e)
    ∙ ap (λ (h : Heap). acted action rest h s i) (same_after cells s i heap rest place a n v action ∙ sym to))
