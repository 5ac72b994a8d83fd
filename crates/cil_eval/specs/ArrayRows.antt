-- What an instruction does with an item of an array.
use Rattle.std.specs.Prelude.{ℕ, ℤ, pos, ◌∷◌, length, Option, Some, None, if◌then◌else◌, int_le, int_lt, slice_get, unsigned_abs}
use Rattle.std.specs.Option.{option_and_then}
use Rattle.cil_model.specs.Effects.{item_of, stores}
use Rattle.cil_model.specs.Values.{Heap, same_place}
use Rattle.cil_model.specs.declared.machine.ArrayCell.{ArrayCell}
use Rattle.cil_model.specs.declared.machine.FaultKind.TheVariants as faults
use Rattle.cil_model.specs.declared.machine.Value.{Value}
use Rattle.cil_model.specs.declared.machine.Value.TheVariants as values
use Rattle.cil_model.specs.declared.place.Place.{Place}
use Rattle.cil_eval.specs.Actions.{StackRow}
use Rattle.clause_eval.specs.Stores.{replaced}
use Rattle.cil_eval.specs.declared.action.Action.{Action}
use Rattle.cil_eval.specs.declared.action.Action.TheVariants as actions

-- That an array of this type has an item at an index, or what is wrong.
abbrev pub bounded : Place → ℤ → Option ArrayCell → Action
bounded place n None = actions.Stuck
bounded place n (Some cell) =
    if same_place cell.place place
    then (if int_lt n (pos 0) then actions.Fault faults.Lower else (if int_le (pos (length cell.items)) n then actions.Fault faults.Upper else actions.Next))
    else actions.Stuck

-- The item is pushed where the array has it.
abbrev pub loaded : Action → Option ℤ → Action
loaded actions.Next None = actions.Stuck
loaded actions.Next (Some item) = actions.Push (values.Int item)
loaded action item = action

abbrev pub loads_there : Place → ℤ → Option ArrayCell → Action
loads_there place n cell = loaded (bounded place n cell) (option_and_then (λ cell. slice_get cell.items (unsigned_abs n)) cell)

-- The item is stored where the array has it.
abbrev pub stored_heap : Action → Place → Heap → ℕ → ℕ → ℤ → Heap
stored_heap actions.Next place heap a n v = replaced heap a n (item_of place v)
stored_heap action place heap a n v = heap

-- A store of a value that is taken from the stack already.
abbrev pub stores_value : Place → Value → StackRow
stores_value place value i f heap stack = stores place i f heap (value ∷ stack)
