-- What an instruction does with the address of an item.
use Rattle.std.specs.Prelude.{ℕ, ℤ, length, nat_lt, Option, Some, None, if◌then◌else◌, slice_get, unsigned_abs}
use Rattle.cil_model.specs.Values.{same_place}
use Rattle.cil_model.specs.declared.machine.ArrayCell.{ArrayCell}
use Rattle.cil_model.specs.declared.machine.Value.TheVariants as values
use Rattle.cil_model.specs.declared.place.Place.{Place}
use Rattle.cil_eval.specs.ArrayRows.{loaded}
use Rattle.cil_eval.specs.declared.action.Action.{Action}
use Rattle.cil_eval.specs.declared.action.Action.TheVariants as actions

-- The address of the item is pushed where the array has it.
abbrev pub addressed : ℕ → ℤ → Action → Action
addressed a n actions.Next = actions.Push (values.Addr a (unsigned_abs n))
addressed a n action = action

-- The item of this index is pushed where the array is of this type and has it.
abbrev pub loads_at : Place → ℕ → Option ArrayCell → Action
loads_at place n None = actions.Stuck
loads_at place n (Some cell) = if same_place cell.place place then loaded actions.Next (slice_get cell.items n) else actions.Stuck

-- That an array of this type has the item of this index.
abbrev pub there : Place → ℕ → Option ArrayCell → Action
there place n None = actions.Stuck
there place n (Some cell) =
    if same_place cell.place place then (if nat_lt n (length cell.items) then actions.Next else actions.Stuck) else actions.Stuck
