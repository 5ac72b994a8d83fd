-- Worlds whose units agree on what they say of each other.
use Rattle.std.specs.Prelude.{◌≡◌, ℕ, List, length, Some, slice_get}
use Rattle.cil_model.specs.Calls.{callee_index, clauses_in_force}
use Rattle.cil_model.specs.declared.machine.World.{World}
use Rattle.cil_model.specs.declared.unit.CalleeInfo.{CalleeInfo}
use Rattle.cil_model.specs.declared.unit.Unit.{Unit as MethodUnit}

-- What a unit's callers know of it.
abbrev pub info_of : MethodUnit → CalleeInfo
info_of unit = record { name = unit.name; result = unit.result; args = unit.args; clauses = clauses_in_force unit }

-- The callee of this number in the unit of this index is a unit of the world, and is what the entry says.
pub record Names (w : World) (unit number : ℕ) (callee : CalleeInfo) : Type 0 where
  pub index : ℕ
  pub named : MethodUnit
  pub index_is : callee_index w unit number ≡ Some index
  pub named_is : slice_get w.units index ≡ Some named
  pub same : callee ≡ info_of named

-- Each unit has a list of the indexes of its callees, one for each entry, and each entry tells the name, the
-- places and the clauses of the unit that it names.
pub record Agree (w : World) : Type 0 where
  pub lists : length w.callee ≡ length w.units
  pub counts : (m : ℕ) (unit : MethodUnit) (callees : List ℕ) → slice_get w.units m ≡ Some unit
      → slice_get w.callee m ≡ Some callees → length callees ≡ length unit.callees
  pub entries : (m : ℕ) (unit : MethodUnit) (number : ℕ) (callee : CalleeInfo) → slice_get w.units m ≡ Some unit
      → slice_get unit.callees number ≡ Some callee → Names w m number callee
