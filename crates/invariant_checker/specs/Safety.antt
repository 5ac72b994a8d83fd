-- When a unit is safe.
use Rattle.std.specs.Prelude.{◌≡◌, ℕ, [], Some, slice_get}
use Rattle.cil_model.specs.Runs.{LocalSafe, Safe}
use Rattle.cil_model.specs.declared.machine.World.{World}
use Rattle.cil_model.specs.declared.unit.Unit.{Unit as MethodUnit}

-- No run of the unit by itself ends in a fault or where nothing is defined. Where it has no callees, neither does one
-- wherever it stands in a world.
pub record IsSafe (unit : MethodUnit) : Type 0 where
  pub local : LocalSafe unit
  pub worlds : unit.callees ≡ [] → (w : World) (m : ℕ) → slice_get w.units m ≡ Some unit → Safe w m
