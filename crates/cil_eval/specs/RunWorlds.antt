-- Worlds whose methods can be run.
use Rattle.std.specs.List.{AllByRecursion}
use Rattle.cil_model.specs.WellFormed.{IsWellFormed}
use Rattle.cil_model.specs.Worlds.{Agree}
use Rattle.cil_model.specs.declared.machine.World.{World}

-- Each unit of the world is well formed, and they agree on what they say of each other.
pub record CanBeRun (w : World) : Type 0 where
  pub units : AllByRecursion IsWellFormed w.units
  pub agree : Agree w
