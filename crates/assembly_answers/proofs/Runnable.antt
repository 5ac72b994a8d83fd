-- The worlds of methods can be run, and begin with the methods.
use Rattle.std.proofs.Common.{◌≡◌, ℕ, ◌<◌, ◌==◌, ◌&&◌, not, List, [], ◌∷◌, length, filter, filter_map, Option, Some, None, IsSome, refl, arith}
use Rattle.std.specs.List.{AllByRecursion}
use Rattle.cil_eval.specs.RunWorlds.{CanBeRun}
use Rattle.cil_model.specs.WellFormed.{IsWellFormed}
use Rattle.cil_model.specs.Worlds.{Agree}
use Rattle.cil_model.specs.declared.machine.World.{World}
use Rattle.cil_model.specs.declared.unit.Unit.{Unit as MethodUnit}
use Rattle.asm_image.specs.Rows.{methods_of}
use Rattle.method_unit.specs.Units.{IsUnit}
use Rattle.unit_builder.specs.WorldOf.{world_of, world_tokens}
use Rattle.unit_builder.specs.Walks.{is_reached, tokens_in, unit_at}

all_formed : (units : List MethodUnit) → AllByRecursion IsUnit units → AllByRecursion IsWellFormed units
all_formed [] all = tt
all_formed (unit ∷ units) all = (all.0.well_formed, all_formed units all.1)

pub can_be_run : (w : World) → AllByRecursion IsUnit w.units → Agree w → CanBeRun w
can_be_run w units agree = record { units = all_formed w.units units; agree = agree }

-- A world has the method's own unit, where it is analysed.
first_kept : (bytes : List ℕ) (from : ℕ) (others : List ℕ) (unit : Option MethodUnit) → unit_at bytes from ≡ unit → IsSome unit
    → 0 < length (filter_map (unit_at bytes) (from ∷ others))
first_kept bytes from others None is some = absurd cc
first_kept bytes from others (Some unit) is some = rw is (omega arith)

pub has_first : (bytes : List ℕ) (from : ℕ) (w : World) → w ≡ world_of bytes from → IsSome (unit_at bytes from) → 0 < length w.units
unfolding world_of world_tokens
has_first bytes from w is some =
    rw is (first_kept bytes from (filter (λ token. not (token == from) && is_reached bytes from token) (tokens_in (methods_of bytes))) (unit_at bytes from) refl some)
