-- The verdicts on the units of a world, and what it means that all are proved.
use Rattle.std.specs.Prelude.{◌≡◌, Bool, List, [], ◌∷◌, map}
use Rattle.std.specs.List.{list_all}
use Rattle.cil_model.specs.Worlds.{Agree}
use Rattle.cil_model.specs.declared.machine.World.{World}
use Rattle.invariant_checker.specs.Counts as unit
use Rattle.invariant_checker.specs.Verdicts.{verdicts}
use Rattle.invariant_checker.specs.declared.verdict.Verdict.{Verdict}
use Rattle.safe_worlds.specs.Worlds.{AreSafe}
use Rattle.abs_state.specs.declared.invariant.Invariant.{Invariant}
use Rattle.unit_flow.specs.declared.unit_flow.UnitFlow.{UnitFlow}

-- The verdicts on each unit under the invariant of its place.
abbrev pub verdicts_of_world : List UnitFlow → List Invariant → List (List Verdict)
verdicts_of_world (code ∷ codes) (invariant ∷ invariants) =
    verdicts code invariant.states.items ∷ verdicts_of_world codes invariants
verdicts_of_world _ _ = []

-- All verdicts on all units are proved.
abbrev pub all_proved : List (List Verdict) → Bool
all_proved found = list_all unit.all_proved found

-- Each method is safe in every world of these units that agree on what they say of each other.
abbrev pub MakesSafe : List UnitFlow → Type 0
MakesSafe codes = (w : World) → w.units ≡ map (λ code. code.unit) codes → Agree w → AreSafe w
