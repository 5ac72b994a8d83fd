-- What it means that faults are ruled out, and that they did not come.
use Rattle.std.specs.Prelude.{◌≡◌, ℕ, false, []}
use Rattle.cil_model.specs.Calls.{FreeCall}
use Rattle.cil_model.specs.Effects.{Effect, Faults, HasEffect, effects}
use Rattle.cil_model.specs.Runs.{Row}
use Rattle.cil_model.specs.declared.instruction.Instr.{Instr}
use Rattle.cil_model.specs.declared.instruction.Op.{Op}
use Rattle.cil_model.specs.declared.machine.Config.TheVariants.{Fault}
use Rattle.cil_model.specs.declared.machine.FaultKind.{FaultKind}
use Rattle.cil_model.specs.declared.unit.Unit.{Unit as MethodUnit}
use Rattle.machine_points.specs.Points.{IsPointOf}
use Rattle.machine_points.specs.declared.point.Point.{Point}
use Rattle.state_facts.specs.Holds.{HoldsAt}
use Rattle.state_facts.specs.StateFacts.{State}
use Rattle.obligation_prover.specs.Faults.{is_of_clause}

-- No instruction of the unit with this operation ends in the fault at a point of which the state holds.
abbrev pub RulesOut : MethodUnit → Op → FaultKind → State → Type 0
RulesOut unit op kind state =
    (i : Instr) (p : Point) → i.op ≡ op → HoldsAt state p → HasEffect (effects unit i p.frame p.heap) (Faults kind) → ⊥

-- The new state holds of each point of which the old one does, and where an instruction of the unit with this operation
-- does something else than to end in a fault.
abbrev pub AssumesNoFault : MethodUnit → Op → State → State → Type 0
AssumesNoFault unit op old new =
    (i : Instr) (p : Point) (effect : Effect) → i.op ≡ op → HoldsAt old p → HasEffect (effects unit i p.frame p.heap) effect
    → ((kind : FaultKind) → effect ≡ Faults kind → ⊥) → HoldsAt new p

-- No instruction of the unit with this operation finds a clause false at a point of which the state holds: what it may
-- end in is a fault of its own.
abbrev pub FindsNoneFalse : MethodUnit → Op → State → Type 0
FindsNoneFalse unit op state =
    (i : Instr) (p : Point) (kind : FaultKind) (index at : ℕ) → i.op ≡ op → IsPointOf unit p → HoldsAt state p
    → Row (FreeCall unit) i.op [] unit i p.frame p.heap (Fault kind index at) → is_of_clause kind ≡ false
