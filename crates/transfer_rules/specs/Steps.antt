-- What it means that a state is that after an instruction.
use Rattle.std.specs.Prelude.{◌≡◌, ℕ}
use Rattle.cil_model.specs.declared.instruction.Instr.{Instr}
use Rattle.cil_model.specs.declared.instruction.Op.{Op}
use Rattle.cil_model.specs.declared.unit.Unit.{Unit as MethodUnit}
use Rattle.machine_points.specs.MachineValues.{HasMachineValues}
use Rattle.machine_points.specs.declared.point.Point.{Point}
use Rattle.state_facts.specs.Holds.{HoldsAt}
use Rattle.state_facts.specs.StateFacts.{State}
use Rattle.unit_flow.specs.Flow.{Steps}
use Rattle.unit_flow.specs.Ways.{way_of}

-- A point of the unit, of which the state holds, goes on by an instruction with this operation to the new point, which
-- has values of the machine. A call of a method gives any result and any heap that what the method ensures allows.
pub record GoesBy (unit : MethodUnit) (op : Op) (state : State) (p q : Point) : Type 0 where
  pub instr : Instr
  pub does : instr.op ≡ op
  pub holds : HoldsAt state p
  pub steps : Steps unit instr p q
  pub values : HasMachineValues q

-- The new state holds wherever the operation leads to from where the old one holds.
abbrev pub HoldsBehind : MethodUnit → Op → State → State → Type 0
HoldsBehind unit op old behind = (p q : Point) → GoesBy unit op old p q → HoldsAt behind q

-- So where the machine takes the way of this number.
abbrev pub HoldsAlong : MethodUnit → Op → ℕ → State → State → Type 0
HoldsAlong unit op way old behind =
    (p q : Point) → GoesBy unit op old p q → way_of op p.frame.stack ≡ way → HoldsAt behind q
