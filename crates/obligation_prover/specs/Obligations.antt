-- The obligations of a unit: that no instruction of its body ends in a fault, its own or that of a clause that it
-- tests.
use Rattle.std.specs.Prelude.{nat_le, if◌then◌else◌, ◌++◌, map, List, [], None}
use Rattle.std.specs.List.{flat_map}
use Rattle.cil_model.specs.declared.instruction.Instr.{Instr}
use Rattle.cil_model.specs.declared.machine.FaultKind.{FaultKind}
use Rattle.cil_model.specs.declared.machine.Obligation.{Obligation}
use Rattle.cil_model.specs.declared.unit.Unit.{Unit as MethodUnit}
use Rattle.obligation_prover.specs.Faults.{faults_of}
use Rattle.obligation_prover.specs.ClausesTested.{clause_obligations}

abbrev pub obligation : Instr → FaultKind → Obligation
obligation i kind = record { at = i.at; kind = kind; callee = None }

-- Its own: that it ends in none of the faults of its operation.
abbrev pub own_obligations : MethodUnit → Instr → List Obligation
own_obligations unit i = map (obligation i) (faults_of unit i.op)

-- The obligations of an instruction of the unit: its own, and those of the clauses that it tests.
abbrev pub obligations_at : MethodUnit → Instr → List Obligation
obligations_at unit i = own_obligations unit i ++ clause_obligations unit i

-- Those of it where it stands in the unit's body. What stands before the body is never executed.
abbrev pub obligations_in : MethodUnit → Instr → List Obligation
obligations_in unit i = if nat_le unit.body_start i.at then obligations_at unit i else []

-- Those of a unit, in the order of its code.
abbrev pub obligations_of : MethodUnit → List Obligation
obligations_of unit = flat_map (obligations_in unit) unit.instrs
