-- What is known where faults did not come: the conditions are met.
use Rattle.std.specs.Prelude.{Some, None}
use Rattle.std.specs.Option.{option_and_then, option_map_or}
use Rattle.cil_model.specs.declared.instruction.Op.{Op}
use Rattle.cil_model.specs.declared.machine.FaultKind.{FaultKind}
use Rattle.cil_model.specs.declared.unit.Unit.{Unit as MethodUnit}
use Rattle.state_facts.specs.StateFacts.{StateFacts, State}
use Rattle.state_obligations.specs.Assumed.{assumed_by}
use Rattle.state_obligations.specs.Judged.{judged}
use Rattle.obligation_prover.specs.Entailed.{condition_of}
use Rattle.obligation_prover.specs.Operations.{conditions_after}

-- An instruction of the unit with this operation did not end in the fault.
abbrev pub avoiding : MethodUnit → Op → FaultKind → StateFacts → State
avoiding unit op kind known = option_map_or (λ c. assumed_by c known) (condition_of unit op kind known) (Some known)

abbrev pub avoid : MethodUnit → Op → FaultKind → State → State
avoid unit op kind state = option_and_then (avoiding unit op kind) state

-- It did not end in a fault: each condition that is assumed after it is met.
abbrev pub avoid_all : Op → State → State
avoid_all op None = None
avoid_all op (Some known) = (judged (conditions_after op known) (Some known)).state
