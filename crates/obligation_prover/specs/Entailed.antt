-- When what is known rules a fault out: the condition that the fault is the want of is entailed.
use Rattle.std.specs.Prelude.{Bool, true, false, Option, Some, None}
use Rattle.std.specs.Option.{option_map_or}
use Rattle.cil_model.specs.declared.instruction.Op.{Op}
use Rattle.cil_model.specs.declared.machine.FaultKind.{FaultKind}
use Rattle.cil_model.specs.declared.unit.Unit.{Unit as MethodUnit}
use Rattle.state_facts.specs.StateFacts.{StateFacts, State}
use Rattle.state_obligations.specs.Conditions.{with_fault}
use Rattle.state_obligations.specs.Entailed.{entailed_by}
use Rattle.state_obligations.specs.declared.condition.Condition.{Condition}
use Rattle.obligation_prover.specs.Operations.{conditions_at}

-- The condition of an operation that is of a fault, among those that it is judged by.
abbrev pub condition_of : MethodUnit → Op → FaultKind → StateFacts → Option Condition
condition_of unit op kind known = with_fault kind (conditions_at op known)

-- Everything is ruled out where nothing is reached.
abbrev pub rules_out : MethodUnit → Op → FaultKind → State → Bool
rules_out unit op kind None = true
rules_out unit op kind (Some known) = option_map_or (λ c. entailed_by c known) (condition_of unit op kind known) false
