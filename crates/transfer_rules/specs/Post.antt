-- The state after an instruction, and along each way on from it.
use Rattle.std.specs.Prelude.{ℕ}
use Rattle.std.specs.Option.{option_and_then}
use Rattle.cil_model.specs.declared.instruction.Op.{Op}
use Rattle.cil_model.specs.declared.unit.Unit.{Unit as MethodUnit}
use Rattle.obligation_prover.specs.Avoiding.{avoid_all}
use Rattle.state_facts.specs.StateFacts.{State}
use Rattle.transfer_rules.specs.Acts.{acted}
use Rattle.transfer_rules.specs.Choices.{chosen}

-- The instruction did not end in a fault, and its operation did what it does. Of a branch nothing is assumed here.
unfoldable pub post : MethodUnit → Op → State → State
post unit op state = option_and_then (acted unit op) (avoid_all op state)

-- So along the way of this number, which is assumed to have been taken.
unfoldable pub along : MethodUnit → Op → ℕ → State → State
along unit op way state = option_and_then (acted unit op) (option_and_then (chosen op way) (avoid_all op state))
