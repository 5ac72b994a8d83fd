-- The rows of instructions that touch the stack alone.
use Rattle.std.specs.Prelude.{◌^◌, ◌<◌, ℤ, pos, Bool, true, false, List, [], ◌∷◌, Option, Some, None, if◌then◌else◌}
use Rattle.std.specs.Ordering.{int_eq}
use Rattle.cil_model.specs.Effects.{Effect, Faults, Assumes, goes_on, below_message, contract_call, tests_condition}
use Rattle.cil_model.specs.Values.{Heap}
use Rattle.cil_model.specs.declared.instruction.Instr.{Instr}
use Rattle.cil_model.specs.declared.instruction.Test.{Test}
use Rattle.cil_model.specs.declared.instruction.Test.TheVariants as tests
use Rattle.cil_model.specs.declared.machine.FaultKind.TheVariants as faults
use Rattle.cil_model.specs.declared.machine.Frame.{Frame}
use Rattle.cil_model.specs.declared.machine.Value.{Value}
use Rattle.cil_model.specs.declared.machine.Value.TheVariants as values
use Rattle.cil_model.specs.declared.unit_numbers.UnitCall.{UnitCall}
use Rattle.cil_eval.specs.Actions.{StackRow}

-- A length is that of an array.
abbrev pub IsLength : Value → Type 0
IsLength (values.Native n) = n < 2 ^ 31
IsLength _ = Unit {0}

-- The test of brtrue, or of brfalse.
abbrev pub tested : Bool → Test
tested true = tests.True
tested false = tests.False

-- What a condition makes of the rest of the stack.
abbrev pub tested_number : Effect → Instr → Frame → Heap → List Value → Option ℤ → List Effect
tested_number otherwise i f heap rest None = []
tested_number otherwise i f heap rest (Some n) = if int_eq n (pos 0) then otherwise ∷ [] else goes_on i f heap rest

abbrev pub asserts : Bool → StackRow
asserts message i f heap stack = tests_condition (Faults faults.Assert) i (record f { stack = stack }) heap (below_message message stack)

abbrev pub assumes : Bool → StackRow
assumes message i f heap stack = tests_condition Assumes i (record f { stack = stack }) heap (below_message message stack)

-- The calls of contracts that a body may have.
abbrev pub contract_row : Option UnitCall → StackRow
contract_row call i f heap stack = contract_call call i (record f { stack = stack }) heap
