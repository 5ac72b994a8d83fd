-- The states at the returns of a unit that are reached: the result was put into its place, and no Ensures is assumed.
use Rattle.std.specs.Prelude.{ℕ, Bool, true, false, List, [], ◌∷◌, ◌++◌, length, Some, None, if◌then◌else◌}
use Rattle.std.specs.List.{flat_map, range_with_len}
use Rattle.cil_model.specs.declared.instruction.Instr.{Instr}
use Rattle.cil_model.specs.declared.instruction.Op.{Op}
use Rattle.cil_model.specs.declared.instruction.Op.TheVariants as ops
use Rattle.cil_model.specs.declared.unit.Unit.{Unit as MethodUnit}
use Rattle.contract_calls.specs.Arguments.{put_result}
use Rattle.state_facts.specs.StateFacts.{State}
use Rattle.transfer_rules.specs.Inductive.{state_at}
use Rattle.transfer_rules.specs.Post.{post}
use Rattle.unit_flow.specs.Flow.{block_instrs}
use Rattle.unit_flow.specs.declared.unit_flow.UnitFlow.{UnitFlow}

abbrev pub is_return : Op → Bool
is_return ops.Return = true
is_return _ = false

-- The state alone, where something is reached.
abbrev pub if_reached : State → List State
if_reached None = []
if_reached (Some known) = Some known ∷ []

-- At one instruction, from the state before it.
abbrev pub returned : MethodUnit → Op → State → List State
returned unit op state = if is_return op then if_reached (put_result unit.result state) else []

-- At instructions that follow each other, from the state before the first.
abbrev pub returns_from : MethodUnit → List Instr → State → List State
returns_from unit [] state = []
returns_from unit (i ∷ is) state = returned unit i.op state ++ returns_from unit is (post unit i.op state)

-- In a block, from the state at its start.
abbrev pub returns_of_block : UnitFlow → State → ℕ → List State
returns_of_block code state block = returns_from code.unit (block_instrs code block) state

abbrev pub returns_in : UnitFlow → List State → ℕ → List State
returns_in code states block = returns_of_block code (state_at states block) block

-- In all blocks, in order.
abbrev pub returns_of : UnitFlow → List State → List State
returns_of code states = flat_map (returns_in code states) (range_with_len 0 (length code.graph.blocks))
