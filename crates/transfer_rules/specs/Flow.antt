-- How states flow along the edges of a unit's graph: through the instructions of the block that an edge leaves.
use Rattle.std.specs.Prelude.{◌≡◌, ℕ, List, [], ◌∷◌}
use Rattle.cil_model.specs.declared.instruction.Instr.{Instr}
use Rattle.cil_model.specs.declared.unit.Unit.{Unit as MethodUnit}
use Rattle.merged_states.specs.Merging.{normal}
use Rattle.state_facts.specs.StateFacts.{State}
use Rattle.transfer_rules.specs.Forms.{FitsStack}
use Rattle.transfer_rules.specs.Owed.{CanDo}
use Rattle.transfer_rules.specs.Post as rules
use Rattle.unit_flow.specs.Flow.{block_instrs, edge_at, kinds_at}
use Rattle.unit_flow.specs.declared.unit_flow.UnitFlow.{UnitFlow}

-- Behind all instructions but the last, and then along the way of this number on from the last.
abbrev pub through : MethodUnit → ℕ → List Instr → State → State
through unit number [] state = state
through unit number (i ∷ []) state = rules.along unit i.op number state
through unit number (i ∷ j ∷ is) state = through unit number (j ∷ is) (rules.post unit i.op state)

-- Behind all instructions but the last.
abbrev pub up_to_last : MethodUnit → List Instr → State → State
up_to_last unit [] state = state
up_to_last unit (i ∷ []) state = state
up_to_last unit (i ∷ j ∷ is) state = up_to_last unit (j ∷ is) (rules.post unit i.op state)

-- From the state before the last of these instructions: along the way of this number on from it.
abbrev pub from_last : MethodUnit → ℕ → List Instr → State → State
from_last unit number [] state = state
from_last unit number (i ∷ []) state = rules.along unit i.op number state
from_last unit number (i ∷ j ∷ is) state = from_last unit number (j ∷ is) state

-- Each rule on the way may be asked of the state there.
abbrev pub AreReady : MethodUnit → List Instr → State → Type 0
AreReady unit [] state = Unit {0}
AreReady unit (i ∷ is) state = CanDo unit i.op state × AreReady unit is (rules.post unit i.op state)

-- The rule of the last of these instructions may be asked of the state before it.
abbrev pub CanLeave : MethodUnit → List Instr → State → Type 0
CanLeave unit [] state = Unit {0}
CanLeave unit (i ∷ []) state = CanDo unit i.op state
CanLeave unit (i ∷ j ∷ is) state = CanLeave unit (j ∷ is) state

-- The state before the last instruction of a block, from the one at its start.
unfoldable pub before_last : State → UnitFlow → ℕ → State
before_last state code block = up_to_last code.unit (block_instrs code block) state

-- The state at the end of an edge in normal form, from the one before the last instruction of the block that it leaves.
unfoldable pub leaving : State → UnitFlow → ℕ → State
leaving state code edge =
    normal (from_last code.unit (edge_at code edge).number (block_instrs code (edge_at code edge).from) state)

-- The state at the end of an edge, from the one at its begin: through the block that it leaves, in normal form.
unfoldable pub along_edge : State → UnitFlow → ℕ → State
along_edge state code edge =
    normal (through code.unit (edge_at code edge).number (block_instrs code (edge_at code edge).from) state)

-- The state fits the start of a block.
abbrev pub Fits : UnitFlow → ℕ → State → Type 0
Fits code block state = FitsStack code.unit (kinds_at code block) state

-- The state is the one before the last instruction of a block, from one that fits its start.
abbrev pub ComesThrough : UnitFlow → ℕ → State → Type 0
ComesThrough code block state = (first : State) × Fits code block first × (state ≡ before_last first code block)
