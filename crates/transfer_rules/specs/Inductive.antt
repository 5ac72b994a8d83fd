-- Invariants: a state for each block, of which each edge shows that of its target.
use Rattle.std.specs.Prelude.{◌≡◌, ℕ, ◌<◌, true, List, length, get_or, None}
use Rattle.machine_points.specs.declared.point.Point.{Point}
use Rattle.merged_states.specs.Inclusion.{is_included}
use Rattle.state_facts.specs.Holds.{HoldsAt}
use Rattle.state_facts.specs.StateFacts.{State}
use Rattle.transfer_rules.specs.Entry.{entry}
use Rattle.transfer_rules.specs.Flow.{Fits, along_edge, before_last}
use Rattle.unit_flow.specs.Flow.{edge_at}
use Rattle.unit_flow.specs.Runs.{ComesTo, IsReachedAt}
use Rattle.unit_flow.specs.declared.unit_flow.UnitFlow.{UnitFlow}

-- The state of a block.
abbrev pub state_at : List State → ℕ → State
state_at states block = get_or states block None

-- Each state fits the block of its place.
abbrev pub AllFit : UnitFlow → List State → Type 0
AllFit code states = (block : ℕ) → block < length states → Fits code block (state_at states block)

-- There is a state for each block, and it fits the block. Where typing does not come, nothing is reached.
pub record HasShape (code : UnitFlow) (states : List State) : Type 0 where
  pub count : length states ≡ length code.graph.blocks
  pub fit : AllFit code states

-- The state along an edge from that of its source is included in that of its target.
abbrev pub IsCarried : UnitFlow → List State → ℕ → Type 0
IsCarried code states edge =
    is_included (along_edge (state_at states (edge_at code edge).from) code edge)
    (state_at states (edge_at code edge).to) ≡ true

abbrev pub AllCarried : UnitFlow → List State → Type 0
AllCarried code states = (edge : ℕ) → edge < length code.graph.edges → IsCarried code states edge

-- The state where the unit begins is included in that of the first block.
abbrev pub IsBegun : UnitFlow → List State → Type 0
IsBegun code states = is_included (entry code.unit) (state_at states 0) ≡ true

-- The states have the shape, and what is included is that at the entry.
pub record AreBegun (code : UnitFlow) (states : List State) : Type 0 where
  pub shape : HasShape code states
  pub begun : IsBegun code states

-- For each block the state before its last instruction, from its state.
pub record AreBeforeLast (code : UnitFlow) (states befores : List State) : Type 0 where
  pub count : length befores ≡ length states
  pub each : (block : ℕ) → block < length states
      → state_at befores block ≡ before_last (state_at states block) code block

-- The states have the shape, and what is included is that at the entry and along each edge.
pub record IsInductive (code : UnitFlow) (states : List State) : Type 0 where
  pub shape : HasShape code states
  pub begun : IsBegun code states
  pub edges : AllCarried code states

-- ---- what it means

-- The state of each block holds of each point that comes there.
abbrev pub HoldsWhereItComes : UnitFlow → List State → Type 0
HoldsWhereItComes code states =
    (n block : ℕ) (p : Point) → ComesTo code n block p → HoldsAt (state_at states block) p

-- The state of each block holds of each point to which a run comes there.
abbrev pub HoldsInRuns : UnitFlow → List State → Type 0
HoldsInRuns code states = (block : ℕ) (p : Point) → IsReachedAt code block p → HoldsAt (state_at states block) p
