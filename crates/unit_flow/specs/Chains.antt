-- The instructions of a block: each but the last goes on to the next alone, each edge that leaves the block goes on
-- from the last, and wherever the last goes on in the body, an edge leads.
use Rattle.std.specs.Prelude.{◌≡◌, ℕ, ◌+◌, ◌<◌, ◌≤◌, true, false, List, [], ◌∷◌, length, get_or, Some, slice_get}
use Rattle.cil_model.specs.Blocks.{is_block_start}
use Rattle.cil_model.specs.Bodies.{is_executed}
use Rattle.cil_model.specs.Passes.{successors}
use Rattle.cil_model.specs.Runs.{instr_at}
use Rattle.cil_model.specs.declared.instruction.Instr.{Instr}
use Rattle.cil_model.specs.declared.unit.Unit.{Unit as MethodUnit}
use Rattle.flow_graph.specs.declared.graph.Graph.{Graph}
use Rattle.unit_flow.specs.Flow.{no_edge}
use Rattle.unit_flow.specs.Ways.{IsShortSwitch}

-- ---- within a block

-- The instruction at an IL offset, which goes on to the next one alone.
pub record IsPassed (unit : MethodUnit) (at : ℕ) (i : Instr) : Type 0 where
  pub here : i.at ≡ at
  pub executed : is_executed i.op ≡ true
  pub found : instr_at unit.instrs i.at ≡ Some i
  pub next : successors i.op (i.at + i.size) ≡ (i.at + i.size) ∷ []

-- So it is, and no block starts at the next one.
pub record StaysInBlock (unit : MethodUnit) (at : ℕ) (i : Instr) : Type 0 where
  pub passed : IsPassed unit at i
  pub inner : is_block_start unit (i.at + i.size) ≡ false

-- ---- the way to an edge's target

-- The instruction at an IL offset, whose way of this number goes to the target.
pub record IsLeft (unit : MethodUnit) (at number target : ℕ) (i : Instr) : Type 0 where
  pub here : i.at ≡ at
  pub executed : is_executed i.op ≡ true
  pub short : IsShortSwitch i.op
  pub found : instr_at unit.instrs i.at ≡ Some i
  pub goes : slice_get (successors i.op (i.at + i.size)) number ≡ Some target

-- The instructions from an IL offset on: the last is left on the way of this number to the target.
abbrev pub IsWay : MethodUnit → ℕ → ℕ → ℕ → List Instr → Type 0
IsWay unit at number target [] = ⊥
IsWay unit at number target (i ∷ []) = IsLeft unit at number target i
IsWay unit at number target (i ∷ j ∷ is) = IsPassed unit at i × IsWay unit (i.at + i.size) number target (j ∷ is)

-- ---- all ways on from a block

-- An edge of the graph goes from this block by this number to the block that starts at the target.
pub record Leads (graph : Graph) (block way target : ℕ) : Type 0 where
  pub edge : ℕ
  pub below : edge < length graph.edges
  pub from : (get_or graph.edges edge no_edge).from ≡ block
  pub number : (get_or graph.edges edge no_edge).number ≡ way
  pub to : get_or graph.blocks (get_or graph.edges edge no_edge).to 0 ≡ target

-- The instruction at an IL offset is the last of its block: an edge leads wherever it goes on in the body.
pub record IsLast (unit : MethodUnit) (graph : Graph) (block at : ℕ) (i : Instr) : Type 0 where
  pub here : i.at ≡ at
  pub executed : is_executed i.op ≡ true
  pub short : IsShortSwitch i.op
  pub found : instr_at unit.instrs i.at ≡ Some i
  pub leads : (n target : ℕ) (j : Instr) → slice_get (successors i.op (i.at + i.size)) n ≡ Some target
      → unit.body_start ≤ target → instr_at unit.instrs target ≡ Some j → Leads graph block n target

-- These are the instructions of a block from an IL offset on.
abbrev pub IsChain : MethodUnit → Graph → ℕ → ℕ → List Instr → Type 0
IsChain unit graph block at [] = ⊥
IsChain unit graph block at (i ∷ []) = IsLast unit graph block at i
IsChain unit graph block at (i ∷ j ∷ is) = StaysInBlock unit at i × IsChain unit graph block (i.at + i.size) (j ∷ is)
