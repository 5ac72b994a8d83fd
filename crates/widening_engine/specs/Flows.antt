-- The flow of states through code, as a trait and a graph tell it.
use Rattle.std.specs.Prelude.{◌≡◌, ◌<◌, ◌^◌, ℕ, List, length, get_or}
use Rattle.domain_api.specs.declared.flow_state.FlowState.{Ghosts as FlowWords}
use Rattle.domain_api.specs.declared.lattice.Lattice.{Ghosts as LatticeWords}
use Rattle.flow_graph.specs.declared.graph.Edge.{Edge}
use Rattle.flow_graph.specs.declared.graph.Graph.{Graph}
use Rattle.widening_engine.specs.Rounds.{Flow, state_at}

-- The flow that the words of a trait tell of some code.
abbrev pub flow_of : {S Code Gauge Point : Type 0} → FlowWords S Code Gauge Point → LatticeWords S Point → Code → Flow S
flow_of words lattice code = record {
  blocks = words.block_count code;
  edges = words.edge_count code;
  source = words.source code;
  target = words.target code;
  entry = words.entry code;
  nothing = words.nothing;
  unknown = words.unknown code;
  along = λ state edge. words.along state code edge;
  join = lattice.join;
  widen = lattice.widen;
  leq = lattice.leq;
}

abbrev pub no_edge : Edge
no_edge = record { from = 0; to = 0; number = 0 }

abbrev pub edge_at : List Edge → ℕ → Edge
edge_at edges place = get_or edges place no_edge

-- These are the flow's edges: each at its place begins and ends where that of the flow does.
pub record AreEdges {S : Type 0} (flow : Flow S) (edges : List Edge) : Type 0 where
  pub count : length edges ≡ flow.edges
  pub from : (place : ℕ) → place < flow.edges → (edge_at edges place).from ≡ flow.source place
  pub to : (place : ℕ) → place < flow.edges → (edge_at edges place).to ≡ flow.target place

-- The graph has as many blocks and edges as the flow, and each edge at its place begins and ends where that of the flow
-- does.
pub record IsGraphOf {S : Type 0} (flow : Flow S) (graph : Graph) : Type 0 where
  pub blocks : length graph.blocks ≡ flow.blocks
  pub edges : AreEdges flow graph.edges

-- Blocks and edges have numbers of 32 bits.
pub record AreNumbered {S : Type 0} (flow : Flow S) : Type 0 where
  pub blocks : flow.blocks < 2 ^ 32
  pub edges : flow.edges < 2 ^ 32

-- There is a state for each block, and it fits the block.
pub record FitBlocks {S : Type 0} (flow : Flow S) (fits : ℕ → S → Type 0) (states : List S) : Type 0 where
  pub count : length states ≡ flow.blocks
  pub fit : (block : ℕ) → block < flow.blocks → fits block (state_at flow states block)
