-- Runs of the machine along the edges of a unit's graph.
use Rattle.std.specs.Prelude.{◌≡◌, ℕ, ◌+◌, ◌<◌, length, Some, slice_get}
use Rattle.cil_model.specs.Passes.{successors}
use Rattle.cil_model.specs.declared.instruction.Instr.{Instr}
use Rattle.cil_model.specs.declared.unit.Unit.{Unit as MethodUnit}
use Rattle.machine_points.specs.Flows.{ComesAlong, Edges}
use Rattle.machine_points.specs.Points.{IsReached}
use Rattle.machine_points.specs.declared.point.Point.{Point}
use Rattle.unit_flow.specs.Flow.{Begins, GoesAlong, Steps, edge_at, start_of}
use Rattle.unit_flow.specs.Ways.{way_of}
use Rattle.unit_flow.specs.declared.unit_flow.UnitFlow.{UnitFlow}

-- Of the IL offsets to which an instruction goes on, each step goes to the one of the way that the machine takes.
abbrev pub TakesWay : MethodUnit → Instr → Type 0
TakesWay unit i = (p q : Point) → Steps unit i p q
    → slice_get (successors i.op (i.at + i.size)) (way_of i.op p.frame.stack) ≡ Some q.frame.at

-- The edges of the graph, as points go along them.
abbrev pub edges_in : UnitFlow → Edges
edges_in code = record {
  count = length code.graph.edges;
  source = λ edge. (edge_at code edge).from;
  target = λ edge. (edge_at code edge).to;
  begins = Begins code.unit;
  goes = GoesAlong code;
}

-- A point comes to the start of a block along so many edges, from where the unit begins.
abbrev pub ComesTo : UnitFlow → ℕ → ℕ → Point → Type 0
ComesTo code n block p = ComesAlong (edges_in code) n block p

-- A run of the unit comes to the start of a block.
pub record IsReachedAt (code : UnitFlow) (block : ℕ) (p : Point) : Type 0 where
  pub below : block < length code.graph.blocks
  pub here : p.frame.at ≡ start_of code block
  pub reached : IsReached code.unit p

-- A run that comes to the start of a block has come there along edges.
abbrev pub RunsGoAlong : UnitFlow → Type 0
RunsGoAlong code = (block : ℕ) (p : Point) → IsReachedAt code block p → (n : ℕ) × ComesTo code n block p
