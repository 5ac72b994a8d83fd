-- The flow graph of a unit's body.
use Rattle.std.specs.Prelude.{length}
use Rattle.cil_model.specs.declared.unit.Unit.{Unit as MethodUnit}
use Rattle.flow_graph.specs.BlocksOf.{blocks_of}
use Rattle.flow_graph.specs.EdgesOf.{edges_of}
use Rattle.flow_graph.specs.HeadsOf.{heads_of}
use Rattle.flow_graph.specs.declared.graph.Graph.{Graph}

abbrev pub graph_of : MethodUnit → Graph
graph_of unit = record {
  blocks = blocks_of unit;
  edges = edges_of unit;
  heads = heads_of (length (blocks_of unit)) (edges_of unit);
}
