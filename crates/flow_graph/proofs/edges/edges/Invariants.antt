use Rattle.std.proofs.Common.{◌≡◌, take}
use Rattle.std.specs.List.{flat_map}
use Rattle.flow_graph.specs.EdgesOf.{edges_from}
use Rattle.flow_graph.proofs.edges.edges.Given as goal

abbrev pub invariant-loop-instr : goal.invariant-loop-instr
invariant-loop-instr l = l.edges.items ≡ flat_map (edges_from l.blocks) (take l.instr-index l.body)
