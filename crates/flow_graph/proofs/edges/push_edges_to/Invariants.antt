use Rattle.std.proofs.Common.{◌≡◌, ◌++◌, take}
use Rattle.flow_graph.specs.EdgesOf.{edges_to}
use Rattle.flow_graph.proofs.edges.push_edges_to.Given as goal

abbrev pub invariant-loop-number : goal.invariant-loop-number
invariant-loop-number l = l.edges.items ≡ l.initial.edges.items ++ edges_to l.blocks l.from 0 (take l.number l.offsets)
