-- The heads of loops: the blocks to which an edge goes back.
use Rattle.std.specs.Prelude.{ℕ, ◌==◌, nat_le, Bool, ◌&&◌, List, filter}
use Rattle.std.specs.List.{list_any, range_with_len}
use Rattle.flow_graph.specs.declared.graph.Edge.{Edge}

-- The edge goes to its own block, or to one before.
abbrev pub goes_back : Edge → Bool
goes_back edge = nat_le edge.to edge.from

-- The places of the heads among so many blocks, in order.
abbrev pub heads_of : ℕ → List Edge → List ℕ
heads_of count edges = filter (λ block. list_any (λ edge. edge.to == block && goes_back edge) edges) (range_with_len 0 count)
