-- The heads of loops, by the edges of a graph.
use Rattle.std.specs.Prelude.{ℕ, ◌==◌, ◌&&◌, Bool, List}
use Rattle.std.specs.List.{list_any}
use Rattle.flow_graph.specs.HeadsOf.{goes_back}
use Rattle.flow_graph.specs.declared.graph.Edge.{Edge}

-- One of the edges goes back to the block.
abbrev pub is_gone_back_to : List Edge → ℕ → Bool
is_gone_back_to edges block = list_any (λ edge. edge.to == block && goes_back edge) edges
