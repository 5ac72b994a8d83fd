-- The edges between blocks: where control may go from the last instruction of each (ECMA-335 III.1.7.2 and
-- III.3). The target of a branch comes before the next instruction, and the targets of a switch are in order.
use Rattle.std.specs.Prelude.{◌≡◌, ◌⊎◌, ◌<◌, ℕ, ◌+◌, List, [], ◌∷◌, ◌++◌, length, Option, Some, None, option_map}
use Rattle.std.specs.List.{flat_map}
use Rattle.std.specs.Option.{option_to_list}
use Rattle.cil_model.specs.Blocks.{body_of}
use Rattle.cil_model.specs.Passes.{successors}
use Rattle.cil_model.specs.declared.instruction.Instr.{Instr}
use Rattle.cil_model.specs.declared.unit.Unit.{Unit as MethodUnit}
use Rattle.flow_graph.specs.BlocksOf.{blocks_of, place_of, block_at}
use Rattle.flow_graph.specs.declared.graph.Edge.{Edge}

-- The edge of this number to the block that starts at an IL offset, if one does.
abbrev pub edge_to : List ℕ → ℕ → ℕ → ℕ → Option Edge
edge_to blocks from number at = option_map (λ to. record { from = from; to = to; number = number }) (place_of blocks at)

-- The edges to the blocks that start at these IL offsets, numbered from a number on. An offset where no block
-- starts has a number too, but no edge.
abbrev pub edges_to : List ℕ → ℕ → ℕ → List ℕ → List Edge
edges_to blocks from number [] = []
edges_to blocks from number (at ∷ ats) = option_to_list (edge_to blocks from number at) ++ edges_to blocks from (number + 1) ats

-- The edges from a block along which control may go from an instruction in it.
abbrev pub edges_out : List ℕ → Option ℕ → Instr → List Edge
edges_out blocks None i = []
edges_out blocks (Some from) i = edges_to blocks from 0 (successors i.op (i.at + i.size))

-- The edges along which control may go from an instruction. From one that is not the last of its block it goes
-- to the next alone, where no block starts, so that there is no edge.
abbrev pub edges_from : List ℕ → Instr → List Edge
edges_from blocks i = edges_out blocks (block_at blocks i.at) i

-- The edges of the body, in order.
abbrev pub edges_of : MethodUnit → List Edge
edges_of unit = flat_map (edges_from (blocks_of unit)) (body_of unit)

-- ---- what is said of edges

-- Both ends are places in the list of blocks.
pub record JoinsBlocks (blocks : List ℕ) (edge : Edge) : Type 0 where
  pub from : edge.from < length blocks
  pub to : edge.to < length blocks

-- An edge comes before another: by the blocks that they leave, and then by their numbers.
abbrev pub ComesBefore : Edge → Edge → Type 0
ComesBefore a b = (a.from < b.from) ⊎ ((a.from ≡ b.from) × (a.number < b.number))
