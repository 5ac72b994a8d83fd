-- Steps of the machine go along the edges of the graph, and within its blocks.
use Rattle.std.specs.Prelude.{◌≡◌, ◌⊎◌, ℕ, ◌+◌, true, false, [], ◌∷◌, Some, slice_get}
use Rattle.std.specs.List.{Contains}
use Rattle.cil_model.specs.Blocks.{body_of, is_block_start}
use Rattle.cil_model.specs.Code.{begins_at}
use Rattle.cil_model.specs.Passes.{successors}
use Rattle.cil_model.specs.Runs.{LocalStep, instr_at}
use Rattle.cil_model.specs.Values.{Heap}
use Rattle.cil_model.specs.declared.instruction.Instr.{Instr}
use Rattle.cil_model.specs.declared.machine.Config.TheVariants.{Live}
use Rattle.cil_model.specs.declared.machine.Frame.{Frame}
use Rattle.cil_model.specs.declared.unit.Unit.{Unit as MethodUnit}
use Rattle.flow_graph.specs.BlocksOf.{block_at}
use Rattle.flow_graph.specs.declared.graph.Edge.{Edge}
use Rattle.flow_graph.specs.declared.graph.Graph.{Graph}

-- From an instruction of a block to an IL offset where a block starts: one of the edges of the first goes to the
-- second. Its number is that of the offset among those to which the instruction goes on.
pub record IsAlongEdge (graph : Graph) (block : ℕ) (i : Instr) (at : ℕ) : Type 0 where
  pub edge : Edge
  pub is : Contains graph.edges edge
  pub from : edge.from ≡ block
  pub to : slice_get graph.blocks edge.to ≡ Some at
  pub number : slice_get (successors i.op (i.at + i.size)) edge.number ≡ Some at

-- From an instruction of a block to the next one, which is of the same block.
pub record IsWithinBlock (graph : Graph) (block : ℕ) (i : Instr) (at : ℕ) : Type 0 where
  pub next : at ≡ i.at + i.size
  pub same : block_at graph.blocks at ≡ Some block

-- A frame steps from an instruction of a block to another of the body.
pub record StepsInBody (unit : MethodUnit) (graph : Graph) (block : ℕ) (i : Instr) (f new : Frame) (heap after : Heap) : Type 0 where
  pub step : LocalStep unit (Live (f ∷ []) heap) (Live (new ∷ []) after)
  pub instr : instr_at unit.instrs f.at ≡ Some i
  pub block_is : block_at graph.blocks f.at ≡ Some block
  pub in_body : begins_at (body_of unit) new.at ≡ true

-- A frame that goes on in the body goes along an edge where it comes to the start of a block, and anywhere else
-- to the next instruction of its block.
abbrev pub StepsFollow : MethodUnit → Graph → Type 0
StepsFollow unit graph = (block : ℕ) (i : Instr) (f new : Frame) (heap after : Heap) → StepsInBody unit graph block i f new heap after
    → ((is_block_start unit new.at ≡ true) × IsAlongEdge graph block i new.at)
    ⊎ ((is_block_start unit new.at ≡ false) × IsWithinBlock graph block i new.at)
