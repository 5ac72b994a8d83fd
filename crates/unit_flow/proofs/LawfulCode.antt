-- What lawful code is: short, decoded, with a first block and edges that join blocks.
use Rattle.std.proofs.Common.{◌≡◌, ℕ, ◌+◌, ◌<◌, true, List, [], ◌∷◌, length, get_or, slice_get, Some, sym, ap, subst, ◌∙◌, add-one, arith}
use Rattle.std.specs.List.{AllByRecursion}
use Rattle.std.proofs.lemmas.List.Elements.{All-from_recursion}
use Rattle.std.proofs.lemmas.Option.{get_or_from_slice_get, none-some}
use Rattle.cc_base.specs.Slices.{IsShort}
use Rattle.cil_model.specs.Bodies.{HasBody}
use Rattle.cil_model.specs.Code.{begins_at}
use Rattle.cil_model.specs.FitKinds.{AreDecoded}
use Rattle.cil_model.specs.Passes.{Stacks, stack_at}
use Rattle.cil_model.specs.Runs.{instr_at}
use Rattle.cil_model.specs.Shapes.{shape_of}
use Rattle.cil_model.specs.ShortCode.{AreOfShortCode}
use Rattle.cil_model.specs.declared.instruction.Instr.{Instr}
use Rattle.cil_model.specs.declared.unit.Unit.{Unit as MethodUnit}
use Rattle.cil_model.proofs.KindsSettle.{reached_begins}
use Rattle.cil_model.proofs.Rows.{code_is_decoded}
use Rattle.cil_model.proofs.ShortCodes.{code_is_short}
use Rattle.flow_graph.specs.BlocksOf.{blocks_of}
use Rattle.flow_graph.specs.EdgesOf.{edges_of, JoinsBlocks}
use Rattle.flow_graph.specs.declared.graph.Edge.{Edge}
use Rattle.flow_graph.specs.declared.graph.Graph.{Graph}
use Rattle.flow_graph.proofs.EdgeOrder.{place_within}
use Rattle.flow_graph.proofs.Found.{found_begins}
use Rattle.flow_graph.proofs.GraphFacts.{edges_join, first_block}
use Rattle.stack_typer.proofs.Unique.{kinds_once}
use Rattle.unit_flow.specs.Chains.{IsWay}
use Rattle.unit_flow.specs.Flow.{IsLawful, block_instrs, edge_at, instrs_between, kinds_at, no_edge, start_of}
use Rattle.unit_flow.specs.Ways.{IsShortSwitch}
use Rattle.unit_flow.specs.declared.unit_flow.UnitFlow.{UnitFlow}
use Rattle.unit_flow.proofs.BlockWays.{Leaves, block_way, edges_leave_blocks}
use Rattle.unit_flow.proofs.SwitchSizes.{all_short}

module _ (code : UnitFlow) (lawful : IsLawful code) where
  abbrev unit : MethodUnit
  unit = code.unit

  pub few_bytes : IsShort unit.code
  few_bytes = omega (arith, lawful.formed.limits.code)

  pub short : AreOfShortCode unit.instrs
  short = code_is_short unit.instrs unit.code lawful.formed.code few_bytes

  pub decoded : AreDecoded unit.instrs
  decoded = code_is_decoded unit.instrs unit.code lawful.formed.code

  pub short_switches : AllByRecursion (λ i. IsShortSwitch i.op) unit.instrs
  short_switches = all_short unit.instrs unit.code lawful.formed.code few_bytes

  -- The body can be run by these kinds, since code has no others.
  pub lawful_body : HasBody unit.instrs code.kinds unit.body_start
  lawful_body =
      let runs = lawful.formed.runs in
      subst (λ (stacks : Stacks). HasBody unit.instrs stacks unit.body_start)
      (kinds_once (shape_of unit) unit.instrs runs.stacks code.kinds runs.kinds lawful.kinds) runs.body

  -- ---- the first block

  pub starts : slice_get code.graph.blocks 0 ≡ Some unit.body_start
  starts =
      subst (λ (g : Graph). slice_get g.blocks 0 ≡ Some unit.body_start) (sym lawful.graph)
      (first_block unit short (found (reached_begins unit.instrs code.kinds unit.body_start [] lawful_body.empty)))
    where
      found : (i : Instr) × (instr_at unit.instrs unit.body_start ≡ Some i)
          → begins_at unit.instrs unit.body_start ≡ true
      found (i, there) = found_begins unit.instrs unit.body_start i there

  pub has_block : 0 < length code.graph.blocks
  has_block = by code.graph.blocks starts
    where
      by : (blocks : List ℕ) → slice_get blocks 0 ≡ Some unit.body_start → 0 < length blocks
      by [] is = absurd (none-some unit.body_start is)
      by (b ∷ blocks) is = omega arith

  pub first_start : start_of code 0 ≡ unit.body_start
  first_start = get_or_from_slice_get code.graph.blocks 0 unit.body_start 0 starts

  -- Nothing is on the stack there.
  pub first_kinds : kinds_at code 0 ≡ Some []
  first_kinds = ap (stack_at unit.instrs code.kinds) first_start ∙ lawful_body.empty

  -- ---- edges

  module _ (k : ℕ) (below : k < length code.graph.edges) where
    abbrev edge : Edge
    edge = edge_at code k

    pub joins : JoinsBlocks code.graph.blocks edge
    joins =
        subst (λ (g : Graph). k < length g.edges → JoinsBlocks g.blocks (get_or g.edges k no_edge)) (sym lawful.graph)
        (λ inside. edges_join unit k no_edge inside) below

    leaves : Leaves unit edge
    leaves = subst (λ (g : Graph). k < length g.edges → Leaves unit (get_or g.edges k no_edge)) (sym lawful.graph)
        (λ inside. All-from_recursion (Leaves unit) (edges_of unit)
        (edges_leave_blocks unit short) k no_edge inside) below

    -- The target of the edge, as its way ends.
    target_is : leaves.1.at ≡ start_of code edge.to
    target_is = subst (λ (g : Graph). leaves.1.at ≡ get_or g.blocks edge.to 0) (sym lawful.graph)
        (sym (get_or_from_slice_get (blocks_of unit) edge.to leaves.1.at 0
        (place_within (blocks_of unit) leaves.1.at edge.to leaves.1.placed).1))

    -- The instructions of the block that an edge leaves are the way to its target.
    pub way : IsWay unit (start_of code edge.from) edge.number (start_of code edge.to) (block_instrs code edge.from)
    way =
        subst (λ (at : ℕ). IsWay unit (start_of code edge.from) edge.number at (block_instrs code edge.from)) target_is
        (subst (λ (g : Graph). IsWay unit (get_or g.blocks edge.from 0) edge.number leaves.1.at
        (instrs_between (get_or g.blocks edge.from 0) (slice_get g.blocks (edge.from + 1)) unit.instrs))
        (sym lawful.graph)
        (rw (add-one edge.from) (block_way unit short edge leaves.0 leaves.1 lawful_body.executed short_switches)))
