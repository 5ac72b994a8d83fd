-- Each edge leaves its block by the last instruction, and the instructions of the block are the way to it.
use Rattle.std.proofs.Common.{◌≡◌, ℕ, suc, ◌+◌, ◌≤◌, ◌==◌, true, nat_le, List, [], ◌∷◌, get_or, filter, slice_get, Option, Some, None, refl, sym, ap, subst, ◌∙◌, arith}
use Rattle.std.specs.List.{AllByRecursion, flat_map}
use Rattle.std.proofs.lemmas.Bool.{cond_both, false≢true}
use Rattle.std.proofs.lemmas.Option.{get_or_from_slice_get, none-some, same_Some}
use Rattle.cil_model.specs.Blocks.{body_of, is_block_start}
use Rattle.cil_model.specs.Bodies.{is_executed}
use Rattle.cil_model.specs.Passes.{successors}
use Rattle.cil_model.specs.Runs.{instr_at}
use Rattle.cil_model.specs.ShortCode.{AreOfShortCode}
use Rattle.cil_model.specs.declared.instruction.Instr.{Instr}
use Rattle.cil_model.specs.declared.unit.Unit.{Unit as MethodUnit}
use Rattle.cil_model.proofs.Lists.{all_append}
use Rattle.flow_graph.specs.BlocksOf.{block_at, blocks_of, place_of}
use Rattle.flow_graph.specs.EdgesOf.{edges_from, edges_of, edges_out}
use Rattle.flow_graph.specs.GraphOf.{graph_of}
use Rattle.flow_graph.specs.declared.graph.Edge.{Edge}
use Rattle.flow_graph.proofs.EdgeOrder.{Starts, edges_all, last_place_is, place_within}
use Rattle.flow_graph.proofs.Found.{found_in_rest, found_kept}
use Rattle.flow_graph.proofs.Lying.{all_passing}
use Rattle.flow_graph.proofs.Successors.{only_next}
use Rattle.unit_flow.specs.Chains.{IsChain, IsWay, StaysInBlock}
use Rattle.unit_flow.specs.Flow.{is_before, instrs_between}
use Rattle.unit_flow.specs.Ways.{IsShortSwitch}
use Rattle.unit_flow.proofs.BlockStarts.{each_found, lies_in, pairs, start_at}
use Rattle.unit_flow.proofs.ShortChains.{chain_there}

-- An edge goes from an instruction of its block to the offset of its number, where its other block starts.
pub record LeavesBy (unit : MethodUnit) (edge : Edge) (i : Instr) : Type 0 where
  pub at : ℕ
  pub found : instr_at unit.instrs i.at ≡ Some i
  pub block : block_at (blocks_of unit) i.at ≡ Some edge.from
  pub goes : slice_get (successors i.op (i.at + i.size)) edge.number ≡ Some at
  pub placed : place_of (blocks_of unit) at ≡ Some edge.to

module _ (unit : MethodUnit) where
  abbrev pub Leaves : Edge → Type 0
  Leaves edge = (i : Instr) × LeavesBy unit edge i

  edges_leave : (i : Instr) (place : Option ℕ) → instr_at unit.instrs i.at ≡ Some i
      → block_at (blocks_of unit) i.at ≡ place
      → AllByRecursion Leaves (edges_out (blocks_of unit) place i)
  edges_leave i None found is = tt
  edges_leave i (Some from) found is =
      edges_all (blocks_of unit) from Leaves 0 (successors i.op (i.at + i.size))
      (λ n at to there placed. let same : 0 + n ≡ n = omega arith in (
        i,
        record {
          at = at;
          found = found;
          block = is;
          goes = subst (λ (k : ℕ). slice_get (successors i.op (i.at + i.size)) k ≡ Some at) (sym same) there;
          placed = placed;
        },
      ))

  all_leave : (is : List Instr) → AllByRecursion (λ i. instr_at unit.instrs i.at ≡ Some i) is
      → AllByRecursion Leaves (flat_map (edges_from (blocks_of unit)) is)
  all_leave [] found = tt
  all_leave (i ∷ is) found =
      all_append Leaves (edges_from (blocks_of unit) i) (flat_map (edges_from (blocks_of unit)) is)
      (edges_leave i (block_at (blocks_of unit) i.at) found.0 refl) (all_leave is found.1)

-- Each edge leaves a block by an instruction.
pub edges_leave_blocks : (unit : MethodUnit) → AreOfShortCode unit.instrs → AllByRecursion (Leaves unit) (edges_of unit)
edges_leave_blocks unit short =
    all_leave unit (body_of unit) (all_passing (λ i. instr_at unit.instrs i.at ≡ Some i)
    (λ i. nat_le unit.body_start i.at) unit.instrs (each_found 0 unit.instrs short.lie short.each))

-- ---- the way to an edge

module _ (unit : MethodUnit) (short : AreOfShortCode unit.instrs) (edge : Edge) (k : Instr)
    (leaves : LeavesBy unit edge k) where
  abbrev Blocks : List ℕ
  Blocks = blocks_of unit

  -- A block starts at the target.
  target_marked : is_block_start unit leaves.at ≡ true
  target_marked =
      let there = place_within Blocks leaves.at edge.to leaves.placed in
      subst (λ (at : ℕ). is_block_start unit at ≡ true)
      (get_or_from_slice_get Blocks edge.to leaves.at 0 there.1) (start_at unit short edge.to there.0).marked

  -- An instruction that stays in its block is not the one that the edge leaves by.
  stays_apart : (i : Instr) (at : ℕ) → StaysInBlock unit at i → i ≡ k → ⊥
  stays_apart i at stays same =
      let goes : slice_get (successors i.op (i.at + i.size)) edge.number ≡ Some leaves.at =
      subst (λ (l : Instr). slice_get (successors l.op (l.at + l.size)) edge.number ≡ Some leaves.at)
      (sym same) leaves.goes in
      let next : leaves.at ≡ i.at + i.size = only_next (i.at + i.size) edge.number leaves.at
      (subst (λ (ats : List ℕ). slice_get ats edge.number ≡ Some leaves.at) stays.passed.next goes) in
      false≢true (sym stays.inner ∙ (ap (is_block_start unit) (sym next) ∙ target_marked))

  -- The chain of a block is the way.
  chain_way : (at : ℕ) (is : List Instr) → IsChain unit (graph_of unit) edge.from at is → instr_at is k.at ≡ Some k
      → IsWay unit at edge.number leaves.at is
  chain_way at [] chain found = elim chain [ ]
  chain_way at (i ∷ []) last found =
      cond_both (i.at == k.at) _ _ (λ (o : Option Instr). o ≡ Some k → IsWay unit at edge.number leaves.at (i ∷ []))
      (λ e here. record {
        here = last.here;
        executed = last.executed;
        short = last.short;
        found = last.found;
        goes =
            subst (λ (l : Instr). slice_get (successors l.op (l.at + l.size)) edge.number ≡ Some leaves.at)
            (sym (same_Some i k here)) leaves.goes;
      })
      (λ e later. absurd (none-some k later)) found
  chain_way at (i ∷ j ∷ is) chain found =
      (chain.0.passed, chain_way (i.at + i.size) (j ∷ is) chain.1 later)
    where
      later : instr_at (j ∷ is) k.at ≡ Some k
      later =
          cond_both (i.at == k.at) _ _ (λ (o : Option Instr). o ≡ Some k → instr_at (j ∷ is) k.at ≡ Some k)
          (λ e here. absurd (stays_apart i at chain.0 (same_Some i k here))) (λ e behind. behind) found

  pub block_way : AllByRecursion (λ i. unit.body_start ≤ i.at → is_executed i.op ≡ true) unit.instrs
      → AllByRecursion (λ i. IsShortSwitch i.op) unit.instrs
      → IsWay unit (get_or Blocks edge.from 0) edge.number leaves.at
      (instrs_between (get_or Blocks edge.from 0) (slice_get Blocks (suc edge.from)) unit.instrs)
  block_way executed switches =
      let start = get_or Blocks edge.from 0 in
      let end = slice_get Blocks (suc edge.from) in
      let lies =
      lies_in Blocks edge.from k.at (pairs unit short)
      (last_place_is (Starts Blocks k.at) edge.from leaves.block) in
      let rest = filter (λ i. nat_le start i.at) unit.instrs in
      chain_way start (instrs_between start end unit.instrs)
      (chain_there unit short executed switches edge.from lies.there)
      (found_kept (is_before end) rest k.at lies.end ∙ (found_in_rest start unit.instrs k.at lies.start ∙ leaves.found))
