-- Steps go along the edges of the graph, and within its blocks.
use Rattle.std.proofs.Common.{◌≡◌, ◌⊎◌, ℕ, zero, suc, ◌+◌, ◌<◌, ◌≤◌, ◌==◌, true, false, nat_le, List, [], ◌∷◌, slice_get, Option, Some, option_map, refl, sym, ap, subst, ◌∙◌, arith, inl, inr}
use Rattle.std.specs.List.{AllByRecursion, Contains}
use Rattle.std.specs.Option.{option_to_list}
use Rattle.std.proofs.lemmas.Bool.{cases_Bool, cond_both, eqb-true, false≢true}
use Rattle.std.proofs.lemmas.Bool.Decides.{nat_tests}
use Rattle.std.proofs.lemmas.List.Elements.{Contains-append_left, Contains-append_right}
use Rattle.std.proofs.lemmas.Option.{none-some, same_Some}
use Rattle.cil_model.specs.Blocks.{body_of, is_block_start, starts_at}
use Rattle.cil_model.specs.Code.{begins_at}
use Rattle.cil_model.specs.Passes.{successors}
use Rattle.cil_model.specs.Runs.{instr_at}
use Rattle.cil_model.specs.ShortCode.{AreOfShortCode, LieFrom}
use Rattle.cil_model.specs.declared.instruction.Instr.{Instr}
use Rattle.cil_model.specs.declared.unit.Unit.{Unit as MethodUnit}
use Rattle.cil_model.proofs.KindsSettle.{found_at}
use Rattle.cil_model.proofs.Lists.{of_found}
use Rattle.flow_graph.specs.BlocksOf.{block_at, blocks_of, last_place, place_of}
use Rattle.flow_graph.specs.EdgesOf.{edge_to, edges_from, edges_of, edges_out, edges_to}
use Rattle.flow_graph.specs.Following.{IsAlongEdge, IsWithinBlock, StepsFollow}
use Rattle.flow_graph.specs.GraphOf.{graph_of}
use Rattle.flow_graph.specs.declared.graph.Edge.{Edge}
use Rattle.flow_graph.proofs.BodyStarts.{blocks_all, marked_by, start_placed}
use Rattle.flow_graph.proofs.EdgeOrder.{Starts, last_place_is, place_within}
use Rattle.flow_graph.proofs.Found.{begins_found, flat_map_found, found_in_rest}
use Rattle.flow_graph.proofs.Items.{all_weaker, passing_all}
use Rattle.flow_graph.proofs.Lying.{all_after, all_passing}
use Rattle.flow_graph.proofs.StepsGo.{step_goes}
use Rattle.flow_graph.proofs.Successors.{target_or_next}

-- ---- edges

edges_to_has : (blocks : List ℕ) (from number : ℕ) (ats : List ℕ) (n at to : ℕ) → slice_get ats n ≡ Some at → place_of blocks at ≡ Some to
    → Contains (edges_to blocks from number ats) (record { from = from; to = to; number = number + n })
edges_to_has blocks from number [] n at to there placed = absurd (none-some at there)
edges_to_has blocks from number (a ∷ ats) zero at to there placed =
    let e : number ≡ number + 0 = omega arith in
    let edge = edge_to blocks from number a in
    let is : edge ≡ Some (record { from = from; to = to; number = number + 0 }) =
    ap (λ (place : Option ℕ). option_map (λ k. record { from = from; to = k; number = number }) place) (ap (place_of blocks) (same_Some a at there) ∙ placed)
    ∙ ap (λ (k : ℕ). Some (record { from = from; to = to; number = k })) e in
    Contains-append_left (option_to_list edge) (edges_to blocks from (number + 1) ats) (record { from = from; to = to; number = number + 0 })
    (subst (λ (o : Option Edge). Contains (option_to_list o) (record { from = from; to = to; number = number + 0 })) (sym is) (0, omega arith, refl))
edges_to_has blocks from number (a ∷ ats) (suc n) at to there placed =
    let e : number + 1 + n ≡ number + suc n = omega arith in
    Contains-append_right (option_to_list (edge_to blocks from number a)) (edges_to blocks from (number + 1) ats)
    (record { from = from; to = to; number = number + suc n })
    (subst (λ (k : ℕ). Contains (edges_to blocks from (number + 1) ats) (record { from = from; to = to; number = k })) e
    (edges_to_has blocks from (number + 1) ats n at to there placed))

edges_from_has : (blocks : List ℕ) (block : ℕ) (i : Instr) (n at to : ℕ) → block_at blocks i.at ≡ Some block
    → slice_get (successors i.op (i.at + i.size)) n ≡ Some at
    → place_of blocks at ≡ Some to → Contains (edges_from blocks i) (record { from = block; to = to; number = n })
edges_from_has blocks block i n at to is there placed =
    let e : 0 + n ≡ n = omega arith in
    subst (λ (place : Option ℕ). Contains (edges_out blocks place i) (record { from = block; to = to; number = n })) (sym is)
    (subst (λ (k : ℕ). Contains (edges_to blocks block 0 (successors i.op (i.at + i.size))) (record { from = block; to = to; number = k })) e
    (edges_to_has blocks block 0 (successors i.op (i.at + i.size)) n at to there placed))

-- Where the n-th offset to which an instruction of a block goes on starts a block, the edge of number n goes there.
pub edge_there : (unit : MethodUnit) (block n at to : ℕ) (i : Instr) → instr_at (body_of unit) i.at ≡ Some i → block_at (blocks_of unit) i.at ≡ Some block
    → slice_get (successors i.op (i.at + i.size)) n ≡ Some at → place_of (blocks_of unit) at ≡ Some to
    → Contains (edges_of unit) (record { from = block; to = to; number = n })
edge_there unit block n at to i found is there placed =
    flat_map_found (edges_from (blocks_of unit)) (body_of unit) i.at i (record { from = block; to = to; number = n }) found
    (edges_from_has (blocks_of unit) block i n at to is there placed)

-- ---- blocks up to an offset

-- No block starts before all of them.
none_before : (blocks : List ℕ) (low at : ℕ) → AllByRecursion (λ s. low ≤ s) blocks → at < low → Starts blocks at ≡ 0
none_before [] low at all less = refl
none_before (s ∷ blocks) low at all less =
    let high = all.0 in
    let e : nat_le s at ≡ false = grind (arith, nat_tests) in
    rw e (none_before blocks low at all.1 less)

same_starts : (blocks : List ℕ) (a b : ℕ) → AllByRecursion (λ s. nat_le s a ≡ nat_le s b) blocks → Starts blocks a ≡ Starts blocks b
same_starts [] a b all = refl
same_starts (s ∷ blocks) a b all =
    elim (cases_Bool (nat_le s b)) [
      | inl e ↦ rw (all.0 ∙ e, e) (ap suc (same_starts blocks a b all.1))
      | inr e ↦ rw (all.0 ∙ e, e) (same_starts blocks a b all.1)
    ]

-- ---- no instruction begins inside another

abbrev IsApart : Instr → ℕ → Type 0
IsApart i at = (at ≤ i.at) ⊎ (i.at + i.size ≤ at)

all_apart : (from : ℕ) (is : List Instr) (at : ℕ) (i : Instr) → LieFrom from is → instr_at is at ≡ Some i → AllByRecursion (λ j. IsApart i j.at) is
all_apart from [] at i lie found = tt
all_apart from (j ∷ is) at i lie found =
    let behind = all_after (from + j.size) (from + j.size) is (omega arith) lie.1 in
    cond_both (j.at == at) _ _ (λ (other : Option Instr). other ≡ Some i → AllByRecursion (λ k. IsApart i k.at) (j ∷ is))
    (λ e here. subst (λ (k : Instr). AllByRecursion (λ l. IsApart k l.at) (j ∷ is)) (same_Some j i here)
    (inl (omega arith), all_weaker _ (λ k. IsApart j k.at) (λ k h. inr (omega (arith, h, lie.0))) is behind))
    (λ e later. (inl (omega (arith, lie.0, of_found (λ k. from + j.size ≤ k.at) is at i behind later)), all_apart (from + j.size) is at i lie.1 later))
    found

-- ---- where no block starts

is_next : (i : Instr) (n at : ℕ) → slice_get (successors i.op (i.at + i.size)) n ≡ Some at → starts_at at i ≡ false → at ≡ i.at + i.size
is_next i n at there none =
    elim (target_or_next i.op (i.at + i.size) n at there) [
      | inl has ↦ absurd (false≢true (sym none ∙ rw has refl))
      | inr same ↦ same
    ]

-- ---- steps

module _ (unit : MethodUnit) (short : AreOfShortCode unit.instrs) where
  abbrev Blocks : List ℕ
  Blocks = blocks_of unit

  -- A block starts in the body.
  starts_in_body : AllByRecursion (λ s. unit.body_start ≤ s) Blocks
  starts_in_body =
      blocks_all (λ s. unit.body_start ≤ s) (is_block_start unit) (body_of unit)
      (all_weaker _ (λ i. is_block_start unit i.at ≡ true → unit.body_start ≤ i.at) (λ i h e. grind (arith, nat_tests)) (body_of unit)
      (passing_all (λ i. nat_le unit.body_start i.at) unit.instrs))

  block_in_body : (at block : ℕ) → block_at Blocks at ≡ Some block → unit.body_start ≤ at
  block_in_body at block is =
      elim (cases_Bool (nat_le unit.body_start at)) [
        | inl e ↦ grind (arith, nat_tests)
        | inr e ↦
            let low : at < unit.body_start = grind (arith, nat_tests) in
            absurd (omega (arith, none_before Blocks unit.body_start at starts_in_body low, last_place_is (Starts Blocks at) block is))
      ]

  module _ (block : ℕ) (i : Instr) (at n : ℕ) (found : instr_at unit.instrs i.at ≡ Some i) (is : block_at Blocks i.at ≡ Some block)
      (there : slice_get (successors i.op (i.at + i.size)) n ≡ Some at) where
    in_body : instr_at (body_of unit) i.at ≡ Some i
    in_body = found_in_rest unit.body_start unit.instrs i.at (block_in_body i.at block is) ∙ found

    -- Where the offset starts a block, an edge goes there.
    pub along_edge : is_block_start unit at ≡ true → begins_at (body_of unit) at ≡ true → IsAlongEdge (graph_of unit) block i at
    along_edge starts begins =
        let (j, begun) = begins_found (body_of unit) at begins in
        let (to, placed) = start_placed unit at j begun starts in
        record {
          edge = record { from = block; to = to; number = n };
          is = edge_there unit block n at to i in_body is there placed;
          from = refl;
          to = (place_within Blocks at to placed).1;
          number = there;
        }

    no_start : is_block_start unit at ≡ false → starts_at at i ≡ false
    no_start none =
        elim (cases_Bool (starts_at at i)) [
          | inl e ↦ absurd (false≢true (sym none ∙ marked_by unit at i in_body e))
          | inr e ↦ e
        ]

    same_test : is_block_start unit at ≡ false → at ≡ i.at + i.size → (s : ℕ) → is_block_start unit s ≡ true → IsApart i s
        → nat_le s at ≡ nat_le s i.at
    same_test none next s starts (inl before) = grind (arith, nat_tests)
    same_test none next s starts (inr behind) =
        elim (cases_Bool (s == at)) [
          | inl e ↦ absurd (false≢true (sym none ∙ ap (is_block_start unit) (sym (eqb-true s at e)) ∙ starts))
          | inr e ↦ grind (arith, nat_tests)
        ]

    within_block : is_block_start unit at ≡ false → IsWithinBlock (graph_of unit) block i at
    within_block none =
        let next = is_next i n at there (no_start none) in
        let apart = all_passing (λ j. IsApart i j.at) (λ j. nat_le unit.body_start j.at) unit.instrs (all_apart 0 unit.instrs i.at i short.lie found) in
        let tests = blocks_all (λ s. nat_le s at ≡ nat_le s i.at) (is_block_start unit) (body_of unit)
        (all_weaker _ (λ j. is_block_start unit j.at ≡ true → nat_le j.at at ≡ nat_le j.at i.at) (λ j h e. same_test none next j.at e h) (body_of unit) apart) in
        record { next = next; same = ap last_place (same_starts Blocks at i.at tests) ∙ is }

  pub steps_follow : StepsFollow unit (graph_of unit)
  steps_follow block i f new heap after s =
      let same : i.at ≡ f.at = found_at unit.instrs f.at i s.instr in
      let (n, there) = step_goes unit i f new heap after s.step s.instr in
      let found : instr_at unit.instrs i.at ≡ Some i = subst (λ (at : ℕ). instr_at unit.instrs at ≡ Some i) (sym same) s.instr in
      let block_is : block_at Blocks i.at ≡ Some block = subst (λ (at : ℕ). block_at Blocks at ≡ Some block) (sym same) s.block_is in
      elim (cases_Bool (is_block_start unit new.at)) [
        | inl starts ↦ inl (starts, along_edge block i new.at n found block_is there starts s.in_body)
        | inr none ↦ inr (none, within_block block i new.at n found block_is there none)
      ]
