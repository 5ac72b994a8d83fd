-- What the graph of a unit of short code is like.
use Rattle.std.proofs.Common.{◌≡◌, ℕ, ◌+◌, ◌<◌, Bool, true, List, [], ◌∷◌, length, map, filter, slice_get, Some, Result, IfOk, refl, sym, ap, subst, ◌∙◌, arith}
use Rattle.std.specs.List.{All, AllByRecursion, AllPairs, range_with_len}
use Rattle.std.specs.List.Sorted.{IsStrictlyIncreasing}
use Rattle.std.proofs.lemmas.Bool.{eq-eqb}
use Rattle.std.proofs.lemmas.List.{length-map}
use Rattle.std.proofs.lemmas.List.Elements.{All-filter}
use Rattle.std.proofs.lemmas.List.FromFn.{get_or-range_with_len, length-range_with_len}
use Rattle.std.proofs.lemmas.List.Kept.{AllPairs-cons, IsStrictlyIncreasing-filter}
use Rattle.std.proofs.lemmas.List.Sums.{length-filter}
use Rattle.std.proofs.lemmas.Option.{none-some}
use Rattle.std.proofs.lemmas.Result.{IfOk-weaker}
use Rattle.cil_model.specs.Blocks.{block_count, body_of, ends_block, is_block_start}
use Rattle.cil_model.specs.Code.{begins_at}
use Rattle.cil_model.specs.Runs.{instr_at}
use Rattle.cil_model.specs.ShortCode.{AreOfShortCode, LieFrom}
use Rattle.cil_model.specs.declared.instruction.Instr.{Instr}
use Rattle.cil_model.specs.declared.unit.Unit.{Unit as MethodUnit}
use Rattle.flow_graph.specs.BlocksOf.{blocks_of, place_of}
use Rattle.flow_graph.specs.EdgesOf.{ComesBefore, JoinsBlocks, edges_of}
use Rattle.flow_graph.specs.GraphOf.{graph_of}
use Rattle.flow_graph.specs.declared.graph.Edge.{Edge}
use Rattle.flow_graph.specs.declared.graph.Graph.{Graph}
use Rattle.flow_graph.proofs.BodyStarts.{ends_start, starts_placed}
use Rattle.flow_graph.proofs.EdgeOrder.{EndBefore, InOrder, all_in_order, all_join}
use Rattle.flow_graph.proofs.Found.{begins_found, found_in_rest}
use Rattle.flow_graph.proofs.Lying.{all_by_index, body_each, body_lies, lies_there}

-- ---- heads

range_increases : (count : ℕ) → IsStrictlyIncreasing (range_with_len 0 count)
range_increases count k inside =
    let n = length-range_with_len 0 count in
    omega (arith, inside, n, get_or-range_with_len 0 count k 0 (omega (arith, inside, n)), get_or-range_with_len 0 count (k + 1) 0 (omega (arith, inside, n)))

pub heads_increase : (unit : MethodUnit) → IsStrictlyIncreasing (graph_of unit).heads
heads_increase unit = let count = length (blocks_of unit) in IsStrictlyIncreasing-filter _ (range_with_len 0 count) (range_increases count)

pub heads_within : (unit : MethodUnit) → All (λ head. head < length (blocks_of unit)) (graph_of unit).heads
heads_within unit =
    let count = length (blocks_of unit) in
    All-filter _ (λ head. head < count) (range_with_len 0 count)
    (λ k d inside. omega (arith, inside, length-range_with_len 0 count, get_or-range_with_len 0 count k d (omega (arith, inside, length-range_with_len 0 count))))

-- ---- blocks

pub blocks_counted : (unit : MethodUnit) → length (blocks_of unit) ≡ block_count unit
blocks_counted unit =
    let starts = filter (λ (i : Instr). is_block_start unit i.at) (body_of unit) in
    length-map starts (λ (i : Instr). i.at) ∙ length-filter (λ (i : Instr). is_block_start unit i.at) (body_of unit)

-- ---- the first block

first_is : (q : ℕ → Bool) (start : ℕ) (is : List Instr) (i : Instr) → q start ≡ true → LieFrom start is → instr_at is start ≡ Some i
    → slice_get (map (λ j. j.at) (filter (λ j. q j.at) is)) 0 ≡ Some start
first_is q start [] i passes lie found = absurd (none-some i found)
first_is q start (j ∷ is) i passes lie found = rw (ap q lie.0 ∙ passes) (ap Some lie.0)

-- The first block starts where the body does, if an instruction begins there.
pub first_block : (unit : MethodUnit) → AreOfShortCode unit.instrs → begins_at unit.instrs unit.body_start ≡ true
    → slice_get (blocks_of unit) 0 ≡ Some unit.body_start
first_block unit short begins =
    let start = unit.body_start in
    let (i, found) = begins_found unit.instrs start begins in
    let passes : is_block_start unit start ≡ true = rw (eq-eqb start start refl) refl in
    first_is (is_block_start unit) start (body_of unit) i passes (lies_there start 0 unit.instrs i short.lie found)
    (found_in_rest start unit.instrs start (omega arith) ∙ found)

-- ---- edges

pairs_in_order : (es : List Edge) → InOrder es → AllPairs ComesBefore es
pairs_in_order [] order = λ i j d less inside. absurd (omega arith)
pairs_in_order (e ∷ es) order = AllPairs-cons ComesBefore e es (all_by_index (ComesBefore e) es order.0) (pairs_in_order es order.1)

end_before : (blocks : List ℕ) (q : ℕ → Bool) (from : ℕ) (is : List Instr) → LieFrom from is
    → AllByRecursion (λ i. ends_block i.op ≡ true → q (i.at + i.size) ≡ true) is
    → AllByRecursion (λ i. q i.at ≡ true → (k : ℕ) × (place_of blocks i.at ≡ Some k)) is → EndBefore blocks is
end_before blocks q from [] lie ends placed = tt
end_before blocks q from (i ∷ []) lie ends placed = tt
end_before blocks q from (i ∷ j ∷ is) lie ends placed =
    let next : j.at ≡ i.at + i.size = omega (arith, lie.0, lie.1.0) in (
      λ e. subst (λ (at : ℕ). (k : ℕ) × (place_of blocks at ≡ Some k)) next (placed.1.0 (ap q next ∙ ends.0 e)),
      end_before blocks q (from + i.size) (j ∷ is) lie.1 ends.1 placed.1,
    )

module _ (unit : MethodUnit) where
  pub edges_join : All (JoinsBlocks (blocks_of unit)) (edges_of unit)
  edges_join = all_by_index (JoinsBlocks (blocks_of unit)) (edges_of unit) (all_join (blocks_of unit) (body_of unit))

  pub edges_in_order : AreOfShortCode unit.instrs → AllPairs ComesBefore (edges_of unit)
  edges_in_order short =
      let (from, lie) = body_lies unit short in
      pairs_in_order (edges_of unit) (all_in_order (blocks_of unit) from (body_of unit) lie (body_each unit short)
      (end_before (blocks_of unit) (is_block_start unit) from (body_of unit) lie (ends_start unit) (starts_placed unit)))

-- What holds of the graph of the unit holds of an answer that is that graph.
pub of_answer : {E : Type 0} (r : Result Graph E) (unit : MethodUnit) (P : Graph → Type 0) → IfOk r (λ graph. graph ≡ graph_of unit)
    → P (graph_of unit) → IfOk r P
of_answer r unit P exact holds = IfOk-weaker r _ P (λ graph is. subst P (sym is) holds) exact
