-- The instructions of a block of short code are a chain: each but the last goes on to the next alone, and wherever the
-- last goes on in the body, an edge leads.
use Rattle.std.proofs.Common.{◌≡◌, ℕ, suc, ◌+◌, ◌<◌, ◌≤◌, ◌==◌, true, false, nat_le, List, [], ◌∷◌, length, get_or, filter, slice_get, Option, Some, None, refl, sym, ap, subst, ◌∙◌, arith, inl, inr}
use Rattle.std.specs.List.{AllByRecursion}
use Rattle.std.proofs.lemmas.Bool.{cases_Bool, cases_lt, false≢true}
use Rattle.std.proofs.lemmas.Bool.Decides.{nat_tests}
use Rattle.std.proofs.lemmas.List.{get_or_default}
use Rattle.std.proofs.lemmas.Option.{get_or_from_slice_get, none-some, slice_get_within}
use Rattle.cil_model.specs.Blocks.{body_of, ends_block, is_block_start}
use Rattle.cil_model.specs.Bodies.{is_executed}
use Rattle.cil_model.specs.Passes.{successors}
use Rattle.cil_model.specs.Runs.{instr_at}
use Rattle.cil_model.specs.ShortCode.{AreOfShortCode, IsOfShortCode, LieFrom}
use Rattle.cil_model.specs.declared.instruction.Instr.{Instr}
use Rattle.cil_model.specs.declared.unit.Unit.{Unit as MethodUnit}
use Rattle.cil_model.proofs.KindsSettle.{found_at}
use Rattle.cil_model.proofs.Lists.{of_found}
use Rattle.flow_graph.specs.BlocksOf.{block_at, blocks_of, last_place}
use Rattle.flow_graph.specs.EdgesOf.{edges_of}
use Rattle.flow_graph.specs.GraphOf.{graph_of}
use Rattle.flow_graph.specs.declared.graph.Edge.{Edge}
use Rattle.flow_graph.proofs.AlongEdges.{edge_there}
use Rattle.flow_graph.proofs.BodyStarts.{marked_by, start_placed, starts_behind}
use Rattle.flow_graph.proofs.EdgeOrder.{place_within}
use Rattle.flow_graph.proofs.Found.{found_in_rest}
use Rattle.flow_graph.proofs.Items.{all_weaker, both, passing_all}
use Rattle.flow_graph.proofs.Lying.{all_after, all_passing, lies_there}
use Rattle.flow_graph.proofs.Successors.{next_alone, target_or_next}
use Rattle.unit_flow.specs.Chains.{IsChain, IsLast, Leads}
use Rattle.unit_flow.specs.Flow.{instrs_between, is_before, no_edge}
use Rattle.unit_flow.specs.Ways.{IsShortSwitch}
use Rattle.unit_flow.proofs.BlockStarts.{IsStart, LiesIn, count, each_found, none_before, pairs, start_at, starts_least}

-- What is known of each instruction from the start of a block on.
record IsGood (unit : MethodUnit) (start : ℕ) (i : Instr) : Type 0 where
  executed : is_executed i.op ≡ true
  switch : IsShortSwitch i.op
  found : instr_at unit.instrs i.at ≡ Some i
  some : 0 < i.size
  high : start ≤ i.at

module _ (unit : MethodUnit) (short : AreOfShortCode unit.instrs)
    (executed : AllByRecursion (λ i. unit.body_start ≤ i.at → is_executed i.op ≡ true) unit.instrs)
    (switches : AllByRecursion (λ i. IsShortSwitch i.op) unit.instrs) (b : ℕ)
    (below : b < length (blocks_of unit)) where
  abbrev Blocks : List ℕ
  Blocks = blocks_of unit

  abbrev Start : ℕ
  Start = get_or Blocks b 0

  abbrev End : Option ℕ
  End = slice_get Blocks (suc b)

  goods : AllByRecursion (IsGood unit Start) (filter (λ i. nat_le Start i.at) unit.instrs)
  goods =
      let inside = (start_at unit short b below).inside in
      all_weaker _ (IsGood unit Start)
      (λ i has. let high = has.0 in let low : Start ≤ i.at = grind (arith, nat_tests, high) in
      record {
        executed = has.1.0 (omega (arith, inside, low));
        switch = has.1.1.0;
        found = has.1.1.1.0;
        some = has.1.1.1.1.some;
        high = low;
      })
      (filter (λ i. nat_le Start i.at) unit.instrs)
      (both (λ i. nat_le Start i.at ≡ true) _ (filter (λ i. nat_le Start i.at) unit.instrs)
      (passing_all (λ i. nat_le Start i.at) unit.instrs)
      (all_passing _ (λ i. nat_le Start i.at) unit.instrs
      (both (λ i. unit.body_start ≤ i.at → is_executed i.op ≡ true) _ unit.instrs executed
      (both (λ i. IsShortSwitch i.op) _ unit.instrs switches
      (both (λ i. instr_at unit.instrs i.at ≡ Some i) IsOfShortCode unit.instrs
      (each_found 0 unit.instrs short.lie short.each) short.each)))))

  within : (at : ℕ) → Start ≤ at → is_before End at ≡ true → LiesIn Blocks b at
  within at low early = record { there = below; start = low; end = early }

  -- No block starts after the first offset of the block and within it.
  no_start : (at : ℕ) (j : Instr) → Start < at → is_before End at ≡ true → instr_at unit.instrs at ≡ Some j
      → is_block_start unit at ≡ true → ⊥
  no_start at j less early found marked =
      let inside = (start_at unit short b below).inside in
      let high : unit.body_start ≤ at = omega (arith, inside, less) in
      let (place, placed) = start_placed unit at j (found_in_rest unit.body_start unit.instrs at high ∙ found) marked in
      let there = place_within Blocks at place placed in
      let is : get_or Blocks place 0 ≡ at = get_or_from_slice_get Blocks place at 0 there.1 in
      let most = starts_least Blocks place at (pairs unit short) there.0 (omega (arith, is)) in
      let all = count unit short b at (within at (omega (arith, less)) early) in
      elim (cases_lt place b) [
        | inl before ↦ omega (arith, pairs unit short place b 0 before below, is, less)
        | inr not ↦ (let same : place ≡ b = omega (arith, not, most, all) in
            omega (arith, ap (λ (n : ℕ). get_or Blocks n 0) same, is, less))
      ]

  in_body : (i : Instr) → IsGood unit Start i → instr_at (body_of unit) i.at ≡ Some i
  in_body i good =
      let inside = (start_at unit short b below).inside in
      found_in_rest unit.body_start unit.instrs i.at (omega (arith, inside, good.high)) ∙ good.found

  -- No block starts at the next instruction of the block.
  starts_none : (i j : Instr) → IsGood unit Start i → IsGood unit Start j → j.at ≡ i.at + i.size
      → is_before End j.at ≡ true
      → is_block_start unit (i.at + i.size) ≡ false
  starts_none i j first second next early =
      elim (cases_Bool (is_block_start unit (i.at + i.size))) [
        | inr none ↦ none
        | inl starts_there ↦
            absurd (no_start j.at j (omega (arith, first.high, first.some, next)) early second.found
            (subst (λ (at : ℕ). is_block_start unit at ≡ true) (sym next) starts_there))
      ]

  -- An instruction goes on to the next alone, where that one is of the block.
  goes_on_alone : (i j : Instr) → IsGood unit Start i → IsGood unit Start j → j.at ≡ i.at + i.size
      → is_before End j.at ≡ true
      → successors i.op (i.at + i.size) ≡ (i.at + i.size) ∷ []
  goes_on_alone i j first second next early =
      elim (cases_Bool (ends_block i.op)) [
        | inr e ↦ next_alone i.op (i.at + i.size) e
        | inl e ↦
            let marked = marked_by unit (i.at + i.size) i (in_body i first) (starts_behind i e) in
            absurd (false≢true (sym (starts_none i j first second next early) ∙ marked))
      ]

  -- An edge leads where a block starts.
  leads_there : (i j : Instr) (n target : ℕ) → IsGood unit Start i → is_before End i.at ≡ true
      → slice_get (successors i.op (i.at + i.size)) n ≡ Some target
      → unit.body_start ≤ target → instr_at unit.instrs target ≡ Some j → is_block_start unit target ≡ true
      → Leads (graph_of unit) b n target
  leads_there i j n target good early goes inside found marked =
      let (to, placed) =
      start_placed unit target j (found_in_rest unit.body_start unit.instrs target inside ∙ found) marked in
      let edge : Edge = record { from = b; to = to; number = n } in
      let block : block_at Blocks i.at ≡ Some b =
      ap last_place (count unit short b i.at (within i.at good.high early)) in
      let has = edge_there unit b n target to i (in_body i good) block goes placed in
      let is : get_or (edges_of unit) has.0 no_edge ≡ edge =
      get_or_default (edges_of unit) has.0 no_edge edge has.1 ∙ has.2 in
      record {
        edge = has.0;
        below = has.1;
        from = ap (λ (e : Edge). e.from) is;
        number = ap (λ (e : Edge). e.number) is;
        to =
            ap (λ (e : Edge). get_or Blocks e.to 0) is
            ∙ get_or_from_slice_get Blocks to target 0 (place_within Blocks target to placed).1;
      }

  -- The last instruction, after which a block starts where an instruction stands.
  last : (i : Instr) (at : ℕ) → i.at ≡ at → IsGood unit Start i → is_before End i.at ≡ true
      → ((j : Instr) → instr_at unit.instrs (i.at + i.size) ≡ Some j → is_block_start unit (i.at + i.size) ≡ true)
      → IsLast unit (graph_of unit) b at i
  last i at here good early behind = record {
    here = here;
    executed = good.executed;
    short = good.switch;
    found = good.found;
    leads = λ n target j goes inside found.
        leads_there i j n target good early goes inside found (marked n target j goes found);
  }
    where
      marked : (n target : ℕ) (j : Instr) → slice_get (successors i.op (i.at + i.size)) n ≡ Some target
          → instr_at unit.instrs target ≡ Some j → is_block_start unit target ≡ true
      marked n target j goes found =
          elim (target_or_next i.op (i.at + i.size) n target goes) [
            | inl has ↦ marked_by unit target i (in_body i good) (rw has refl)
            | inr same ↦ subst (λ (at : ℕ). is_block_start unit at ≡ true) (sym same)
                (behind j (subst (λ (at : ℕ). instr_at unit.instrs at ≡ Some j) same found))
          ]

  -- Behind the block the next one starts.
  next_starts : (i j : Instr) (is : List Instr) → i.at < j.at → is_before End i.at ≡ true → is_before End j.at ≡ false
      → LieFrom j.at (j ∷ is)
      → ((k : ℕ) → i.at ≤ k → instr_at (i ∷ j ∷ is) k ≡ instr_at unit.instrs k) → is_block_start unit j.at ≡ true
  next_starts i j is less early late lie rest = by End refl early late
    where
      by : (end : Option ℕ) → End ≡ end → is_before end i.at ≡ true → is_before end j.at ≡ false
          → is_block_start unit j.at ≡ true
      by None is early late = absurd (false≢true (sym late))
      by (Some e) there early late =
          let low : i.at < e = grind (arith, nat_tests, early) in
          let high : e ≤ j.at = grind (arith, nat_tests, late) in
          let start =
          subst (IsStart unit) (get_or_from_slice_get Blocks (suc b) e 0 there)
          (start_at unit short (suc b) (slice_get_within Blocks (suc b) e there)) in
          let other : (i.at == e) ≡ false = grind (arith, nat_tests, low) in
          let found : instr_at (j ∷ is) e ≡ Some start.instr =
          rw other at (rest e (omega (arith, low)) ∙ start.found) in
          let least : j.at ≤ start.instr.at =
          of_found (λ x. j.at ≤ x.at) (j ∷ is) e start.instr (all_after j.at j.at (j ∷ is) (omega arith) lie) found in
          let same : e ≡ j.at = omega (arith, high, least, found_at (j ∷ is) e start.instr found) in
          subst (λ (at : ℕ). is_block_start unit at ≡ true) same start.marked

  chain : (from : ℕ) (is : List Instr) → 0 < length is → LieFrom from is → AllByRecursion (IsGood unit Start) is
      → is_before End from ≡ true
      → ((k : ℕ) → from ≤ k → instr_at is k ≡ instr_at unit.instrs k)
      → IsChain unit (graph_of unit) b from (filter (λ i. is_before End i.at) is)
  chain from [] some lie goods early rest = absurd (omega (arith, some))
  chain from (i ∷ []) some lie goods early rest =
      let first : is_before End i.at ≡ true = ap (is_before End) lie.0 ∙ early in
      rw first (last i from lie.0 goods.0 first
      (λ j found. let size = goods.0.some in
      let other : (i.at == (i.at + i.size)) ≡ false = grind (arith, nat_tests, size) in
      let none : None ≡ Some j = rw other at (rest (i.at + i.size) (omega (arith, lie.0)) ∙ found) in
      absurd (none-some j none)))
  chain from (i ∷ j ∷ is) some lie goods early rest =
      let first : is_before End i.at ≡ true = ap (is_before End) lie.0 ∙ early in
      let next : j.at ≡ i.at + i.size = omega (arith, lie.0, lie.1.0) in
      elim (cases_Bool (is_before End j.at)) [
        | inl more ↦
            let on = goes_on_alone i j goods.0 goods.1.0 next more in
            let others =
            chain (from + i.size) (j ∷ is) (omega arith) lie.1 goods.1 (ap (is_before End) (sym lie.1.0) ∙ more)
            (λ k le. skip k (omega (arith, le, lie.0)) le) in
            let kept : filter (λ x. is_before End x.at) (j ∷ is) ≡ j ∷ filter (λ x. is_before End x.at) is =
            rw more refl in
            let behind : from + i.size ≡ i.at + i.size = omega (arith, lie.0) in
            rw (first, more) (
              record {
                passed = record { here = lie.0; executed = goods.0.executed; found = goods.0.found; next = on };
                inner = starts_none i j goods.0 goods.1.0 next more;
              },
              subst (λ (n : ℕ). IsChain unit (graph_of unit) b n (j ∷ filter (λ x. is_before End x.at) is)) behind
                  (subst (IsChain unit (graph_of unit) b (from + i.size)) kept others),
            )
        | inr late ↦
            let behind : LieFrom j.at (j ∷ is) = subst (λ (n : ℕ). LieFrom n (j ∷ is)) (sym lie.1.0) lie.1 in
            let none : filter (λ x. is_before End x.at) (j ∷ is) ≡ [] =
            none_before End j.at (j ∷ is) late (all_after j.at j.at (j ∷ is) (omega arith) behind) in
            let size = goods.0.some in
            let starts =
            next_starts i j is (omega (arith, next, size)) first late behind
            (λ k le. rest k (omega (arith, le, lie.0))) in
            let at_next : is_block_start unit (i.at + i.size) ≡ true =
            subst (λ (at : ℕ). is_block_start unit at ≡ true) next starts in
            rw first (subst (λ (js : List Instr). IsChain unit (graph_of unit) b from (i ∷ js)) (sym none)
            (last i from lie.0 goods.0 first (λ k found. at_next)))
      ]
    where
      skip : (k : ℕ) → i.at + i.size ≤ k → from + i.size ≤ k → instr_at (j ∷ is) k ≡ instr_at unit.instrs k
      skip k high le =
          let size = goods.0.some in
          let other : (i.at == k) ≡ false = grind (arith, nat_tests, high, size) in
          rw other at (rest k (omega (arith, le)))

  start_early : is_before End Start ≡ true
  start_early = by End refl
    where
      by : (end : Option ℕ) → End ≡ end → is_before end Start ≡ true
      by None is = refl
      by (Some e) is =
          let less : Start < get_or Blocks (suc b) 0 =
          pairs unit short b (suc b) 0 (omega arith) (slice_get_within Blocks (suc b) e is) in
          let at_end = get_or_from_slice_get Blocks (suc b) e 0 is in
          let low : Start < e = omega (arith, less, at_end) in
          grind (arith, nat_tests, low)

  some_found : (is : List Instr) (at : ℕ) (i : Instr) → instr_at is at ≡ Some i → 0 < length is
  some_found [] at i found = absurd (none-some i found)
  some_found (j ∷ is) at i found = omega arith

  pub chain_there : IsChain unit (graph_of unit) b Start (instrs_between Start End unit.instrs)
  chain_there =
      let first = start_at unit short b below in
      let rest = filter (λ i. nat_le Start i.at) unit.instrs in
      chain Start rest (some_found rest Start first.instr
      (found_in_rest Start unit.instrs Start (omega arith) ∙ first.found))
      (lies_there Start 0 unit.instrs first.instr short.lie first.found) goods start_early
      (λ k le. found_in_rest Start unit.instrs k le)
