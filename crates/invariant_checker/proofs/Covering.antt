-- The blocks of a unit are its body, and each obligation has its verdict.
use Rattle.std.proofs.Common.{◌≡◌, ℕ, zero, suc, ◌+◌, ◌<◌, ◌≤◌, true, false, nat_le, List, [], ◌∷◌, ◌++◌, length, get_or, map, filter, slice_get, Option, Some, None, refl, sym, ap, subst, ◌∙◌, append-nil, arith, inl, inr}
use Rattle.std.specs.List.{AllPairs, flat_map, range_with_len}
use Rattle.std.proofs.lemmas.Bool.{cases_Bool}
use Rattle.std.proofs.lemmas.Bool.Decides.{nat_tests}
use Rattle.std.proofs.lemmas.Grind.{flat_map-append}
use Rattle.std.proofs.lemmas.List.{map-append}
use Rattle.std.proofs.lemmas.List.Kept.{AllPairs-from_increasing}
use Rattle.std.proofs.lemmas.Option.{get_or_from_slice_get, slice_get-get_or, slice_get_past}
use Rattle.cil_model.specs.Blocks.{body_of}
use Rattle.cil_model.specs.ShortCode.{LieFrom}
use Rattle.cil_model.specs.declared.instruction.Instr.{Instr}
use Rattle.cil_model.specs.declared.machine.FaultKind.{FaultKind}
use Rattle.cil_model.specs.declared.machine.Obligation.{Obligation}
use Rattle.cil_model.specs.declared.unit.Unit.{Unit as MethodUnit}
use Rattle.flow_graph.specs.declared.graph.Graph.{Graph}
use Rattle.flow_graph.proofs.Lying.{all_after, all_kept, blocks_increase}
use Rattle.obligation_prover.specs.Avoiding.{avoid}
use Rattle.obligation_prover.specs.Faults.{faults_of}
use Rattle.obligation_prover.specs.Obligations.{obligation, obligations_at, obligations_in, obligations_of, own_obligations}
use Rattle.state_facts.specs.StateFacts.{State}
use Rattle.transfer_rules.specs.Inductive.{state_at}
use Rattle.transfer_rules.specs.Post.{post}
use Rattle.unit_flow.specs.Flow.{IsLawful, block_instrs, instrs_between, is_before}
use Rattle.unit_flow.specs.declared.unit_flow.UnitFlow.{UnitFlow}
use Rattle.unit_flow.proofs.BlockStarts.{none_before}
use Rattle.unit_flow.proofs.LawfulCode as laws
use Rattle.unit_flow.proofs.Slicing.{kept_all}
use Rattle.invariant_checker.specs.Inducts.{is_inductive}
use Rattle.invariant_checker.specs.Verdicts.{clause_verdicts, own_verdicts, unproved, verdicts, verdicts_at, verdicts_from, verdicts_in, verdicts_in_turn}
use Rattle.invariant_checker.specs.declared.verdict.Verdict.{Verdict}
use Rattle.invariant_checker.proofs.ClauseVerdicts.{clauses_told}

-- ---- instructions cut at an offset

-- Those up to an offset and those from it on are all.
cut_at : (start end at : ℕ) (is : List Instr) → start ≤ end → LieFrom at is
    → instrs_between start (Some end) is ++ filter (λ i. nat_le end i.at) is ≡ filter (λ i. nat_le start i.at) is
cut_at start end at [] le lie = refl
cut_at start end at (i ∷ is) le lie =
    elim (cases_Bool (nat_le end i.at)) [
      | inl behind ↦
          let high : end ≤ i.at = grind (arith, nat_tests, behind) in
          let from : LieFrom i.at (i ∷ is) = subst (λ (n : ℕ). LieFrom n (i ∷ is)) (sym lie.0) lie in
          let whole = all_kept start i.at (i ∷ is) (omega (arith, le, high)) from in
          let late : is_before (Some end) i.at ≡ false = grind (arith, nat_tests, high) in
          let none : instrs_between start (Some end) (i ∷ is) ≡ [] =
          ap (λ (js : List Instr). filter (λ j. is_before (Some end) j.at) js) whole
          ∙ none_before (Some end) i.at (i ∷ is) late (all_after i.at i.at (i ∷ is) (omega arith) from) in
          ap (λ (js : List Instr). js ++ filter (λ j. nat_le end j.at) (i ∷ is)) none
          ∙ (all_kept end i.at (i ∷ is) high from ∙ sym whole)
      | inr before ↦
          let low : i.at < end = grind (arith, nat_tests, before) in
          let early : is_before (Some end) i.at ≡ true = grind (arith, nat_tests, low) in
          let rest = cut_at start end (at + i.size) is le lie.1 in
          elim (cases_Bool (nat_le start i.at)) [
            | inl kept ↦ rw (kept, early, before) (ap (λ (js : List Instr). i ∷ js) rest)
            | inr dropped ↦ rw (dropped, before) rest
          ]
    ]

module _ (starts : List ℕ) (is : List Instr) (at : ℕ) (pairs : AllPairs (λ a b. a < b) starts)
    (lie : LieFrom at is) where
  abbrev block : ℕ → List Instr
  block b = instrs_between (get_or starts b 0) (slice_get starts (b + 1)) is

  -- The blocks from one on are the instructions from its start on.
  blocks_from : (b n : ℕ) → b + suc n ≡ length starts
      → flat_map block (range_with_len b (suc n)) ≡ filter (λ i. nat_le (get_or starts b 0) i.at) is
  blocks_from b zero ends =
      let rest = filter (λ i. nat_le (get_or starts b 0) i.at) is in
      let none : slice_get starts (b + 1) ≡ None = slice_get_past starts (b + 1) (omega (arith, ends)) in
      append-nil (block b)
      ∙ (ap (λ (end : Option ℕ). filter (λ i. is_before end i.at) rest) none ∙ kept_all rest)
  blocks_from b (suc n) ends =
      let there : slice_get starts (b + 1) ≡ Some (get_or starts (b + 1) 0) =
      slice_get-get_or starts (b + 1) 0 (omega (arith, ends)) in
      let less : get_or starts b 0 < get_or starts (b + 1) 0 = pairs b (b + 1) 0 (omega arith) (omega (arith, ends)) in
      let others = blocks_from (b + 1) n (omega (arith, ends)) in
      ap (λ (js : List Instr). block b ++ js) others
      ∙ (ap (λ (end : Option ℕ). instrs_between (get_or starts b 0) end is
      ++ filter (λ i. nat_le (get_or starts (b + 1) 0) i.at) is) there
      ∙ cut_at (get_or starts b 0) (get_or starts (b + 1) 0) at is (omega (arith, less)) lie)

blocks_are_body : (code : UnitFlow) → IsLawful code
    → flat_map (block_instrs code) (range_with_len 0 (length code.graph.blocks)) ≡ body_of code.unit
blocks_are_body code lawful = by (length code.graph.blocks) refl
  where
    unit : MethodUnit
    unit = code.unit

    pairs : AllPairs (λ a b. a < b) code.graph.blocks
    pairs =
        subst (λ (g : Graph). AllPairs (λ a b. a < b) g.blocks) (sym lawful.graph)
        (AllPairs-from_increasing _ (blocks_increase code.unit (laws.short code lawful)))

    first : get_or code.graph.blocks 0 0 ≡ code.unit.body_start
    first = get_or_from_slice_get code.graph.blocks 0 code.unit.body_start 0 (laws.starts code lawful)

    by : (n : ℕ) → n ≡ length code.graph.blocks → flat_map (block_instrs code) (range_with_len 0 n) ≡ body_of code.unit
    by zero is = absurd (omega (arith, is, laws.has_block code lawful))
    by (suc n) is =
        blocks_from code.graph.blocks code.unit.instrs 0 pairs (laws.short code lawful).lie 0 n (omega (arith, is))
        ∙ ap (λ (start : ℕ). filter (λ i. nat_le start i.at) code.unit.instrs) first

-- ---- obligations

abbrev pub obligations_told : List Verdict → List Obligation
obligations_told found = map (λ v. v.obligation) found

told_in_turn : (unit : MethodUnit) (i : Instr) (kinds : List FaultKind) (state : State)
    → obligations_told (verdicts_in_turn unit i kinds state) ≡ map (obligation i) kinds
told_in_turn unit i [] state = refl
told_in_turn unit i (kind ∷ kinds) state =
    ap (λ (os : List Obligation). obligation i kind ∷ os)
    (told_in_turn unit i kinds (avoid unit i.op kind state))

-- One verdict for each obligation of an instruction.
told_at : (unit : MethodUnit) (i : Instr) (state : State)
    → obligations_told (verdicts_at unit i state) ≡ obligations_at unit i
told_at unit i state =
    map-append (λ (v : Verdict). v.obligation) (own_verdicts unit i state) (clause_verdicts unit i state)
    ∙ (ap (λ (os : List Obligation). os ++ obligations_told (clause_verdicts unit i state))
    (told_in_turn unit i (faults_of unit i.op) state)
    ∙ ap (λ (os : List Obligation). own_obligations unit i ++ os) (clauses_told unit i state))

told_from : (unit : MethodUnit) (is : List Instr) (state : State)
    → obligations_told (verdicts_from unit is state) ≡ flat_map (obligations_at unit) is
told_from unit [] state = refl
told_from unit (i ∷ is) state =
    let prefix = told_at unit i state in
    let behind = told_from unit is (post unit i.op state) in
    map-append (λ (v : Verdict). v.obligation) (verdicts_at unit i state) (verdicts_from unit is (post unit i.op state))
    ∙ (ap (λ (os : List Obligation). os ++ obligations_told (verdicts_from unit is (post unit i.op state))) prefix
    ∙ ap (λ (os : List Obligation). obligations_at unit i ++ os) behind)

module _ (code : UnitFlow) (states : List State) where
  told_by_blocks : (a n : ℕ) → obligations_told (flat_map (verdicts_in code states) (range_with_len a n))
      ≡ flat_map (obligations_at code.unit) (flat_map (block_instrs code) (range_with_len a n))
  told_by_blocks a zero = refl
  told_by_blocks a (suc n) =
      let prefix = told_from code.unit (block_instrs code a) (state_at states a) in
      let behind = told_by_blocks (a + 1) n in
      let later = flat_map (verdicts_in code states) (range_with_len (a + 1) n) in
      map-append (λ (v : Verdict). v.obligation) (verdicts_in code states a) later
      ∙ (ap (λ (os : List Obligation). os ++ obligations_told later) prefix
      ∙ (ap (λ (os : List Obligation). flat_map (obligations_at code.unit) (block_instrs code a) ++ os) behind
      ∙ sym (flat_map-append (obligations_at code.unit) (block_instrs code a)
      (flat_map (block_instrs code) (range_with_len (a + 1) n)))))

told_of_body : (unit : MethodUnit) (is : List Instr)
    → flat_map (obligations_at unit) (filter (λ i. nat_le unit.body_start i.at) is) ≡ flat_map (obligations_in unit) is
told_of_body unit [] = refl
told_of_body unit (i ∷ is) =
    elim (cases_Bool (nat_le unit.body_start i.at)) [
      | inl kept ↦ rw kept (ap (λ (os : List Obligation). obligations_at unit i ++ os) (told_of_body unit is))
      | inr dropped ↦ rw dropped (told_of_body unit is)
    ]

told_unproved : (os : List Obligation) → obligations_told (map unproved os) ≡ os
told_unproved [] = refl
told_unproved (o ∷ os) = ap (λ (ps : List Obligation). o ∷ ps) (told_unproved os)

-- One verdict for each obligation, in order.
pub each_told : (code : UnitFlow) (states : List State) → IsLawful code
    → obligations_told (verdicts code states) ≡ obligations_of code.unit
unfolding verdicts
each_told code states lawful =
    elim (cases_Bool (is_inductive code states)) [
      | inl is ↦
          rw is
          (told_by_blocks code states 0 (length code.graph.blocks)
          ∙ (ap (flat_map (obligations_at code.unit)) (blocks_are_body code lawful)
          ∙ told_of_body code.unit code.unit.instrs))
      | inr not ↦ rw not (told_unproved (obligations_of code.unit))
    ]
