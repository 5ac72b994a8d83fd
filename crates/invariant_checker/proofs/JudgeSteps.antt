-- Steps of the code that judges a unit.
use Rattle.std.proofs.Common.{◌≡◌, ℕ, zero, suc, ◌+◌, ◌^◌, ◌-◌, ◌<◌, ◌≤◌, List, [], ◌∷◌, ◌++◌, length, get_or, take, drop, map, All, refl, sym, ap, subst, ◌∙◌, add-one, append_assoc, append-nil, drop-cons, arith, inl, inr}
use Rattle.std.specs.Prelude.{IsTrue}
use Rattle.std.specs.List.{AllByRecursion, flat_map, range_with_len}
use Rattle.std.proofs.lemmas.Bool.{cases_Bool, false≢true}
use Rattle.std.proofs.lemmas.Grind.{flat_map-append}
use Rattle.std.proofs.lemmas.List.{drop_all, get_or-take, length-take}
use Rattle.std.proofs.lemmas.List.Elements.{All-from_recursion}
use Rattle.cil_model.specs.declared.instruction.Instr.{Instr}
use Rattle.cil_model.specs.declared.machine.FaultKind.{FaultKind}
use Rattle.cil_model.specs.declared.machine.Obligation.{Obligation}
use Rattle.cil_model.specs.declared.unit.Unit.{Unit as MethodUnit}
use Rattle.flow_graph.specs.declared.graph.Graph.{Graph}
use Rattle.flow_graph.proofs.Lying.{few_blocks}
use Rattle.obligation_prover.specs.Avoiding.{avoid}
use Rattle.obligation_prover.specs.ClausesTested.{CanTest, tested_by}
use Rattle.obligation_prover.specs.Entailed.{rules_out}
use Rattle.obligation_prover.specs.Obligations.{obligation, obligations_of}
use Rattle.state_facts.specs.StateFacts.{State}
use Rattle.transfer_rules.specs.Flow.{up_to_last}
use Rattle.transfer_rules.specs.Inductive.{HasShape, IsInductive, state_at}
use Rattle.transfer_rules.specs.Owed.{CanDo}
use Rattle.transfer_rules.specs.Post.{post}
use Rattle.transfer_rules.proofs.Walking.{walk_ends, walk_goes_on}
use Rattle.unit_flow.specs.Flow.{IsLawful}
use Rattle.unit_flow.specs.declared.unit_flow.UnitFlow.{UnitFlow}
use Rattle.unit_flow.proofs.LawfulCode as laws
use Rattle.invariant_checker.specs.Inducts.{is_inductive}
use Rattle.invariant_checker.specs.Verdicts.{CanJudge, unproved, verdicts, verdicts_at, verdicts_by_blocks, verdicts_from, verdicts_in, verdicts_in_turn, verdicts_of_block}
use Rattle.invariant_checker.specs.declared.verdict.Verdict.{Verdict}
use Rattle.invariant_checker.proofs.InductionTest.{inductive_by, inductive_true}

-- ---- the faults of an instruction

abbrev pub verdict_at : MethodUnit → Instr → FaultKind → State → Verdict
verdict_at unit i kind state = record { obligation = obligation i kind; proved = rules_out unit i.op kind state }

pub one_more_judged : (found : List Verdict) (unit : MethodUnit) (i : Instr) (kinds : List FaultKind) (k : ℕ)
    (d : FaultKind) (state : State) → k < length kinds
    → (found ++ verdict_at unit i (get_or kinds k d) state ∷ [])
    ++ verdicts_in_turn unit i (drop (k + 1) kinds) (avoid unit i.op (get_or kinds k d) state)
    ≡ found ++ verdicts_in_turn unit i (drop k kinds) state
one_more_judged found unit i kinds k d state below =
    append_assoc found (verdict_at unit i (get_or kinds k d) state ∷ [])
    (verdicts_in_turn unit i (drop (k + 1) kinds) (avoid unit i.op (get_or kinds k d) state))
    ∙ ap (λ (vs : List Verdict). found ++ vs) (sym (rw (drop-cons kinds k d below, add-one k) refl))

-- ---- the instructions of a block

-- All instructions but the last.
abbrev prefix : List Instr → List Instr
prefix is = take (length is - 1) is

module _ (unit : MethodUnit) (is : List Instr) (k : ℕ) (i : Instr) (state : State) (found : List Verdict) where
  from_it : k < length is → get_or is k i ≡ i → drop k is ≡ i ∷ drop (k + 1) is
  from_it below here =
      drop-cons is k i below
      ∙ (ap (λ (j : Instr). j ∷ drop (suc k) is) here ∙ ap (λ (n : ℕ). i ∷ drop n is) (sym (add-one k)))

  -- What is found at an instruction, and from the next one on.
  pub one_more_passed : k < length (prefix is) → i ≡ get_or (prefix is) k i
      → (found ++ verdicts_at unit i state) ++ verdicts_from unit (drop (k + 1) is) (post unit i.op state)
      ≡ found ++ verdicts_from unit (drop k is) state
  one_more_passed below there =
      let within : k < length is = omega (arith, below, length-take (length is - 1) is) in
      let here : get_or is k i ≡ i =
      sym (there ∙ get_or-take (length is - 1) is k i (omega (arith, below, length-take (length is - 1) is))) in
      append_assoc found (verdicts_at unit i state) (verdicts_from unit (drop (k + 1) is) (post unit i.op state))
      ∙ ap (λ (js : List Instr). found ++ verdicts_from unit js state) (sym (from_it within here))

-- What was found of the first instructions, and what is to be found of the others, is the whole; and these can be
-- judged.
pub record IsUnderWay (unit : MethodUnit) (is : List Instr) (before : List Verdict) (first : State)
    (found : List Verdict) (state : State) (k : ℕ) : Type 0 where
  pub same : found ++ verdicts_from unit (drop k is) state ≡ before ++ verdicts_from unit is first
  pub can : CanJudge unit (drop k is) state
  pub before_last : up_to_last unit (drop k is) state ≡ up_to_last unit is first

module _ (unit : MethodUnit) (is : List Instr) (before : List Verdict) (first : State) (found : List Verdict)
    (state : State) (k : ℕ) (i : Instr) (way : IsUnderWay unit is before first found state k)
    (below : k < length (prefix is)) (there : i ≡ get_or (prefix is) k i) where
  can_from : CanJudge unit (i ∷ drop (k + 1) is) state
  can_from =
      let last = length is - 1 in
      let within : k < length is = omega (arith, below, length-take last is) in
      let here : get_or is k i ≡ i = sym (there ∙ get_or-take last is k i (omega (arith, below, length-take last is))) in
      subst (λ (js : List Instr). CanJudge unit js state) (from_it unit is k i state found within here) way.can

  pub can_here : CanTest unit (tested_by unit i.op) state
  can_here = can_from.0

  pub can_do_here : CanDo unit i.op state
  can_do_here = can_from.1

  goes_on : (more : List Verdict) (new : State) → more ≡ found ++ verdicts_at unit i state → new ≡ post unit i.op state
      → IsUnderWay unit is before first more new (k + 1)
  goes_on more new told made = record {
    same = rw (told, made) (one_more_passed unit is k i state found below there ∙ way.same);
    can = subst (CanJudge unit (drop (k + 1) is)) (sym made) can_from.2;
    before_last =
        ap (up_to_last unit (drop (k + 1) is)) made
        ∙ (walk_goes_on unit is k i state below there ∙ way.before_last);
  }

pub next : (unit : MethodUnit) (is : List Instr) (before : List Verdict) (first : State) (found : List Verdict)
    (state : State) (k : ℕ) (i : Instr) → IsUnderWay unit is before first found state k → k < length (prefix is)
    → i ≡ get_or (prefix is) k i → (more : List Verdict) (new : State) → more ≡ found ++ verdicts_at unit i state
    → new ≡ post unit i.op state → IsUnderWay unit is before first more new (k + 1)
next unit is before first found state k i way below there more new told made =
    goes_on unit is before first found state k i way below there more new told made

-- The last one.
module _ (unit : MethodUnit) (is : List Instr) (before : List Verdict) (first : State) (found : List Verdict)
    (state : State) (k : ℕ) (last : Instr) (way : IsUnderWay unit is before first found state k) (some : 1 ≤ length is)
    (there : last ≡ get_or is (length is - 1) last) (low : length (prefix is) ≤ k) (high : k ≤ length (prefix is)) where
  at_last : drop k is ≡ last ∷ drop (k + 1) is
  at_last =
      let at : k ≡ length is - 1 = omega (arith, some, low, high, length-take (length is - 1) is) in
      from_it unit is k last state found (omega (arith, some, at)) (ap (λ (n : ℕ). get_or is n last) at ∙ sym there)

  pub can_last : CanTest unit (tested_by unit last.op) state
  can_last = (subst (λ (js : List Instr). CanJudge unit js state) at_last way.can).0

  pub ended : (more : List Verdict) → more ≡ found ++ verdicts_at unit last state
      → more ≡ before ++ verdicts_from unit is first
  ended more told =
      let none : drop (k + 1) is ≡ [] = drop_all (k + 1) is
      (omega (arith, some, low, length-take (length is - 1) is)) in
      told ∙ (sym (append-nil (found ++ verdicts_at unit last state))
      ∙ (append_assoc found (verdicts_at unit last state) []
      ∙ (ap (λ (vs : List Verdict). found ++ vs)
      (ap (λ (js : List Instr). verdicts_at unit last state ++ verdicts_from unit js (post unit last.op state)) (sym none)
      ∙ ap (λ (js : List Instr). verdicts_from unit js state) (sym at_last))
      ∙ way.same)))

pub ended_at : (unit : MethodUnit) (is : List Instr) (before : List Verdict) (first : State) (found : List Verdict)
    (state : State) (k : ℕ) → IsUnderWay unit is before first found state k → length (prefix is) ≤ k
    → state ≡ up_to_last unit is first
ended_at unit is before first found state k way low = sym (walk_ends unit is k state low) ∙ way.before_last

-- ---- all blocks

range_more : (a n : ℕ) → range_with_len a (suc n) ≡ range_with_len a n ++ (a + n) ∷ []
range_more a zero = let same : a ≡ a + 0 = omega arith in ap (λ (k : ℕ). k ∷ []) same
range_more a (suc n) =
    let same : a + 1 + n ≡ a + suc n = omega arith in
    ap (λ (ks : List ℕ). a ∷ ks)
    (range_more (a + 1) n ∙ ap (λ (k : ℕ). range_with_len (a + 1) n ++ k ∷ []) same)

module _ (code : UnitFlow) (states : List State) where
  pub block_judged : (k : ℕ) (state : State) (found more : List Verdict) → state ≡ state_at states k
      → found ≡ flat_map (verdicts_in code states) (range_with_len 0 k)
      → more ≡ found ++ verdicts_of_block code state k
      → more ≡ flat_map (verdicts_in code states) (range_with_len 0 (k + 1))
  block_judged k state found more is before here =
      let range : range_with_len 0 (k + 1) ≡ range_with_len 0 k ++ k ∷ [] =
      ap (range_with_len 0) (add-one k)
      ∙ (range_more 0 k ∙ ap (λ (n : ℕ). range_with_len 0 k ++ n ∷ []) (omega arith)) in
      let f = verdicts_in code states in
      here ∙ (ap (λ (vs : List Verdict). vs ++ verdicts_of_block code state k) before
      ∙ (ap (λ (s : State). flat_map f (range_with_len 0 k) ++ verdicts_of_block code s k) is
      ∙ (ap (λ (vs : List Verdict). flat_map f (range_with_len 0 k) ++ vs) (sym (append-nil (f k)))
      ∙ (sym (flat_map-append f (range_with_len 0 k) (k ∷ [])) ∙ ap (flat_map f) (sym range)))))

  pub few_blocks_there : IsLawful code → HasShape code states → (k : ℕ) → k < length states → k < 2 ^ 32
  few_blocks_there lawful shape k below =
      let few : length code.graph.blocks < 2 ^ 32 =
      subst (λ (g : Graph). length g.blocks < 2 ^ 32) (sym lawful.graph)
      (few_blocks code.unit (laws.short code lawful)) in
      omega (arith, few, below, shape.count)

  -- ---- by whether the states are an invariant

  pub judged_by_blocks : IsInductive code states → verdicts code states ≡ verdicts_by_blocks code states
  unfolding verdicts
  judged_by_blocks inductive = rw (inductive_true code states inductive) refl

  pub judged_unproved : (IsInductive code states → ⊥) → verdicts code states ≡ map unproved (obligations_of code.unit)
  unfolding verdicts
  judged_unproved never =
      elim (cases_Bool (is_inductive code states)) [
        | inl is ↦ absurd (never (inductive_by code states is))
        | inr not ↦ rw not refl
      ]

  none_proved : (listed : List Obligation)
      → AllByRecursion (λ v. IsTrue v.proved → IsInductive code states) (map unproved listed)
  none_proved [] = tt
  none_proved (o ∷ listed) = (λ proved. absurd (false≢true proved), none_proved listed)

  pub proved_where_inductive : All (λ v. IsTrue v.proved → IsInductive code states) (verdicts code states)
  unfolding verdicts
  proved_where_inductive =
      elim (cases_Bool (is_inductive code states)) [
        | inl is ↦ (λ k d below proved. inductive_by code states is)
        | inr not ↦
            rw not
            (All-from_recursion (λ v. IsTrue v.proved → IsInductive code states)
            (map unproved (obligations_of code.unit)) (none_proved (obligations_of code.unit)))
      ]
