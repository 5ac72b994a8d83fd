-- Where an invariant proves the obligations of a unit, what its states say is true of each point that a run comes to.
use Rattle.std.proofs.Common.{◌≡◌, ℕ, zero, suc, ◌+◌, ◌<◌, ◌≤◌, true, false, List, [], ◌∷◌, ◌++◌, length, slice_get, Option, Some, refl, sym, subst, ◌∙◌, arith, inl, inr}
use Rattle.std.specs.List.{flat_map, range_with_len}
use Rattle.std.proofs.lemmas.Bool.{and_parts, cases_lt}
use Rattle.std.proofs.lemmas.List.Folds.{list_all-append}
use Rattle.std.proofs.lemmas.Option.{none-some, same_Some}
use Rattle.cil_model.specs.Calls.{FreeCall}
use Rattle.cil_model.specs.Passes.{stack_at}
use Rattle.cil_model.specs.Runs.{Row, instr_at}
use Rattle.cil_model.specs.declared.instruction.Instr.{Instr}
use Rattle.cil_model.specs.declared.machine.Config.TheVariants.{Fault}
use Rattle.cil_model.specs.declared.machine.FaultKind.{FaultKind}
use Rattle.cil_model.specs.declared.place.Kind.{Kind}
use Rattle.cil_model.specs.declared.unit.Unit.{Unit as MethodUnit}
use Rattle.machine_points.specs.Points.{IsPointOf}
use Rattle.machine_points.specs.declared.point.Point.{Point}
use Rattle.obligation_prover.specs.Avoiding.{avoid}
use Rattle.obligation_prover.specs.ClausesTested.{clauses_shown, tested_by}
use Rattle.obligation_prover.specs.EachFault.{AreRuledOutInTurn}
use Rattle.obligation_prover.specs.Faults.{faults_of, is_of_clause}
use Rattle.obligation_prover.proofs.Complete.{effect_of_step}
use Rattle.obligation_prover.proofs.InTurn.{in_turn}
use Rattle.obligation_prover.proofs.NoneFalse.{finds_none}
use Rattle.state_facts.specs.Holds.{HoldsAt}
use Rattle.state_facts.specs.StateFacts.{State}
use Rattle.transfer_rules.specs.Forms.{FitsStack}
use Rattle.transfer_rules.specs.Inductive.{IsInductive, state_at}
use Rattle.transfer_rules.specs.Post.{post}
use Rattle.transfer_rules.specs.Laws.FlowSteps.{fits_formed, post_fits, post_ready}
use Rattle.transfer_rules.specs.Laws.StepsHold.{step_holds}
use Rattle.transfer_rules.proofs.Inducing.{holds_there}
use Rattle.unit_flow.specs.Chains.{IsChain, IsPassed}
use Rattle.unit_flow.specs.Flow.{IsLawful, Steps, block_instrs, start_of}
use Rattle.unit_flow.specs.Ways.{way_of}
use Rattle.unit_flow.specs.declared.unit_flow.UnitFlow.{UnitFlow}
use Rattle.unit_flow.proofs.BlockChains.{block_chain}
use Rattle.unit_flow.proofs.OnTheWay.{IsOnItsWay, Passes}
use Rattle.unit_flow.proofs.WayLaws.{takes_way}
use Rattle.invariant_checker.specs.Counts.{all_proved}
use Rattle.invariant_checker.specs.Verdicts.{clause_verdicts, own_verdicts, verdicts_at, verdicts_by_blocks, verdicts_from, verdicts_in, verdicts_in_turn}
use Rattle.invariant_checker.specs.declared.verdict.Verdict.{Verdict}
use Rattle.invariant_checker.proofs.ClauseVerdicts.{each_shown}
use Rattle.invariant_checker.proofs.Judgeable.{can_test}
use Rattle.invariant_checker.proofs.SafeRuns.{NoneFaults}

-- ---- verdicts

ruled_out_in_turn : (unit : MethodUnit) (i : Instr) (kinds : List FaultKind) (state : State)
    → all_proved (verdicts_in_turn unit i kinds state) ≡ true → AreRuledOutInTurn unit i.op kinds state
ruled_out_in_turn unit i [] state proved = tt
ruled_out_in_turn unit i (kind ∷ kinds) state proved =
    let parts = and_parts _ _ proved in
    (parts.0, ruled_out_in_turn unit i kinds (avoid unit i.op kind state) parts.1)

both_proved : (prefix behind : List Verdict) → all_proved (prefix ++ behind) ≡ true
    → (all_proved prefix ≡ true) × (all_proved behind ≡ true)
both_proved prefix behind proved =
    and_parts (all_proved prefix) (all_proved behind)
    (sym (list_all-append (λ (v : Verdict). v.proved) prefix behind) ∙ proved)

one_of_all : (f : ℕ → List Verdict) (a n b : ℕ) → all_proved (flat_map f (range_with_len a n)) ≡ true → a ≤ b
    → b < a + n → all_proved (f b) ≡ true
one_of_all f a zero b proved low high = absurd (omega (arith, low, high))
one_of_all f a (suc n) b proved low high =
    let parts = both_proved (f a) (flat_map f (range_with_len (a + 1) n)) proved in
    elim (cases_lt a b) [
      | inl less ↦ one_of_all f (a + 1) n b parts.1 (omega (arith, less)) (omega (arith, high))
      | inr not ↦ (let same : a ≡ b = omega (arith, low, not) in
          subst (λ (k : ℕ). all_proved (f k) ≡ true) same parts.0)
    ]

only : (next n at : ℕ) → slice_get (next ∷ []) n ≡ Some at → at ≡ next
only next zero at e = sym (same_Some next at e)
only next (suc n) at e = absurd (none-some at e)

module _ (code : UnitFlow) (lawful : IsLawful code) (states : List State) (inductive : IsInductive code states)
    (proved : all_proved (verdicts_by_blocks code states) ≡ true) where
  abbrev unit : MethodUnit
  unit = code.unit

  abbrev before : ℕ → Option (List Kind)
  before at = stack_at unit.instrs code.kinds at

  -- The point is at the first of these instructions of the block, and the state before it holds: each verdict from here
  -- on is proved.
  record Stands (b : ℕ) (is : List Instr) (state : State) (p : Point) : Type 0 where
    pub chain : IsChain unit code.graph b p.frame.at is
    pub fits : FitsStack unit (before p.frame.at) state
    pub shown : all_proved (verdicts_from unit is state) ≡ true
    pub holds : HoldsAt state p

  -- At the start of a block.
  stands_first : (b : ℕ) (p : Point) → b < length code.graph.blocks → p.frame.at ≡ start_of code b
      → HoldsAt (state_at states b) p → Stands b (block_instrs code b) (state_at states b) p
  stands_first b p below here holds = record {
    chain = subst (λ (at : ℕ). IsChain unit code.graph b at (block_instrs code b)) (sym here)
        (block_chain code lawful b below);
    fits = subst (λ (at : ℕ). FitsStack unit (before at) (state_at states b)) (sym here)
        (inductive.shape.fit b (subst (λ (n : ℕ). b < n) (sym inductive.shape.count) below));
    shown = one_of_all (verdicts_in code states) 0 (length code.graph.blocks) b proved (omega arith)
        (omega (arith, below));
    holds = holds;
  }

  -- From an instruction of the block that is not its last one.
  passes : (b : ℕ) (i j : Instr) (is : List Instr) (state : State) (p q : Point) → Stands b (i ∷ j ∷ is) state p
      → Steps unit i p q → Stands b (j ∷ is) (post unit i.op state) q
  passes b i j is state p q stands step =
      let passed : IsPassed unit p.frame.at i = stands.chain.0.passed in
      let next : q.frame.at ≡ i.at + i.size = only (i.at + i.size) (way_of i.op p.frame.stack) q.frame.at
      (subst (λ (ats : List ℕ). slice_get ats (way_of i.op p.frame.stack) ≡ Some q.frame.at) passed.next
      (takes_way unit i p q step)) in
      let behind = post unit i.op state in
      record {
        chain = subst (λ (at : ℕ). IsChain unit code.graph b at (j ∷ is)) (sym next) stands.chain.1;
        fits = subst (λ (at : ℕ). FitsStack unit (before at) behind) (sym next)
            (post_fits code lawful i p.frame.at state passed stands.fits);
        shown = (both_proved (verdicts_at unit i state) (verdicts_from unit (j ∷ is) behind) stands.shown).1;
        holds = step_holds code lawful i state p q (fits_formed unit (before p.frame.at) state stands.fits)
            (post_ready code lawful i p.frame.at state passed.here passed.found stands.fits) step stands.holds;
      }

  stands_on : (b : ℕ) (is : List Instr) (state : State) (p : Point) (rest : List Instr) (q : Point)
      → Passes unit is p rest q → IsChain unit code.graph b q.frame.at rest → Stands b is state p
      → (behind : State) × Stands b rest behind q
  stands_on b [] state p rest q is_there chain stands = elim stands.chain [ ]
  stands_on b (i ∷ is) state p rest q (inl is_there) chain stands = (
    state,
    subst (λ (js : List Instr). Stands b js state q) (sym is_there.rest_is)
        (subst (λ (r : Point). Stands b (i ∷ is) state r) (sym is_there.point_is) stands),
  )
  stands_on b (i ∷ []) state p rest q (inr (mid, step, is_there)) chain stands =
      elim (subst (IsChain unit code.graph b q.frame.at) is_there.rest_is chain) [ ]
  stands_on b (i ∷ j ∷ is) state p rest q (inr (mid, step, more)) chain stands =
      stands_on b (j ∷ is) (post unit i.op state) mid rest q more chain (passes b i j is state p mid stands step)

  -- Each point to which a run comes: the induction along edges gives what holds at the start of its block.
  stands_there : (p : Point) (way : IsOnItsWay code p) → (state : State) × Stands way.block way.rest state p
  stands_there p way =
      stands_on way.block (block_instrs code way.block) (state_at states way.block) way.first way.rest p way.passes
      way.chain
      (stands_first way.block way.first way.below way.here
      (holds_there code lawful states inductive way.count way.block way.first way.came))

  -- ---- no step ends in a fault

  no_fault : (i k : Instr) (state : State) (p : Point) (kind : FaultKind) (index at : ℕ) → IsPointOf unit p
      → i.at ≡ p.frame.at → instr_at unit.instrs i.at ≡ Some i → instr_at unit.instrs p.frame.at ≡ Some k
      → FitsStack unit (before p.frame.at) state → HoldsAt state p → all_proved (verdicts_at unit i state) ≡ true
      → Row (FreeCall unit) k.op [] unit k p.frame p.heap (Fault kind index at) → ⊥
  no_fault i k state p kind index at point here found other fits holds shown row =
      let same : k ≡ i = same_Some k i (sym other ∙ subst (λ (at : ℕ). instr_at unit.instrs at ≡ Some i) here found) in
      let both = both_proved (own_verdicts unit i state) (clause_verdicts unit i state) shown in
      let step : Row (FreeCall unit) i.op [] unit i p.frame p.heap (Fault kind index at) =
      subst (λ (x : Instr). Row (FreeCall unit) x.op [] unit x p.frame p.heap (Fault kind index at)) same row in
      let plain : is_of_clause kind ≡ false =
      finds_none unit i.op state lawful.formed (can_test code lawful i p.frame.at state here found fits)
      (each_shown i (tested_by unit i.op) 1 (clauses_shown unit i.op state) both.1) i p kind index at refl point holds
      step in
      in_turn unit i.op state (fits_formed unit (before p.frame.at) state fits)
      (ruled_out_in_turn unit i (faults_of unit i.op) state both.0) kind i p refl holds
      (effect_of_step unit i p.frame p.heap kind index at plain step)

  none_ends : (b : ℕ) (is : List Instr) (k : Instr) (state : State) (p : Point) (kind : FaultKind) (index at : ℕ)
      → IsPointOf unit p → instr_at unit.instrs p.frame.at ≡ Some k → Stands b is state p
      → Row (FreeCall unit) k.op [] unit k p.frame p.heap (Fault kind index at) → ⊥
  none_ends b [] k state p kind index at point found stands row = elim stands.chain [ ]
  none_ends b (i ∷ []) k state p kind index at point found stands row =
      no_fault i k state p kind index at point stands.chain.here stands.chain.found found stands.fits stands.holds
      (both_proved (verdicts_at unit i state) [] stands.shown).0 row
  none_ends b (i ∷ j ∷ is) k state p kind index at point found stands row =
      let passed : IsPassed unit p.frame.at i = stands.chain.0.passed in
      no_fault i k state p kind index at point passed.here passed.found found stands.fits stands.holds
      (both_proved (verdicts_at unit i state) (verdicts_from unit (j ∷ is) (post unit i.op state)) stands.shown).0 row

  pub none_faults : NoneFaults code lawful
  none_faults = λ kind index at to.
      let (state, stands) = stands_there to.before to.way in
      let (k, found, row) = to.step in
      none_ends to.way.block to.way.rest k state to.before kind index at
      (record { heap = to.in_body.fits.heap_is; frame = to.in_body.fits.frame }) found stands row
