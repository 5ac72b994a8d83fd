-- What the tests of an invariant tell.
use Rattle.std.proofs.Common.{◌≡◌, ℕ, zero, suc, ◌+◌, ◌<◌, ◌≤◌, Bool, true, List, [], ◌∷◌, ◌++◌, length, length-append, get_or, None, Result, refl, sym, ap, subst, ◌∙◌, arith, inl, inr}
use Rattle.std.specs.Prelude.{◌↔◌, IsTrue, IfOk}
use Rattle.std.proofs.Math.ListN.{get_or-append}
use Rattle.std.proofs.Math.Seq.{get_or-append_seam}
use Rattle.std.proofs.lemmas.Bool.{cases_lt}
use Rattle.std.proofs.lemmas.Result.{IfOk-weaker}
use Rattle.cil_model.specs.Limits.{MAX_BLOCKS}
use Rattle.flow_graph.proofs.GraphFacts.{blocks_counted}
use Rattle.flow_graph.specs.declared.graph.Edge.{Edge}
use Rattle.flow_graph.specs.declared.graph.Graph.{Graph}
use Rattle.machine_points.proofs.Induction.{Flow, States, holds_along}
use Rattle.state_facts.specs.StateFacts.{State}
use Rattle.state_facts.specs.Holds.{HoldsAt}
use Rattle.merged_states.specs.Laws.StatesHold.{leq_holds}
use Rattle.merged_states.specs.Inclusion.{is_included}
use Rattle.merged_states.specs.Alike.{AreLikeStates}
use Rattle.transfer_rules.specs.Entry.{entry}
use Rattle.transfer_rules.specs.Flow.{ComesThrough, Fits, along_edge, before_last, leaving}
use Rattle.transfer_rules.specs.Laws.FormsMerged.{fitting_like}
use Rattle.transfer_rules.specs.Laws.FlowLaws as laws
use Rattle.transfer_rules.specs.Inductive.{AllCarried, AreBeforeLast, AreBegun, HasShape, HoldsInRuns, HoldsWhereItComes, IsBegun, IsInductive, state_at}
use Rattle.unit_flow.proofs.OnTheWay.{runs_go_along}
use Rattle.unit_flow.specs.Flow.{IsLawful, edge_at, kinds_at, no_edge}
use Rattle.unit_flow.specs.Runs.{edges_in}
use Rattle.unit_flow.specs.declared.unit_flow.UnitFlow.{UnitFlow}

-- ---- one more

pub one_more : (P : ℕ → Type 0) (n : ℕ) → ((k : ℕ) → k < n → P k) → P n → (k : ℕ) → k < n + 1 → P k
one_more P n before here k below =
    elim (cases_lt k n) [
      | inl less ↦ before k less
      | inr not ↦ (let same : k ≡ n = omega (arith, below, not) in subst P (sym same) here)
    ]

same_item : (states : List State) (i : ℕ) (d e : State) → i < length states → get_or states i d ≡ get_or states i e
same_item [] i d e below = absurd (omega (arith, below))
same_item (s ∷ states) zero d e below = refl
same_item (s ∷ states) (suc i) d e below = same_item states i d e (omega (arith, below))

pub item_is : (states : List State) (i : ℕ) (s : State) → i < length states → s ≡ get_or states i s → s ≡ state_at states i
item_is states i s below is = is ∙ same_item states i s None below

-- A unit has few blocks.
pub few_blocks : (code : UnitFlow) → IsLawful code → length code.graph.blocks ≤ MAX_BLOCKS
few_blocks code lawful =
    subst (λ (g : Graph). length g.blocks ≤ MAX_BLOCKS) (sym lawful.graph)
    (subst (λ (n : ℕ). n ≤ MAX_BLOCKS) (sym (blocks_counted code.unit)) lawful.formed.limits.blocks)

-- ---- one edge

-- An answer whether one state is included in another.
pub told_so : {E : Type 0} (r : Result Bool E) (a b c d : State) → IfOk r (λ less. less ≡ is_included a b) → a ≡ c → b ≡ d → IfOk r (λ yes. IsTrue yes ↔ (is_included c d ≡ true))
told_so r a b c d answer p q = IfOk-weaker r _ (λ yes. IsTrue yes ↔ (is_included c d ≡ true)) (λ less is. same less (is ∙ both)) answer
  where
    both : is_included a b ≡ is_included c d
    both = cc

    same : (less : Bool) → less ≡ is_included c d → IsTrue less ↔ (is_included c d ≡ true)
    same less is = (λ yes. sym is ∙ yes, λ yes. is ∙ yes)

module _ (code : UnitFlow) (lawful : IsLawful code) (states : List State) (shape : HasShape code states) (k : ℕ) (below : k < length code.graph.edges) (edges : List Edge)
    (are : edges ≡ code.graph.edges) where
  abbrev edge : Edge
  edge = get_or edges k no_edge

  edge_is : edge ≡ edge_at code k
  edge_is = ap (λ (es : List Edge). get_or es k no_edge) are

  source_fits : Fits code (edge_at code k).from (state_at states (edge_at code k).from)
  source_fits = shape.fit (edge_at code k).from
      (subst (λ (n : ℕ). (edge_at code k).from < n) (sym shape.count) (laws.source_below code k lawful below))

  pub from_below : edge.from < length states
  from_below = subst (λ (e : Edge). e.from < length states) (sym edge_is) (subst (λ (n : ℕ). (edge_at code k).from < n) (sym shape.count) (laws.source_below code k lawful below))

  pub to_below : edge.to < length states
  to_below = subst (λ (e : Edge). e.to < length states) (sym edge_is) (subst (λ (n : ℕ). (edge_at code k).to < n) (sym shape.count) (laws.target_below code k lawful below))

  pub from_is : (s : State) → s ≡ get_or states edge.from s → s ≡ state_at states (edge_at code k).from
  from_is s is = item_is states edge.from s from_below is ∙ ap (λ (e : Edge). state_at states e.from) edge_is

  pub to_is : (s : State) → s ≡ get_or states edge.to s → s ≡ state_at states (edge_at code k).to
  to_is s is = item_is states edge.to s to_below is ∙ ap (λ (e : Edge). state_at states e.to) edge_is

  pub from_fits : (s : State) → s ≡ get_or states edge.from s → Fits code (edge_at code k).from s
  from_fits s is = subst (Fits code (edge_at code k).from) (sym (from_is s is)) source_fits

  to_fits : (s : State) → s ≡ get_or states edge.to s → Fits code (edge_at code k).to s
  to_fits s is = subst (Fits code (edge_at code k).to) (sym (to_is s is))
      (shape.fit (edge_at code k).to (subst (λ (e : Edge). e.to < length states) edge_is to_below))

  pub are_alike : (t behind : State) → t ≡ get_or states edge.to t
      → behind ≡ along_edge (state_at states (edge_at code k).from) code k → AreLikeStates behind t
  are_alike t behind to is =
      let source : State = state_at states (edge_at code k).from in
      fitting_like code.unit (kinds_at code (edge_at code k).to) behind t
      (subst (Fits code (edge_at code k).to) (sym is) (laws.along_fits code k source lawful below source_fits))
      (to_fits t to)

  -- ---- from the state before the last instruction of its source

  module _ (befores : List State) (before_each : AreBeforeLast code states befores) where
    pub before_below : edge.from < length befores
    before_below = subst (λ (n : ℕ). edge.from < n) (sym before_each.count) from_below

    pub before_is : (s : State) → s ≡ get_or befores edge.from s
        → s ≡ before_last (state_at states (edge_at code k).from) code (edge_at code k).from
    before_is s is =
        item_is befores edge.from s before_below is
        ∙ (ap (λ (e : Edge). state_at befores e.from) edge_is
        ∙ before_each.each (edge_at code k).from (subst (λ (e : Edge). e.from < length states) edge_is from_below))

    pub comes_through : (s again : State) → s ≡ get_or befores edge.from s → again ≡ s
        → ComesThrough code (edge_at code k).from again
    comes_through s again is same = (state_at states (edge_at code k).from, source_fits, same ∙ before_is s is)

    pub behind_is : (s again behind : State) → s ≡ get_or befores edge.from s → again ≡ s
        → behind ≡ leaving again code k → behind ≡ along_edge (state_at states (edge_at code k).from) code k
    behind_is s again behind is same left =
        left ∙ (ap (λ (a : State). leaving a code k) (same ∙ before_is s is)
        ∙ sym (laws.along_is code k (state_at states (edge_at code k).from)))

-- ---- the states before the last instructions of the first blocks

pub record AreBeforeUpTo (code : UnitFlow) (states : List State) (n : ℕ) (befores : List State) : Type 0 where
  pub count : length befores ≡ n
  pub each : (block : ℕ) → block < n → state_at befores block ≡ before_last (state_at states block) code block

pub before_none : (code : UnitFlow) (states befores : List State) → befores ≡ [] → AreBeforeUpTo code states 0 befores
before_none code states befores none = record { count = ap length none; each = λ block below. absurd (omega arith) }

pub before_more : (code : UnitFlow) (states : List State) (n : ℕ) (befores more : List State) (state before : State)
    → AreBeforeUpTo code states n befores → n < length states → state ≡ get_or states n state
    → before ≡ before_last state code n → more ≡ befores ++ before ∷ [] → AreBeforeUpTo code states (n + 1) more
before_more code states n befores more state before so_far below there is pushed =
    let one = λ (k : ℕ). state_at (befores ++ before ∷ []) k ≡ before_last (state_at states k) code k in
    subst (AreBeforeUpTo code states (n + 1)) (sym pushed) (record {
      count = length-append befores (before ∷ []) ∙ ap (λ (k : ℕ). k + 1) so_far.count;
      each = one_more one n
          (λ k h. get_or-append befores (before ∷ []) None k (subst (λ (m : ℕ). k < m) (sym so_far.count) h)
          ∙ so_far.each k h)
          (subst (λ (k : ℕ). state_at (befores ++ before ∷ []) k ≡ before) so_far.count
          (get_or-append_seam befores before [] None)
          ∙ (is ∙ ap (λ (s : State). before_last s code n) (item_is states n state below there)));
    })

pub before_all : (code : UnitFlow) (states : List State) (n : ℕ) (befores : List State) → length states ≤ n
    → n ≤ length states → AreBeforeUpTo code states n befores → AreBeforeLast code states befores
before_all code states n befores least most so_far =
    let all : n ≡ length states = omega (arith, least, most) in
    record {
      count = so_far.count ∙ all;
      each = λ block below. so_far.each block (omega (arith, below, all));
    }

pub ruleset before_blocks = (before_none, before_more, before_all)

-- ---- the first block

module _ (code : UnitFlow) (lawful : IsLawful code) (states : List State) (shape : HasShape code states) where
  pub first_there : 0 < length states
  first_there = subst (λ (n : ℕ). 0 < n) (sym shape.count) (laws.has_block code lawful)

  pub first_alike : (s first : State) → s ≡ entry code.unit → first ≡ get_or states 0 first → AreLikeStates s first
  first_alike s first is there =
      fitting_like code.unit (kinds_at code 0) s first (subst (Fits code 0) (sym is) (laws.entry_fits code lawful))
      (subst (Fits code 0) (sym (item_is states 0 first first_there there)) (shape.fit 0 first_there))

-- what is left to show where the shape is right
pub begun_where : {E : Type 0} (r : Result Bool E) (code : UnitFlow) (states : List State) → HasShape code states
    → IfOk r (λ yes. IsTrue yes ↔ IsBegun code states) → IfOk r (λ yes. IsTrue yes ↔ AreBegun code states)
begun_where r code states shape answer =
    IfOk-weaker r _ (λ yes. IsTrue yes ↔ AreBegun code states)
    (λ yes is. (λ e. record { shape = shape; begun = is.0 e }, λ begun. is.1 begun.begun)) answer

-- and where the first state is included too
pub inductive_where : {E : Type 0} (r : Result Bool E) (code : UnitFlow) (states : List State) → AreBegun code states
    → IfOk r (λ yes. IsTrue yes ↔ AllCarried code states) → IfOk r (λ yes. IsTrue yes ↔ IsInductive code states)
inductive_where r code states are answer =
    IfOk-weaker r _ (λ yes. IsTrue yes ↔ IsInductive code states)
    (λ yes is. (
      λ e. record { shape = are.shape; begun = are.begun; edges = is.0 e },
      λ inductive. is.1 inductive.edges,
    )) answer

-- ---- what an invariant is for

abbrev unit_states : UnitFlow → States
unit_states code = record {
  State = State;
  holds = HoldsAt;
  fits = Fits code;
  entry = entry code.unit;
  along = λ a edge. along_edge a code edge;
  leq = is_included;
}

flows : (code : UnitFlow) → IsLawful code → Flow (edges_in code) (unit_states code) (length code.graph.blocks)
flows code lawful = record {
  first = laws.has_block code lawful;
  source_below = λ edge below. laws.source_below code edge lawful below;
  target_below = λ edge below. laws.target_below code edge lawful below;
  entry_fits = laws.entry_fits code lawful;
  entry_holds = λ p begins. laws.entry_holds code p lawful begins;
  along_fits = λ edge a below fits. laws.along_fits code edge a lawful below fits;
  along_holds = λ edge a p q below fits holds goes. laws.along_holds code edge a p q lawful below fits holds goes;
  leq_holds = λ block a b p first second less holds. leq_holds a b p (fitting_like code.unit (kinds_at code block) a b first second) less holds;
}

module _ (code : UnitFlow) (lawful : IsLawful code) (states : List State) (inductive : IsInductive code states) where
  fits_at : (block : ℕ) → block < length code.graph.blocks → Fits code block (state_at states block)
  fits_at block below = inductive.shape.fit block (subst (λ (n : ℕ). block < n) (sym inductive.shape.count) below)

  pub holds_there : HoldsWhereItComes code states
  holds_there =
      holds_along (edges_in code) (unit_states code) (length code.graph.blocks) (flows code lawful) (state_at states) fits_at inductive.begun inductive.edges

  pub holds_in_runs : HoldsInRuns code states
  holds_in_runs block p comes = let (n, along) = runs_go_along code lawful block p comes in holds_there n block p along
