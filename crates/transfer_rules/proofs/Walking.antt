-- A walk through a block, instruction by instruction.
use Rattle.std.proofs.Common.{◌≡◌, ℕ, zero, suc, ◌+◌, ◌-◌, ◌<◌, ◌≤◌, List, [], ◌∷◌, length, get_or, take, drop, refl, sym, ap, subst, ◌∙◌, add-one, drop-cons, length-drop, arith}
use Rattle.std.specs.Prelude.{filter, nat_le, slice_get}
use Rattle.std.specs.List.{AllByRecursion}
use Rattle.std.proofs.lemmas.List.{get_or-take, length-take}
use Rattle.cil_model.specs.declared.instruction.Instr.{Instr}
use Rattle.cil_model.specs.declared.unit.Unit.{Unit as MethodUnit}
use Rattle.flow_graph.proofs.Lying.{all_passing}
use Rattle.state_facts.specs.StateFacts.{State}
use Rattle.transfer_rules.specs.Flow.{AreReady, CanLeave, from_last, up_to_last}
use Rattle.transfer_rules.specs.Owed.{CanDo}
use Rattle.transfer_rules.specs.Post.{along, post}
use Rattle.unit_flow.specs.Flow.{IsLawful, block_instrs, is_before, start_of}
use Rattle.unit_flow.specs.Ways.{IsShortSwitch}
use Rattle.unit_flow.specs.declared.unit_flow.UnitFlow.{UnitFlow}
use Rattle.unit_flow.proofs.LawfulCode.{short_switches}

-- ---- the walk of a loop over all instructions but the last

abbrev prefix : List Instr → List Instr
prefix is = take (length is - 1) is

module _ (unit : MethodUnit) (is : List Instr) (k : ℕ) (i : Instr) where
  in_prefix : k < length (prefix is) → i ≡ get_or (prefix is) k i → (k + 1 < length is) × (i ≡ get_or is k i)
  in_prefix below there = (
    omega (arith, below, length-take (length is - 1) is),
    there ∙ get_or-take (length is - 1) is k i (omega (arith, below, length-take (length is - 1) is)),
  )

  -- It, and then at least one more.
  from_it : k < length (prefix is) → i ≡ get_or (prefix is) k i → drop k is ≡ i ∷ drop (k + 1) is
  from_it below there =
      let is_it = in_prefix below there in
      drop-cons is k i (omega (arith, is_it.0))
      ∙ two (get_or is k i) (drop (suc k) is) (sym is_it.1) (rw (add-one k) refl)
    where
      two : (j : Instr) (js : List Instr) → j ≡ i → js ≡ drop (k + 1) is → j ∷ js ≡ i ∷ drop (k + 1) is
      two j js p q = cc

  one_up : (js : List Instr) (state : State) → 1 ≤ length js
      → up_to_last unit js (post unit i.op state) ≡ up_to_last unit (i ∷ js) state
  one_up [] state some = absurd (omega (arith, some))
  one_up (j ∷ js) state some = refl

  -- The rest of the way comes to the same.
  pub walk_goes_on : (state : State) → k < length (prefix is) → i ≡ get_or (prefix is) k i
      → up_to_last unit (drop (k + 1) is) (post unit i.op state) ≡ up_to_last unit (drop k is) state
  walk_goes_on state below there =
      let more = in_prefix below there in
      one_up (drop (k + 1) is) state (omega (arith, more.0, length-drop (k + 1) is))
      ∙ ap (λ (js : List Instr). up_to_last unit js state) (sym (from_it below there))

  ready_there : (state : State) → k < length (prefix is) → i ≡ get_or (prefix is) k i → AreReady unit (drop k is) state
      → AreReady unit (i ∷ drop (k + 1) is) state
  ready_there state below there ready = subst (λ (l : List Instr). AreReady unit l state) (from_it below there) ready

-- The states that are still to be gone through come to the same, and each rule may be asked of its state.
pub record IsOnWay (unit : MethodUnit) (is : List Instr) (first state : State) (k : ℕ) : Type 0 where
  pub same : up_to_last unit (drop k is) state ≡ up_to_last unit is first
  pub ready : AreReady unit (drop k is) state

pub walk_begins : (unit : MethodUnit) (is : List Instr) (first : State) → AreReady unit is first
    → IsOnWay unit is first first 0
walk_begins unit is first ready = record { same = refl; ready = ready }

at_last : (unit : MethodUnit) (is : List Instr) (state : State) → length is ≤ 1 → up_to_last unit is state ≡ state
at_last unit [] state short = refl
at_last unit (i ∷ []) state short = refl
at_last unit (i ∷ j ∷ is) state short = absurd (omega (arith, short))

-- At the last instruction nothing is left of the walk.
pub walk_ends : (unit : MethodUnit) (is : List Instr) (k : ℕ) (state : State) → length (prefix is) ≤ k
    → up_to_last unit (drop k is) state ≡ state
walk_ends unit is k state least =
    at_last unit (drop k is) state
    (omega (arith, least, length-take (length is - 1) is, length-drop k is))

module _ (unit : MethodUnit) (is : List Instr) (first state : State) (k : ℕ) (way : IsOnWay unit is first state k) where
  module _ (i : Instr) (below : k < length (prefix is)) (there : i ≡ get_or (prefix is) k i) where
    pub next_ready : CanDo unit i.op state
    next_ready = (ready_there unit is k i state below there way.ready).0

    pub on_way : IsOnWay unit is first (post unit i.op state) (k + 1)
    on_way = record {
      same = walk_goes_on unit is k i state below there ∙ way.same;
      ready = (ready_there unit is k i state below there way.ready).1;
    }

  pub walk_done : length (prefix is) ≤ k → state ≡ up_to_last unit is first
  walk_done least = sym (walk_ends unit is k state least) ∙ way.same

pub ruleset walking = (walk_begins, next_ready, on_way, walk_done)

-- ---- from the last instruction on

-- Its rule may be asked of the state that comes there.
pub ready_to_leave : (unit : MethodUnit) (is : List Instr) (first : State) → AreReady unit is first
    → CanLeave unit is (up_to_last unit is first)
ready_to_leave unit [] first ready = tt
ready_to_leave unit (i ∷ []) first ready = ready.0
ready_to_leave unit (i ∷ j ∷ is) first ready = ready_to_leave unit (j ∷ is) (post unit i.op first) ready.1

later : (i j : Instr) (js : List Instr) (k : Instr) → k ≡ get_or (i ∷ j ∷ js) (length (i ∷ j ∷ js) - 1) k
    → k ≡ get_or (j ∷ js) (length (j ∷ js) - 1) k
later i j js k there =
    let same : length (i ∷ j ∷ js) - 1 ≡ suc (length (j ∷ js) - 1) = omega arith in
    there ∙ ap (λ (n : ℕ). get_or (i ∷ j ∷ js) n k) same

pub from_last_is : (unit : MethodUnit) (number : ℕ) (is : List Instr) (k : Instr) (state : State) → 1 ≤ length is
    → k ≡ get_or is (length is - 1) k → along unit k.op number state ≡ from_last unit number is state
from_last_is unit number [] k state some there = absurd (omega (arith, some))
from_last_is unit number (i ∷ []) k state some there = ap (λ (j : Instr). along unit j.op number state) there
from_last_is unit number (i ∷ j ∷ js) k state some there =
    from_last_is unit number (j ∷ js) k state (omega arith) (later i j js k there)

pub last_ready : (unit : MethodUnit) (is : List Instr) (k : Instr) (state : State) → 1 ≤ length is
    → k ≡ get_or is (length is - 1) k → CanLeave unit is state → CanDo unit k.op state
last_ready unit [] k state some there ready = absurd (omega (arith, some))
last_ready unit (i ∷ []) k state some there ready = subst (λ (j : Instr). CanDo unit j.op state) (sym there) ready
last_ready unit (i ∷ j ∷ js) k state some there ready =
    last_ready unit (j ∷ js) k state (omega arith) (later i j js k there) ready

all_there : (P : Instr → Type 0) (is : List Instr) (k : ℕ) (d : Instr) → k < length is → AllByRecursion P is
    → P (get_or is k d)
all_there P [] k d below all = absurd (omega (arith, below))
all_there P (i ∷ is) zero d below all = all.0
all_there P (i ∷ is) (suc k) d below all = all_there P is k d (omega (arith, below)) all.1

pub last_short : (is : List Instr) (i : Instr) → 1 ≤ length is → i ≡ get_or is (length is - 1) i
    → AllByRecursion (λ j. IsShortSwitch j.op) is → IsShortSwitch i.op
last_short is i some there all =
    subst (λ (j : Instr). IsShortSwitch j.op) (sym there)
    (all_there (λ j. IsShortSwitch j.op) is (length is - 1) i (omega (arith, some)) all)

pub ruleset leaving_block = (from_last_is, last_ready, last_short)

-- ---- the block of an edge

pub block_short : (code : UnitFlow) → IsLawful code → (block : ℕ)
    → AllByRecursion (λ i. IsShortSwitch i.op) (block_instrs code block)
block_short code lawful block =
    let from : List Instr = filter (λ i. nat_le (start_of code block) i.at) code.unit.instrs in
    all_passing (λ i. IsShortSwitch i.op) (λ i. is_before (slice_get code.graph.blocks (block + 1)) i.at) from
    (all_passing (λ i. IsShortSwitch i.op) (λ i. nat_le (start_of code block) i.at) code.unit.instrs
    (short_switches code lawful))
