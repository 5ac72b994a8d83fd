-- Steps of the code that finds the states at returns.
use Rattle.std.proofs.Common.{◌≡◌, ℕ, zero, suc, ◌+◌, ◌-◌, ◌<◌, ◌≤◌, Bool, true, false, ◌||◌, List, [], ◌∷◌, ◌++◌, length, get_or, take, drop, if◌then◌else◌, refl, sym, ap, subst, ◌∙◌, add-one, append_assoc, append-nil, drop-cons, arith}
use Rattle.std.specs.List.{flat_map, list_any, range_with_len}
use Rattle.std.proofs.lemmas.Bool.{true≢false}
use Rattle.std.proofs.lemmas.Grind.{flat_map-append}
use Rattle.std.proofs.lemmas.List.{drop_all, get_or-take, length-take}
use Rattle.cil_model.specs.declared.instruction.Instr.{Instr}
use Rattle.cil_model.specs.declared.unit.Unit.{Unit as MethodUnit}
use Rattle.invariant_checker.specs.Verdicts.{CanJudge}
use Rattle.obligation_prover.specs.ClausesTested.{CanTest, tested_by}
use Rattle.state_facts.specs.StateFacts.{State}
use Rattle.transfer_rules.specs.Inductive.{state_at}
use Rattle.transfer_rules.specs.Owed.{CanDo}
use Rattle.transfer_rules.specs.Post.{post}
use Rattle.unit_flow.specs.declared.unit_flow.UnitFlow.{UnitFlow}
use Rattle.ensures_infer.specs.Returns.{is_return, returned, returns_from, returns_in, returns_of_block}

-- ---- the instructions of a block

-- Where none returns, there is no state.
pub none_returns : (unit : MethodUnit) (is : List Instr) (state : State)
    → list_any (λ i. is_return i.op) is ≡ false → returns_from unit is state ≡ []
none_returns unit [] state none = refl
none_returns unit (i ∷ is) state none =
    by (is_return i.op) (list_any (λ j. is_return j.op) is) refl refl none
    (λ later. none_returns unit is (post unit i.op state) later)
  where
    by : (here later : Bool) → is_return i.op ≡ here → list_any (λ j. is_return j.op) is ≡ later → (here || later) ≡ false
        → (list_any (λ j. is_return j.op) is ≡ false → returns_from unit is (post unit i.op state) ≡ [])
        → returned unit i.op state ++ returns_from unit is (post unit i.op state) ≡ []
    by true later here_is later_is none others = absurd (true≢false none)
    by false later here_is later_is none others = rw here_is (others (later_is ∙ none))

-- All instructions but the last.
abbrev prefix : List Instr → List Instr
prefix is = take (length is - 1) is

from_it : (is : List Instr) (k : ℕ) (i : Instr) → k < length is → get_or is k i ≡ i → drop k is ≡ i ∷ drop (k + 1) is
from_it is k i below here =
    drop-cons is k i below
    ∙ (ap (λ (j : Instr). j ∷ drop (suc k) is) here ∙ ap (λ (n : ℕ). i ∷ drop n is) (sym (add-one k)))

-- What was found at the first instructions, and what is to be found at the others, is the whole; and at these the rules
-- may be asked.
pub record IsUnderWay (unit : MethodUnit) (is : List Instr) (before : List State) (first : State)
    (found : List State) (state : State) (k : ℕ) : Type 0 where
  pub same : found ++ returns_from unit (drop k is) state ≡ before ++ returns_from unit is first
  pub can : CanJudge unit (drop k is) state

module _ (unit : MethodUnit) (is : List Instr) (before : List State) (first : State) (found : List State)
    (state : State) (k : ℕ) (i : Instr) (way : IsUnderWay unit is before first found state k)
    (below : k < length (prefix is)) (there : i ≡ get_or (prefix is) k i) where
  rest_is : drop k is ≡ i ∷ drop (k + 1) is
  rest_is =
      let last = length is - 1 in
      from_it is k i (omega (arith, below, length-take last is))
      (sym (there ∙ get_or-take last is k i (omega (arith, below, length-take last is))))

  can_from : CanJudge unit (i ∷ drop (k + 1) is) state
  can_from = subst (λ (js : List Instr). CanJudge unit js state) rest_is way.can

  pub can_here : CanTest unit (tested_by unit i.op) state
  can_here = can_from.0

  pub can_do_here : CanDo unit i.op state
  can_do_here = can_from.1

  pub goes_on : (more : List State) (new : State) → more ≡ found ++ returned unit i.op state
      → new ≡ post unit i.op state → IsUnderWay unit is before first more new (k + 1)
  goes_on more new told made = record {
    same =
        rw (told, made)
        (append_assoc found (returned unit i.op state) (returns_from unit (drop (k + 1) is) (post unit i.op state))
        ∙ (ap (λ (js : List Instr). found ++ returns_from unit js state) (sym rest_is) ∙ way.same));
    can = subst (CanJudge unit (drop (k + 1) is)) (sym made) can_from.2;
  }

-- The last one.
module _ (unit : MethodUnit) (is : List Instr) (before : List State) (first : State) (found : List State)
    (state : State) (k : ℕ) (last : Instr) (way : IsUnderWay unit is before first found state k) (some : 1 ≤ length is)
    (there : last ≡ get_or is (length is - 1) last) (low : length (prefix is) ≤ k) (high : k ≤ length (prefix is)) where
  at_last : drop k is ≡ last ∷ drop (k + 1) is
  at_last =
      let at : k ≡ length is - 1 = omega (arith, some, low, high, length-take (length is - 1) is) in
      from_it is k last (omega (arith, some, at)) (ap (λ (n : ℕ). get_or is n last) at ∙ sym there)

  pub can_last : CanTest unit (tested_by unit last.op) state
  can_last = (subst (λ (js : List Instr). CanJudge unit js state) at_last way.can).0

  pub ended : (more : List State) → more ≡ found ++ returned unit last.op state
      → more ≡ before ++ returns_from unit is first
  ended more told =
      let none : drop (k + 1) is ≡ [] = drop_all (k + 1) is
      (omega (arith, some, low, length-take (length is - 1) is)) in
      let here = returned unit last.op state in
      told ∙ (sym (append-nil (found ++ here)) ∙ (append_assoc found here []
      ∙ (ap (λ (states : List State). found ++ states)
      (ap (λ (js : List Instr). here ++ returns_from unit js (post unit last.op state)) (sym none)
      ∙ ap (λ (js : List Instr). returns_from unit js state) (sym at_last))
      ∙ way.same)))

-- ---- all blocks

range_more : (a n : ℕ) → range_with_len a (suc n) ≡ range_with_len a n ++ (a + n) ∷ []
range_more a zero = let same : a ≡ a + 0 = omega arith in ap (λ (k : ℕ). k ∷ []) same
range_more a (suc n) =
    let same : a + 1 + n ≡ a + suc n = omega arith in
    ap (λ (ks : List ℕ). a ∷ ks)
    (range_more (a + 1) n ∙ ap (λ (k : ℕ). range_with_len (a + 1) n ++ k ∷ []) same)

pub block_passed : (code : UnitFlow) (states : List State) (k : ℕ) (state : State) (found more : List State)
    → state ≡ state_at states k → found ≡ flat_map (returns_in code states) (range_with_len 0 k)
    → more ≡ found ++ returns_of_block code state k
    → more ≡ flat_map (returns_in code states) (range_with_len 0 (k + 1))
block_passed code states k state found more is before here =
    let range : range_with_len 0 (k + 1) ≡ range_with_len 0 k ++ k ∷ [] =
    ap (range_with_len 0) (add-one k)
    ∙ (range_more 0 k ∙ ap (λ (n : ℕ). range_with_len 0 k ++ n ∷ []) (omega arith)) in
    let f = returns_in code states in
    here ∙ (ap (λ (vs : List State). vs ++ returns_of_block code state k) before
    ∙ (ap (λ (s : State). flat_map f (range_with_len 0 k) ++ returns_of_block code s k) is
    ∙ (ap (λ (vs : List State). flat_map f (range_with_len 0 k) ++ vs) (sym (append-nil (f k)))
    ∙ (sym (flat_map-append f (range_with_len 0 k) (k ∷ [])) ∙ ap (flat_map f) (sym range)))))
