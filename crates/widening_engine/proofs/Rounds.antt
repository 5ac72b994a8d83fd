-- Rounds, one after another.
use Rattle.std.proofs.Common.{◌≡◌, ◌⊎◌, ℕ, ◌+◌, ◌<◌, Bool, true, false, List, [], ◌∷◌, cond, map, Option, Some, None, unwrap_or, refl, sym, ap, subst, ◌∙◌, arith, inl, inr}
use Rattle.std.specs.List.{find}
use Rattle.std.proofs.lemmas.Bool.{cases_Bool}
use Rattle.std.proofs.lemmas.List.FromFn.{get_or-map-range_with_len, length-map-range_with_len}
use Rattle.widening_engine.specs.Flows.{FitBlocks}
use Rattle.widening_engine.specs.Rounds.{Flow, all_unknown, for_each_block, first_inductive, is_inductive, last_round, limit, next, places, round, settled}
use Rattle.widening_engine.proofs.EdgeSteps.{Keeps}

-- ---- a state for each block

pub each_fits : {S : Type 0} (flow : Flow S) (fits : ℕ → S → Type 0) (state : ℕ → S) (states : List S) → states ≡ for_each_block flow state
    → ((block : ℕ) → block < flow.blocks → fits block (state block)) → FitBlocks flow fits states
each_fits flow fits state states are fit = subst (FitBlocks flow fits) (sym are) (record {
  count = length-map-range_with_len state 0 flow.blocks;
  fit = λ block h.
      let there : 0 + block ≡ block = omega arith in
      subst (fits block) (sym (get_or-map-range_with_len state 0 flow.blocks block block flow.nothing h there)) (fit block h);
})

pub unknown_fits : {S : Type 0} (flow : Flow S) (fits : ℕ → S → Type 0) (states : List S) → Keeps flow fits → states ≡ all_unknown flow → FitBlocks flow fits states
unknown_fits flow fits states law are = each_fits flow fits flow.unknown states are law.unknown

-- ---- two rounds later

pub settled_later : {S : Type 0} (flow : Flow S) (states later : List S) → later ≡ next flow (next flow states) → is_inductive flow later ≡ true
    → later ≡ settled flow states
unfolding settled
settled_later flow states later is passes =
    is ∙ sym (ap (λ (t : Bool). cond t (next flow (next flow states)) states) (ap (is_inductive flow) (sym is) ∙ passes))

pub settled_here : {S : Type 0} (flow : Flow S) (states later : List S) → later ≡ next flow (next flow states) → is_inductive flow later ≡ false
    → states ≡ settled flow states
unfolding settled
settled_here flow states later is not =
    sym (ap (λ (t : Bool). cond t (next flow (next flow states)) states) (ap (is_inductive flow) (sym is) ∙ not))

pub limit_from : {S : Type 0} (flow : Flow S) (states : List S) → states ≡ first_inductive flow → settled flow states ≡ limit flow
unfolding limit
limit_from flow states is = ap (settled flow) is

-- ---- where the analysis settles

abbrev PassesIfAny : {X : Type 0} → (X → Bool) → Option X → Type 0
PassesIfAny test None = Unit {0}
PassesIfAny test (Some x) = test x ≡ true

found_passes : {X : Type 0} (test : X → Bool) (xs : List X) → PassesIfAny test (find test xs)
found_passes test [] = tt
found_passes test (x ∷ xs) =
    elim (cases_Bool (test x)) [
      | inl passes ↦ subst (λ (t : Bool). PassesIfAny test (cond t (Some x) (find test xs))) (sym passes) passes
      | inr not ↦ subst (λ (t : Bool). PassesIfAny test (cond t (Some x) (find test xs))) (sym not) (found_passes test xs)
    ]

abbrev IsSettled : {S : Type 0} → Flow S → List S → Type 0
IsSettled flow states = (is_inductive flow states ≡ true) ⊎ (states ≡ all_unknown flow)

found-settled : {S : Type 0} (flow : Flow S) (found : Option (List S)) → PassesIfAny (is_inductive flow) found → IsSettled flow (unwrap_or found (all_unknown flow))
found-settled flow None passes = inr refl
found-settled flow (Some states) passes = inl passes

-- The answer is inductive, or nothing is known.
pub limit_is_settled : {S : Type 0} (flow : Flow S) → IsSettled flow (limit flow)
unfolding limit settled first_inductive
limit_is_settled flow =
    let states : List _ = first_inductive flow in
    let later : List _ = next flow (next flow states) in
    elim (cases_Bool (is_inductive flow later)) [
      | inl passes ↦ subst (λ (t : Bool). IsSettled flow (cond t later states)) (sym passes) (inl passes)
      | inr not ↦ subst (λ (t : Bool). IsSettled flow (cond t later states)) (sym not)
          (found-settled flow (find (is_inductive flow) (map (round flow) (places (last_round flow + 1)))) (found_passes (is_inductive flow) (map (round flow) (places (last_round flow + 1)))))
    ]
