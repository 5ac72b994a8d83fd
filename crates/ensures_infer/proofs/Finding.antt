-- Steps of the code that finds what follows at returns.
use Rattle.std.proofs.Common.{◌≡◌, ℕ, ◌+◌, ◌-◌, ◌<◌, ◌≤◌, Bool, true, false, List, [], ◌∷◌, ◌++◌, length, get_or, take, refl, sym, ap, ◌∙◌, arith, inl, inr}
use Rattle.std.specs.Prelude.{filter_map, option_to_list}
use Rattle.std.specs.List.{AllByRecursion}
use Rattle.std.proofs.lemmas.Bool.{cases_Bool}
use Rattle.std.proofs.lemmas.List.{length-take}
use Rattle.cil_model.specs.Limits.{MAX_CLAUSES}
use Rattle.cil_model.specs.declared.unit.Unit.{Unit as MethodUnit}
use Rattle.cil_model.proofs.Lists.{all_take}
use Rattle.invariant_checker.specs.Inducts.{is_inductive}
use Rattle.invariant_checker.proofs.InductionTest.{inductive_by, inductive_true}
use Rattle.state_facts.specs.StateFacts.{State}
use Rattle.transfer_rules.specs.Inductive.{IsInductive}
use Rattle.unit_flow.specs.Flow.{IsLawful}
use Rattle.unit_flow.specs.declared.unit_flow.UnitFlow.{UnitFlow}
use Rattle.ensures_infer.specs.Candidates.{candidates_of, inferred, shown_at}
use Rattle.ensures_infer.specs.Following.{follows_at_each, ranges_at, shown_of}
use Rattle.ensures_infer.specs.Returns.{returns_of}
use Rattle.ensures_infer.specs.Rows.{rows}
use Rattle.ensures_infer.specs.Strengthening.{CanBeAdded}
use Rattle.ensures_infer.specs.declared.inferred.Inferred.{Inferred}
use Rattle.ensures_infer.proofs.Filtering.{all_filtered, one_more_filtered, taken_twice}
use Rattle.ensures_infer.proofs.Saying.{CanSay, may_be_added, one_said, rows_said}

-- ---- rows

-- One more row.
pub one_more_shown : (n : ℕ) (returns : List State) (all : List Inferred) (k : ℕ) (d : Inferred) → k < length all
    → (found more : List Inferred) → found ≡ take n (filter_map (shown_of returns) (take k all))
    → more ≡ take n (found ++ option_to_list (shown_of returns (get_or all k d)))
    → more ≡ take n (filter_map (shown_of returns) (take (k + 1) all))
one_more_shown n returns all k d below found more before here =
    let f = shown_of returns in
    let given = option_to_list (f (get_or all k d)) in
    here ∙ (ap (λ (rs : List Inferred). take n (rs ++ given)) before
    ∙ (taken_twice n (filter_map f (take k all)) given ∙ ap (take n) (sym (one_more_filtered f all k d below))))

-- ---- what may be added

abbrev said_by : MethodUnit → List Inferred → Type 0
said_by unit said = AllByRecursion (CanSay unit.args unit.result) said

all_shown : (unit : MethodUnit) (returns : List State) → said_by unit (shown_at unit returns)
all_shown unit [] = tt
all_shown unit (state ∷ others) =
    let returns = state ∷ others in
    let all = rows unit.result unit.args (ranges_at returns) in
    all_take (CanSay unit.args unit.result) (MAX_CLAUSES - length unit.clauses) (filter_map (shown_of returns) all)
    (all_filtered (CanSay unit.args unit.result) (CanSay unit.args unit.result) (shown_of returns)
    (λ fact other can is. one_said unit.args unit.result (follows_at_each returns) fact other can is) all
    (rows_said unit.result unit.args (ranges_at returns)))

few_shown : (unit : MethodUnit) (returns : List State) → length unit.clauses ≤ MAX_CLAUSES
    → length unit.clauses + length (shown_at unit returns) ≤ MAX_CLAUSES
few_shown unit [] few = omega (arith, few)
few_shown unit (state ∷ others) few =
    let returns = state ∷ others in
    omega (
      arith,
      few,
      length-take (MAX_CLAUSES - length unit.clauses)
          (filter_map (shown_of returns) (rows unit.result unit.args (ranges_at returns))),
    )

module _ (code : UnitFlow) (states : List State) where
  pub shown_where_inductive : IsInductive code states
      → inferred code states ≡ shown_at code.unit (returns_of code states)
  unfolding inferred
  shown_where_inductive inductive = rw (inductive_true code states inductive) refl

  pub none_where_not : (IsInductive code states → ⊥) → inferred code states ≡ []
  unfolding inferred
  none_where_not never =
      elim (cases_Bool (is_inductive code states)) [
        | inl is ↦ absurd (never (inductive_by code states is))
        | inr not ↦ rw not refl
      ]

  pub candidates_can : IsLawful code
      → CanBeAdded code.unit.args code.unit.result code.unit.clauses (candidates_of code states)
  unfolding inferred
  candidates_can lawful =
      may_be_added code.unit.args code.unit.result code.unit.clauses (inferred code states)
      lawful.formed.limits.clauses (by (is_inductive code states) refl).0 (by (is_inductive code states) refl).1
    where
      by : (o : Bool) → is_inductive code states ≡ o
          → said_by code.unit (inferred code states)
          × (length code.unit.clauses + length (inferred code states) ≤ MAX_CLAUSES)
      by true is =
          rw is
          ((
            all_shown code.unit (returns_of code states),
            few_shown code.unit (returns_of code states) lawful.formed.limits.clauses.count,
          ))
      by false is = rw is ((tt, omega (arith, lawful.formed.limits.clauses.count)))
