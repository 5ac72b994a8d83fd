-- A unit whose verdicts are all proved is safe.
use Rattle.std.proofs.Common.{◌≡◌, true, List, [], ◌∷◌, map, refl, arith, inl, inr}
use Rattle.std.specs.List.{Contains}
use Rattle.std.proofs.lemmas.Bool.{cases_Bool, false≢true}
use Rattle.cil_model.specs.declared.machine.Obligation.{Obligation}
use Rattle.obligation_prover.specs.Obligations.{obligations_of}
use Rattle.obligation_prover.proofs.EachListed.{lists_each_fault}
use Rattle.state_facts.specs.StateFacts.{State}
use Rattle.unit_flow.specs.Flow.{IsLawful}
use Rattle.unit_flow.specs.declared.unit_flow.UnitFlow.{UnitFlow}
use Rattle.invariant_checker.specs.Counts.{all_proved}
use Rattle.invariant_checker.specs.Inducts.{is_inductive}
use Rattle.invariant_checker.specs.Safety.{IsSafe}
use Rattle.invariant_checker.specs.Verdicts.{unproved, verdicts, verdicts_by_blocks}
use Rattle.invariant_checker.proofs.InductionTest.{inductive_by}
use Rattle.invariant_checker.proofs.SafeRuns.{NoneFaults, runs_are_safe}
use Rattle.invariant_checker.proofs.Standing.{none_faults}

-- ---- a unit without obligations

none_listed : (listed : List Obligation) (o : Obligation) → listed ≡ [] → Contains listed o → ⊥
none_listed [] o none has = let below = has.1 in omega (arith, below)
none_listed (p ∷ listed) o none has = cc

no_obligation : (code : UnitFlow) (lawful : IsLawful code) → obligations_of code.unit ≡ [] → NoneFaults code lawful
no_obligation code lawful none = λ kind index at to.
    let listed = lists_each_fault code.unit to.before.frame to.before.heap kind index at to.in_body.inside to.step in
    none_listed (obligations_of code.unit) _ none listed.1

none_unproved : (listed : List Obligation) → all_proved (map unproved listed) ≡ true → listed ≡ []
none_unproved [] proved = refl
none_unproved (o ∷ listed) proved = absurd (false≢true proved)

-- ---- any unit

module _ (code : UnitFlow) (states : List State) (lawful : IsLawful code)
    (proved : all_proved (verdicts code states) ≡ true) where
  none : NoneFaults code lawful
  unfolding verdicts
  none =
      elim (cases_Bool (is_inductive code states)) [
        | inl is ↦
            let all : all_proved (verdicts_by_blocks code states) ≡ true = rw is at proved in
            none_faults code lawful states (inductive_by code states is) all
        | inr not ↦
            let all : all_proved (map unproved (obligations_of code.unit)) ≡ true = rw not at proved in
            no_obligation code lawful (none_unproved (obligations_of code.unit) all)
      ]

  pub proved_is_safe : IsSafe code.unit
  proved_is_safe = runs_are_safe code lawful none
