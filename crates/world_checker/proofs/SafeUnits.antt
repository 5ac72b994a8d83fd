-- A world whose verdicts are all proved is safe.
use Rattle.std.proofs.Common.{◌≡◌, ℕ, zero, suc, ◌+◌, ◌<◌, ◌≤◌, true, List, [], ◌∷◌, ◌++◌, length, get_or, drop, map, refl, sym, ap, subst, ◌∙◌, append_assoc, append-nil, arith}
use Rattle.std.specs.List.{AllByRecursion}
use Rattle.std.proofs.lemmas.Bool.{and_parts}
use Rattle.std.proofs.lemmas.List.{drop_all, drop_more}
use Rattle.cil_model.specs.Runs.{LocalSafe}
use Rattle.cil_model.specs.WellFormed.{IsWellFormed}
use Rattle.cil_model.specs.declared.machine.Obligation.{Obligation}
use Rattle.invariant_checker.specs.Counts as unit
use Rattle.invariant_checker.specs.Verdicts.{verdicts}
use Rattle.invariant_checker.specs.declared.verdict.Verdict.{Verdict}
use Rattle.invariant_checker.proofs.Covering.{each_told}
use Rattle.invariant_checker.proofs.Soundness.{proved_is_safe}
use Rattle.obligation_prover.specs.Obligations.{obligations_of}
use Rattle.safe_worlds.proofs.SafeWorlds.{world_is_safe}
use Rattle.abs_state.specs.declared.invariant.Invariant.{Invariant}
use Rattle.unit_flow.specs.Flow.{IsLawful}
use Rattle.unit_flow.specs.declared.unit_flow.UnitFlow.{UnitFlow}
use Rattle.world_checker.specs.WorldVerdicts.{MakesSafe, all_proved, verdicts_of_world}

-- ---- the loop over the units

-- What was found of the first units, and the verdicts on the others, are all.
abbrev pub IsUnderWay : List UnitFlow → List Invariant → List (List Verdict) → ℕ → Type 0
IsUnderWay codes invariants found i =
    found ++ verdicts_of_world (drop i codes) (drop i invariants) ≡ verdicts_of_world codes invariants

pub begins : (codes : List UnitFlow) (invariants : List Invariant) → IsUnderWay codes invariants [] 0
begins codes invariants = refl

pub lawful_at : (codes : List UnitFlow) (i : ℕ) (code : UnitFlow) → AllByRecursion IsLawful codes → i < length codes
    → code ≡ get_or codes i code → IsLawful code
lawful_at [] i code all below is = absurd (omega (arith, below))
lawful_at (c ∷ codes) zero code all below is = subst IsLawful (sym is) all.0
lawful_at (c ∷ codes) (suc i) code all below is = lawful_at codes i code all.1 (omega (arith, below)) is

pub next : (codes : List UnitFlow) (invariants : List Invariant) (found : List (List Verdict)) (i : ℕ) (code : UnitFlow)
    (invariant : Invariant) → IsUnderWay codes invariants found i → i < length codes → i < length invariants
    → code ≡ get_or codes i code → invariant ≡ get_or invariants i invariant
    → (one : List Verdict) (more : List (List Verdict)) → one ≡ verdicts code invariant.states.items
    → more ≡ found ++ one ∷ [] → IsUnderWay codes invariants more (i + 1)
next codes invariants found i code invariant way below within is has one more judged pushed =
    let rest = verdicts_of_world (drop (i + 1) codes) (drop (i + 1) invariants) in
    let first : drop i codes ≡ code ∷ drop (i + 1) codes =
    drop_more codes i code below ∙ ap (λ c. c ∷ drop (i + 1) codes) (sym is) in
    let second : drop i invariants ≡ invariant ∷ drop (i + 1) invariants =
    drop_more invariants i invariant within ∙ ap (λ v. v ∷ drop (i + 1) invariants) (sym has) in
    let parts : verdicts_of_world (drop i codes) (drop i invariants) ≡ one ∷ rest =
    ap (λ cs. verdicts_of_world cs (drop i invariants)) first
    ∙ (ap (λ vs. verdicts_of_world (code ∷ drop (i + 1) codes) vs) second ∙ ap (λ v. v ∷ rest) (sym judged)) in
    ap (λ l. l ++ rest) pushed
    ∙ (append_assoc found (one ∷ []) rest ∙ (ap (λ l. found ++ l) (sym parts) ∙ way))

pub ended : (codes : List UnitFlow) (invariants : List Invariant) (found : List (List Verdict)) (i : ℕ)
    → IsUnderWay codes invariants found i → length codes ≤ i → found ≡ verdicts_of_world codes invariants
ended codes invariants found i way most =
    sym (append-nil found)
    ∙ (ap (λ cs. found ++ verdicts_of_world cs (drop i invariants)) (sym (drop_all i codes most)) ∙ way)

-- ---- obligations

pub world_told : (codes : List UnitFlow) (invariants : List Invariant) → AllByRecursion IsLawful codes
    → length invariants ≡ length codes
    → map (map (λ (v : Verdict). v.obligation)) (verdicts_of_world codes invariants)
    ≡ map (λ (code : UnitFlow). obligations_of code.unit) codes
world_told [] invariants lawful count = refl
world_told (code ∷ codes) [] lawful count = absurd (omega (arith, count))
world_told (code ∷ codes) (invariant ∷ invariants) lawful count =
    ap (λ (os : List Obligation). os ∷ map (map (λ (v : Verdict). v.obligation)) (verdicts_of_world codes invariants))
    (each_told code invariant.states.items lawful.0)
    ∙ ap (λ (l : List (List Obligation)). obligations_of code.unit ∷ l)
    (world_told codes invariants lawful.1 (omega (arith, count)))

-- ---- safety

-- Each unit is safe by itself.
each_safe : (codes : List UnitFlow) (invariants : List Invariant) → AllByRecursion IsLawful codes
    → length invariants ≡ length codes → all_proved (verdicts_of_world codes invariants) ≡ true
    → AllByRecursion LocalSafe (map (λ code. code.unit) codes)
each_safe [] invariants lawful count proved = tt
each_safe (code ∷ codes) [] lawful count proved = absurd (omega (arith, count))
each_safe (code ∷ codes) (invariant ∷ invariants) lawful count proved =
    let parts = and_parts (unit.all_proved (verdicts code invariant.states.items))
    (all_proved (verdicts_of_world codes invariants)) proved in (
      (proved_is_safe code invariant.states.items lawful.0 parts.0).local,
      each_safe codes invariants lawful.1 (omega (arith, count)) parts.1,
    )

each_formed : (codes : List UnitFlow) → AllByRecursion IsLawful codes
    → AllByRecursion IsWellFormed (map (λ code. code.unit) codes)
each_formed [] lawful = tt
each_formed (code ∷ codes) lawful = (lawful.0.formed, each_formed codes lawful.1)

pub proved_makes_safe : (codes : List UnitFlow) (invariants : List Invariant) → AllByRecursion IsLawful codes
    → length invariants ≡ length codes → all_proved (verdicts_of_world codes invariants) ≡ true → MakesSafe codes
proved_makes_safe codes invariants lawful count proved = λ w are agree.
    world_is_safe w agree (subst (AllByRecursion IsWellFormed) (sym are) (each_formed codes lawful))
    (subst (AllByRecursion LocalSafe) (sym are) (each_safe codes invariants lawful count proved))
