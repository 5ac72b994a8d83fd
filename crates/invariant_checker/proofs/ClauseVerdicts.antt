-- The verdicts on the clauses that an instruction tests.
use Rattle.std.proofs.Common.{◌≡◌, ℕ, suc, ◌+◌, ◌<◌, ◌≤◌, Bool, true, List, [], ◌∷◌, ◌++◌, length, get_or, drop, map, refl, sym, ap, ◌∙◌, add-one, append_assoc, drop-cons, arith}
use Rattle.std.specs.List.{list_all, range_with_len}
use Rattle.std.proofs.lemmas.Bool.{and_parts}
use Rattle.cil_model.specs.Limits.{MAX_CLAUSES}
use Rattle.cil_model.specs.WellFormed.{IsWellFormed}
use Rattle.cil_model.specs.declared.clause.Clause.{Clause}
use Rattle.cil_model.specs.declared.instruction.Instr.{Instr}
use Rattle.cil_model.specs.declared.instruction.Op.{Op}
use Rattle.cil_model.specs.declared.machine.Obligation.{Obligation}
use Rattle.cil_model.specs.declared.unit.Unit.{Unit as MethodUnit}
use Rattle.obligation_prover.specs.ClausesTested.{clause_assumed, clause_obligation, clause_obligations, clauses_shown, clauses_tested, put_tested, shown_in_turn, tested_by}
use Rattle.obligation_prover.specs.declared.tested.Tested.{Tested}
use Rattle.obligation_prover.specs.declared.tested.Tested.TheVariants as tests
use Rattle.obligation_prover.proofs.Contracts.{few_tested}
use Rattle.state_facts.specs.StateFacts.{State}
use Rattle.invariant_checker.specs.Counts.{all_proved}
use Rattle.invariant_checker.specs.Verdicts.{clause_verdicts, clauses_from}
use Rattle.invariant_checker.specs.declared.verdict.Verdict.{Verdict}

-- ---- how many

shown_long : (unit : MethodUnit) (test : Tested) (clauses : List Clause) (state : State)
    → length (shown_in_turn unit test clauses state) ≡ length clauses
shown_long unit test [] state = refl
shown_long unit test (clause ∷ clauses) state =
    ap (λ (n : ℕ). suc n) (shown_long unit test clauses (clause_assumed unit test clause state))

pub few_shown : (unit : MethodUnit) (op : Op) (state : State) → IsWellFormed unit
    → length (clauses_shown unit op state) ≤ MAX_CLAUSES
few_shown unit op state formed =
    let test = tested_by unit op in
    omega (
      arith,
      few_tested unit op formed,
      shown_long unit test (clauses_tested unit test) (put_tested unit test state),
    )

-- ---- one after the other

pub nothing_tested : (unit : MethodUnit) (i : Instr) (state : State) → tested_by unit i.op ≡ tests.Nothing
    → clause_verdicts unit i state ≡ []
nothing_tested unit i state none =
    ap (λ (test : Tested). clauses_from i test 1
    (shown_in_turn unit test (clauses_tested unit test) (put_tested unit test state))) none

-- The verdict on one more.
pub one_more_shown : (found : List Verdict) (i : Instr) (test : Tested) (shown : List Bool) (k : ℕ) (d : Bool)
    → k < length shown
    → (found ++ record { obligation = clause_obligation i test (k + 1); proved = get_or shown k d } ∷ [])
    ++ clauses_from i test (k + 1 + 1) (drop (k + 1) shown)
    ≡ found ++ clauses_from i test (k + 1) (drop k shown)
one_more_shown found i test shown k d below =
    append_assoc found (record { obligation = clause_obligation i test (k + 1); proved = get_or shown k d } ∷ [])
    (clauses_from i test (k + 1 + 1) (drop (k + 1) shown))
    ∙ ap (λ (vs : List Verdict). found ++ vs) (sym (rw (drop-cons shown k d below, add-one k) refl))

-- Where all are proved, all are shown.
pub each_shown : (i : Instr) (test : Tested) (n : ℕ) (shown : List Bool)
    → all_proved (clauses_from i test n shown) ≡ true → list_all (λ b. b) shown ≡ true
each_shown i test n [] proved = refl
each_shown i test n (b ∷ shown) proved =
    let parts = and_parts b (all_proved (clauses_from i test (n + 1) shown)) proved in
    rw (parts.0, each_shown i test (n + 1) shown parts.1) refl

-- ---- obligations

told_shown : (i : Instr) (test : Tested) (n : ℕ) (shown : List Bool)
    → map (λ (v : Verdict). v.obligation) (clauses_from i test n shown)
    ≡ map (clause_obligation i test) (range_with_len n (length shown))
told_shown i test n [] = refl
told_shown i test n (b ∷ shown) =
    ap (λ (os : List Obligation). clause_obligation i test n ∷ os) (told_shown i test (n + 1) shown)

-- One verdict for each clause.
pub clauses_told : (unit : MethodUnit) (i : Instr) (state : State)
    → map (λ (v : Verdict). v.obligation) (clause_verdicts unit i state) ≡ clause_obligations unit i
clauses_told unit i state =
    let test = tested_by unit i.op in
    told_shown i test 1 (clauses_shown unit i.op state)
    ∙ ap (λ (n : ℕ). map (clause_obligation i test) (range_with_len 1 n))
    (shown_long unit test (clauses_tested unit test) (put_tested unit test state))
