-- Steps of the code that judges clauses one after the other, and that numbers them.
use Rattle.std.proofs.Common.{◌≡◌, ℕ, zero, suc, ◌+◌, ◌<◌, ◌≤◌, Bool, true, false, List, [], ◌∷◌, ◌++◌, length, get_or, take, drop, map, slice_get, Option, Some, refl, ap, subst, sym, ◌∙◌, add-one, append_assoc, append-nil, arith}
use Rattle.std.specs.List.{AllByRecursion, range_with_len}
use Rattle.std.specs.Option.{option_map_or}
use Rattle.std.proofs.lemmas.Bool.{cond_both}
use Rattle.std.proofs.lemmas.List.{drop_all, drop_more, length-take, map-append}
use Rattle.std.proofs.lemmas.List.Sums.{count_by-le-length, length-filter}
use Rattle.cil_model.specs.Clauses.{clauses_of, is_kind}
use Rattle.cil_model.specs.declared.clause.Clause.{Clause}
use Rattle.cil_model.specs.declared.clause.ClauseKind.{ClauseKind}
use Rattle.cil_model.specs.declared.machine.Obligation.{Obligation}
use Rattle.cil_model.specs.declared.unit.CalleeInfo.{CalleeInfo}
use Rattle.cil_model.specs.declared.unit.Unit.{Unit as MethodUnit}
use Rattle.contract_calls.specs.CallForms.{CanCall, IsClauseOf}
use Rattle.contract_calls.specs.CallStates.{requires_assumed}
use Rattle.contract_calls.proofs.AtCalls.{assumed_ready}
use Rattle.contract_calls.proofs.AtReturns.{ensured_ready}
use Rattle.state_facts.specs.StateFacts.{State}
use Rattle.obligation_prover.specs.ClausesTested.{CanTest, IsClauseTested, assumed_in_turn, clause_assumed, kind_tested, shown_in_turn}
use Rattle.obligation_prover.specs.declared.tested.Tested.{Tested}
use Rattle.obligation_prover.specs.declared.tested.Tested.TheVariants as tests

-- ---- one clause

-- A clause that is tested of a callee is one of it.
pub callee_test : (unit : MethodUnit) (test : Tested) (number : ℕ) (callee : CalleeInfo) (clause : Clause)
    → IsClauseTested unit test clause → test ≡ tests.Callee number → slice_get unit.callees number ≡ Some callee
    → IsClauseOf callee.args callee.result clause
callee_test unit test number callee clause is same there =
    subst (λ (t : Tested). IsClauseTested unit t clause) same is callee there

-- The next clause may be judged where this one is assumed.
pub assumed_can : (unit : MethodUnit) (test : Tested) (clause : Clause) (state : State) → CanTest unit test state
    → IsClauseTested unit test clause → CanTest unit test (clause_assumed unit test clause state)
assumed_can unit tests.Nothing clause state can is = tt
assumed_can unit (tests.Callee number) clause state can is = λ callee there.
    subst (CanCall callee)
    (sym (ap (λ (o : Option CalleeInfo). option_map_or (λ c. requires_assumed c clause state) o state) there))
    (assumed_ready callee clause state (can callee there) (is callee there))
assumed_can unit tests.Own clause state can is = ensured_ready unit clause state can is

-- ---- a loop over clauses

-- What was found of the clauses before this one, and what is to be found of the others, is the whole.
pub record IsUnderWay (unit : MethodUnit) (test : Tested) (clauses : List Clause) (first : State) (found : List Bool)
    (known : State) (i : ℕ) : Type 0 where
  pub same : found ++ shown_in_turn unit test (clauses_of (kind_tested test) (drop i clauses)) known
      ≡ shown_in_turn unit test (clauses_of (kind_tested test) clauses) first
  pub can : CanTest unit test known
  pub tests : AllByRecursion (IsClauseTested unit test) (drop i clauses)

pub begins : (unit : MethodUnit) (test : Tested) (clauses : List Clause) (first : State) → CanTest unit test first
    → AllByRecursion (IsClauseTested unit test) clauses → IsUnderWay unit test clauses first [] first 0
begins unit test clauses first can all = record { same = refl; can = can; tests = all }

abbrev shown : MethodUnit → Tested → List Clause → State → List Bool
shown unit test clauses known = shown_in_turn unit test (clauses_of (kind_tested test) clauses) known

abbrev assumed : MethodUnit → Tested → List Clause → State → State
assumed unit test clauses known = assumed_in_turn unit test (clauses_of (kind_tested test) clauses) known

-- One clause before others.
one_first : (unit : MethodUnit) (test : Tested) (clause : Clause) (rest : List Clause) (known : State)
    → shown unit test (clause ∷ rest) known
    ≡ shown unit test (clause ∷ []) known ++ shown unit test rest (assumed unit test (clause ∷ []) known)
one_first unit test clause rest known = by (is_kind (kind_tested test) clause.kind) refl
  where
    by : (b : Bool) → is_kind (kind_tested test) clause.kind ≡ b → shown unit test (clause ∷ rest) known
        ≡ shown unit test (clause ∷ []) known ++ shown unit test rest (assumed unit test (clause ∷ []) known)
    by true is = rw is refl
    by false is = rw is refl

one_can : (unit : MethodUnit) (test : Tested) (clause : Clause) (known : State) → CanTest unit test known
    → IsClauseTested unit test clause → CanTest unit test (assumed unit test (clause ∷ []) known)
one_can unit test clause known can is =
    cond_both (is_kind (kind_tested test) clause.kind) _ _
    (λ (cs : List Clause). CanTest unit test (assumed_in_turn unit test cs known))
    (λ this. assumed_can unit test clause known can is) (λ other. can)

module _ (unit : MethodUnit) (test : Tested) (clauses : List Clause) (first : State) (found : List Bool) (known : State)
    (i : ℕ) (clause : Clause) (way : IsUnderWay unit test clauses first found known i) (below : i < length clauses)
    (is : clause ≡ get_or clauses i clause) where
  split : drop i clauses ≡ clause ∷ drop (i + 1) clauses
  split = drop_more clauses i clause below ∙ ap (λ c. c ∷ drop (i + 1) clauses) (sym is)

  all_there : AllByRecursion (IsClauseTested unit test) (clause ∷ drop (i + 1) clauses)
  all_there = subst (AllByRecursion (IsClauseTested unit test)) split way.tests

  test_there : IsClauseTested unit test clause
  test_there = all_there.0

  goes_on : (more : List Bool) (new : State) → more ≡ found ++ shown unit test (clause ∷ []) known
      → new ≡ assumed unit test (clause ∷ []) known → IsUnderWay unit test clauses first more new (i + 1)
  goes_on more new told made = record {
    same =
        ap (λ (bs : List Bool). bs ++ shown unit test (drop (i + 1) clauses) new) told
        ∙ (append_assoc found (shown unit test (clause ∷ []) known) (shown unit test (drop (i + 1) clauses) new)
        ∙ (ap (λ (bs : List Bool). found ++ bs)
        (ap (λ (s : State). shown unit test (clause ∷ []) known ++ shown unit test (drop (i + 1) clauses) s) made
        ∙ (sym (one_first unit test clause (drop (i + 1) clauses) known)
        ∙ ap (λ cs. shown unit test cs known) (sym split)))
        ∙ way.same));
    can = subst (CanTest unit test) (sym made) (one_can unit test clause known way.can test_there);
    tests = all_there.1;
  }

pub next_test : (unit : MethodUnit) (test : Tested) (clauses : List Clause) (first : State) (found : List Bool)
    (known : State) (i : ℕ) (clause : Clause) → IsUnderWay unit test clauses first found known i → i < length clauses
    → clause ≡ get_or clauses i clause → IsClauseTested unit test clause
next_test unit test clauses first found known i clause way below is =
    test_there unit test clauses first found known i clause way below is

pub next : (unit : MethodUnit) (test : Tested) (clauses : List Clause) (first : State) (found : List Bool)
    (known : State) (i : ℕ) (clause : Clause) → IsUnderWay unit test clauses first found known i → i < length clauses
    → clause ≡ get_or clauses i clause → (more : List Bool) (new : State)
    → more ≡ found ++ shown_in_turn unit test (clauses_of (kind_tested test) (clause ∷ [])) known
    → new ≡ assumed_in_turn unit test (clauses_of (kind_tested test) (clause ∷ [])) known
    → IsUnderWay unit test clauses first more new (i + 1)
next unit test clauses first found known i clause way below is more new told made =
    goes_on unit test clauses first found known i clause way below is more new told made

pub ended : (unit : MethodUnit) (test : Tested) (clauses : List Clause) (first : State) (found : List Bool)
    (known : State) (i : ℕ) → IsUnderWay unit test clauses first found known i → length clauses ≤ i
    → found ≡ shown_in_turn unit test (clauses_of (kind_tested test) clauses) first
ended unit test clauses first found known i way most =
    sym (append-nil found)
    ∙ (ap (λ cs. found ++ shown unit test cs known) (sym (drop_all i clauses most)) ∙ way.same)

-- ---- numbers

-- No more are tested of the first clauses than there are.
pub few_counted : (kind : ClauseKind) (clauses : List Clause) (i : ℕ) → i ≤ length clauses
    → length (clauses_of kind (take i clauses)) ≤ i
few_counted kind clauses i most =
    omega (
      arith,
      length-filter (λ (clause : Clause). is_kind kind clause.kind) (take i clauses),
      count_by-le-length (λ (clause : Clause). is_kind kind clause.kind) (take i clauses),
      length-take i clauses,
    )

range_more : (a n : ℕ) → range_with_len a (suc n) ≡ range_with_len a n ++ (a + n) ∷ []
range_more a zero = let same : a ≡ a + 0 = omega arith in ap (λ (k : ℕ). k ∷ []) same
range_more a (suc n) =
    let same : a + 1 + n ≡ a + suc n = omega arith in
    ap (λ (ks : List ℕ). a ∷ ks)
    (range_more (a + 1) n ∙ ap (λ (k : ℕ). range_with_len (a + 1) n ++ k ∷ []) same)

-- One more obligation.
pub one_more_owed : (f : ℕ → Obligation) (before more first : List Obligation) (n : ℕ)
    → before ≡ first ++ map f (range_with_len 1 n) → more ≡ before ++ f (n + 1) ∷ []
    → more ≡ first ++ map f (range_with_len 1 (n + 1))
one_more_owed f before more first n is pushed =
    let same : 1 + n ≡ n + 1 = omega arith in
    pushed ∙ (ap (λ (os : List Obligation). os ++ f (n + 1) ∷ []) is
    ∙ (append_assoc first (map f (range_with_len 1 n)) (f (n + 1) ∷ [])
    ∙ ap (λ (os : List Obligation). first ++ os)
    (sym (ap (map f) (ap (range_with_len 1) (add-one n) ∙ (range_more 1 n
    ∙ ap (λ (k : ℕ). range_with_len 1 n ++ k ∷ []) same))
    ∙ map-append f (range_with_len 1 n) ((n + 1) ∷ [])))))

pub ruleset judging = (begins, next_test, next, ended)
