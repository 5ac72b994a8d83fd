-- One Requires after another.
use Rattle.std.proofs.Common.{◌≡◌, ℕ, ◌+◌, ◌<◌, ◌≤◌, Bool, true, false, List, [], ◌∷◌, length, get_or, drop, refl, sym, ap, subst, ◌∙◌}
use Rattle.std.specs.List.{AllByRecursion}
use Rattle.std.proofs.lemmas.List.{drop_all, drop_more}
use Rattle.cil_model.specs.Clauses.{clauses_of, is_kind}
use Rattle.cil_model.specs.WellFormed.{IsWellFormed}
use Rattle.cil_model.specs.declared.clause.Clause.{Clause}
use Rattle.cil_model.specs.declared.clause.ClauseKind.TheVariants as kinds
use Rattle.cil_model.specs.declared.unit.Unit.{Unit as MethodUnit}
use Rattle.clause_trees.specs.Meaning.{CanTest}
use Rattle.state_facts.specs.StateFacts.{State}
use Rattle.transfer_rules.specs.Entry.{at_entry, required}
use Rattle.transfer_rules.specs.Laws.BegunLaws.{entry_kinds}
use Rattle.transfer_rules.specs.Laws.EntryLaws.{IsTestOf, all_readable, assumed_kinds, unit_tests}
use Rattle.transfer_rules.specs.Laws.Fitting.{AreKinds}

-- Of the clauses, those before this one that are Requires are assumed, and the rest is still to be.
pub record IsUnderWay (unit : MethodUnit) (clauses : List Clause) (first known : State) (i : ℕ) : Type 0 where
  pub same : required (clauses_of kinds.Requires clauses) first ≡ required (clauses_of kinds.Requires (drop i clauses)) known
  pub are : AreKinds (entry_kinds unit) known
  pub tests : AllByRecursion (IsTestOf unit) (clauses_of kinds.Requires (drop i clauses))

pub begins : (unit : MethodUnit) (first : State) → IsWellFormed unit → AreKinds (entry_kinds unit) first
    → IsUnderWay unit unit.clauses first first 0
begins unit first formed are = record { same = refl; are = are; tests = unit_tests unit formed }

-- one clause before others
one_first : (clause : Clause) (rest : List Clause) (known : State)
    → required (clauses_of kinds.Requires (clause ∷ rest)) known
    ≡ required (clauses_of kinds.Requires rest) (required (clauses_of kinds.Requires (clause ∷ [])) known)
one_first clause rest known = by (is_kind kinds.Requires clause.kind) refl
  where
    by : (b : Bool) → is_kind kinds.Requires clause.kind ≡ b
        → required (clauses_of kinds.Requires (clause ∷ rest)) known
        ≡ required (clauses_of kinds.Requires rest) (required (clauses_of kinds.Requires (clause ∷ [])) known)
    by true is = rw is refl
    by false is = rw is refl

module _ (unit : MethodUnit) (clause : Clause) (rest : List Clause) where
  test_first : AllByRecursion (IsTestOf unit) (clauses_of kinds.Requires (clause ∷ rest))
      → AllByRecursion (IsTestOf unit) (clauses_of kinds.Requires (clause ∷ []))
  test_first = by (is_kind kinds.Requires clause.kind) refl
    where
      by : (b : Bool) → is_kind kinds.Requires clause.kind ≡ b
          → AllByRecursion (IsTestOf unit) (clauses_of kinds.Requires (clause ∷ rest))
          → AllByRecursion (IsTestOf unit) (clauses_of kinds.Requires (clause ∷ []))
      by true is = rw is (λ all. (all.0, tt))
      by false is = rw is (λ all. tt)

  tests_later : AllByRecursion (IsTestOf unit) (clauses_of kinds.Requires (clause ∷ rest))
      → AllByRecursion (IsTestOf unit) (clauses_of kinds.Requires rest)
  tests_later = by (is_kind kinds.Requires clause.kind) refl
    where
      by : (b : Bool) → is_kind kinds.Requires clause.kind ≡ b
          → AllByRecursion (IsTestOf unit) (clauses_of kinds.Requires (clause ∷ rest))
          → AllByRecursion (IsTestOf unit) (clauses_of kinds.Requires rest)
      by true is = rw is (λ all. all.1)
      by false is = rw is (λ all. all)

  kinds_kept : (known : State) → AllByRecursion (IsTestOf unit) (clauses_of kinds.Requires (clause ∷ []))
      → AreKinds (entry_kinds unit) known
      → AreKinds (entry_kinds unit) (required (clauses_of kinds.Requires (clause ∷ [])) known)
  kinds_kept known = by (is_kind kinds.Requires clause.kind) refl
    where
      by : (b : Bool) → is_kind kinds.Requires clause.kind ≡ b
          → AllByRecursion (IsTestOf unit) (clauses_of kinds.Requires (clause ∷ []))
          → AreKinds (entry_kinds unit) known
          → AreKinds (entry_kinds unit) (required (clauses_of kinds.Requires (clause ∷ [])) known)
      by true is = rw is (λ all are. assumed_kinds unit clause.tree known all.0 are)
      by false is = rw is (λ all are. are)

module _ (unit : MethodUnit) (clauses : List Clause) (first known : State) (i : ℕ) (clause : Clause)
    (way : IsUnderWay unit clauses first known i) (below : i < length clauses) (is : clause ≡ get_or clauses i clause) where
  split : drop i clauses ≡ clause ∷ drop (i + 1) clauses
  split = drop_more clauses i clause below ∙ ap (λ c. c ∷ drop (i + 1) clauses) (sym is)

  tests_there : AllByRecursion (IsTestOf unit) (clauses_of kinds.Requires (clause ∷ drop (i + 1) clauses))
  tests_there = subst (λ cs. AllByRecursion (IsTestOf unit) (clauses_of kinds.Requires cs)) split way.tests

  pub next_test : AllByRecursion (IsTestOf unit) (clauses_of kinds.Requires (clause ∷ []))
  next_test = test_first unit clause (drop (i + 1) clauses) tests_there

  goes_on : (new : State) → new ≡ required (clauses_of kinds.Requires (clause ∷ [])) known
      → IsUnderWay unit clauses first new (i + 1)
  goes_on new made = record {
    same = way.same ∙ (ap (λ cs. required (clauses_of kinds.Requires cs) known) split
        ∙ (one_first clause (drop (i + 1) clauses) known
        ∙ ap (required (clauses_of kinds.Requires (drop (i + 1) clauses))) (sym made)));
    are = subst (AreKinds (entry_kinds unit)) (sym made) (kinds_kept unit clause [] known next_test way.are);
    tests = tests_later unit clause (drop (i + 1) clauses) tests_there;
  }

-- So for the list that a loop goes over.
pub next : (unit : MethodUnit) (items clauses : List Clause) (first known : State) (i : ℕ) (clause : Clause)
    → items ≡ clauses → IsUnderWay unit clauses first known i → i < length items → clause ≡ get_or items i clause
    → (new : State) → new ≡ required (clauses_of kinds.Requires (clause ∷ [])) known
    → IsUnderWay unit clauses first new (i + 1)
next unit items clauses first known i clause same way below is =
    goes_on unit clauses first known i clause way (subst (λ cs. i < length cs) same below)
    (is ∙ ap (λ cs. get_or cs i clause) same)

pub ended : (unit : MethodUnit) (clauses : List Clause) (first known : State) (i : ℕ)
    → IsUnderWay unit clauses first known i → length clauses ≤ i
    → known ≡ required (clauses_of kinds.Requires clauses) first
ended unit clauses first known i way most =
    sym (way.same ∙ ap (λ cs. required (clauses_of kinds.Requires cs) known) (drop_all i clauses most))

-- A Requires may be tested.
pub can_test : (unit : MethodUnit) (clause : Clause) (known : State) → clause.kind ≡ kinds.Requires
    → AreKinds (entry_kinds unit) known → AllByRecursion (IsTestOf unit) (clauses_of kinds.Requires (clause ∷ []))
    → CanTest at_entry clause.tree known
can_test unit clause known is are tests = record {
  args = unit.args;
  result = unit.result;
  readable = all_readable unit known are;
  test = test_of (subst (λ kind. is_kind kinds.Requires kind ≡ true) (sym is) refl) tests;
}
  where
    test_of : is_kind kinds.Requires clause.kind ≡ true
        → AllByRecursion (IsTestOf unit) (clauses_of kinds.Requires (clause ∷ [])) → IsTestOf unit clause
    test_of so = rw so (λ all. all.0)

pub ruleset requiring = (begins, next_test, next, ended)
