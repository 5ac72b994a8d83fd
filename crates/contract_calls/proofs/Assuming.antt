-- Clauses that are assumed one after another.
use Rattle.std.proofs.Common.{◌≡◌, ℕ, ◌+◌, ◌<◌, ◌≤◌, pos, Bool, true, false, not, List, [], ◌∷◌, length, get_or, drop, Option, Some, None, int_eq, refl, ap, subst, sym, ◌∙◌}
use Rattle.std.specs.List.{AllByRecursion}
use Rattle.std.specs.Option.{ForSome}
use Rattle.std.proofs.lemmas.Bool.{cond_both}
use Rattle.std.proofs.lemmas.List.{drop_all, drop_more}
use Rattle.std.proofs.lemmas.Option.{none-some, same_Some}
use Rattle.cil_model.specs.Clauses.{Reading, clause_holds, clauses_of, first_false, is_kind}
use Rattle.cil_model.specs.Terms as terms
use Rattle.cil_model.specs.Terms.{Term}
use Rattle.cil_model.specs.Values.{Heap}
use Rattle.cil_model.specs.declared.clause.Clause.{Clause}
use Rattle.cil_model.specs.declared.clause.ClauseKind.{ClauseKind}
use Rattle.cil_model.specs.declared.instruction.BinOp.TheVariants as operators
use Rattle.cil_model.specs.declared.machine.Value.{Value}
use Rattle.cil_model.specs.declared.place.Place.{Place}
use Rattle.clause_trees.proofs.AssumedKept.{assumed_is_kept, assumed_keeps_forms}
use Rattle.clause_trees.proofs.AssumedTrees.{assumed_same}
use Rattle.clause_trees.proofs.SameForms.{readable_same}
use Rattle.clause_trees.specs.ClauseStates.{assumed}
use Rattle.clause_trees.specs.Meaning.{CanTest, IsTest, Reads}
use Rattle.clause_trees.specs.VariableKinds.{HasSameFormsIn, IsReadable}
use Rattle.clause_trees.specs.declared.reader.TreeEnv.{TreeEnv}
use Rattle.merged_states.specs.Following.{HoldsOver}
use Rattle.merged_states.specs.Merging.{join}
use Rattle.state_facts.specs.StateFacts.{StateFacts, State}
use Rattle.contract_calls.specs.CallForms.{CanAssume, IsClauseOf}
use Rattle.contract_calls.specs.CallStates.{assumed_each}
use Rattle.contract_calls.proofs.MethodClauses.{is_test, true_value}

-- ---- one tree

-- Where nothing is reached, nothing is behind what is assumed.
pub none_assumed : (env : TreeEnv) (holds : Bool) (t : Term) → assumed env holds t None ≡ None
unfolding assumed
none_assumed env holds (terms.Cond c a b) =
    ap (λ o. join (assumed env holds a o) (assumed env holds b (assumed env false c None))) (none_assumed env true c)
    ∙ ap (λ o. join o (assumed env holds b (assumed env false c None))) (none_assumed env holds a)
    ∙ ap (assumed env holds b) (none_assumed env false c) ∙ none_assumed env holds b
none_assumed env holds (terms.Bin operators.Ceq a (terms.Const n)) =
    cond_both (int_eq n (pos 0)) _ _ (λ (o : State). o ≡ None) (λ zero. none_assumed env (not holds) a) (λ other. refl)
none_assumed env holds _ = refl

pub readable_in : (env : TreeEnv) (args : List Place) (result : Place) (known : StateFacts) (o : State)
    → IsReadable env args result known → HasSameFormsIn known o → ForSome o (IsReadable env args result)
readable_in env args result known None readable same = λ x is. absurd (none-some x is)
readable_in env args result known (Some after) readable same = λ x is.
    subst (IsReadable env args result) (same_Some after x is) (readable_same env args result known after same readable)

-- What is read is there still.
pub readable_still : (env : TreeEnv) (args : List Place) (result : Place) (t : Term) (state : State)
    → ForSome state (IsReadable env args result) → IsTest args result t
    → ForSome (assumed env true t state) (IsReadable env args result)
readable_still env args result t None readable test = λ x is. absurd (none-some x (sym (none_assumed env true t) ∙ is))
readable_still env args result t (Some known) readable test =
    let here = readable known refl in
    readable_in env args result known (assumed env true t (Some known)) here
    (assumed_keeps_forms env true t known args result here test)

-- ---- each of some

pub each_same : (env : TreeEnv) (args : List Place) (result : Place) (clauses : List Clause) (known : StateFacts)
    (o : State)
    → IsReadable env args result known → HasSameFormsIn known o → AllByRecursion (IsClauseOf args result) clauses
    → HasSameFormsIn known (assumed_each env clauses o)
each_same env args result [] known o readable same all = same
each_same env args result (clause ∷ clauses) known o readable same all =
    each_same env args result clauses known (assumed env true clause.tree o) readable
    (assumed_same env args result clause.tree true known o readable same (is_test args result clause all.0)) all.1

pub none_each : (env : TreeEnv) (clauses : List Clause) → assumed_each env clauses None ≡ None
none_each env [] = refl
none_each env (clause ∷ clauses) =
    ap (assumed_each env clauses) (none_assumed env true clause.tree) ∙ none_each env clauses

-- Where each is true.
pub each_keeps : (env : TreeEnv) (args : List Place) (result : Place) (clauses : List Clause) (state : State)
    (vs : List Value) (heap : Heap) (r : Reading)
    → ForSome state (IsReadable env args result) → AllByRecursion (IsClauseOf args result) clauses
    → Reads env args result vs heap r → AllByRecursion (λ clause. clause_holds r clause ≡ true) clauses
    → HoldsOver state vs heap → HoldsOver (assumed_each env clauses state) vs heap
each_keeps env args result [] state vs heap r readable all reads so over = over
each_keeps env args result (clause ∷ clauses) state vs heap r readable all reads so over =
    let test = is_test args result clause all.0 in
    each_keeps env args result clauses (assumed env true clause.tree state) vs heap r
    (readable_still env args result clause.tree state readable test) all.1 reads so.1
    (assumed_is_kept env true clause.tree state args result vs heap r readable test reads over
    (true_value r clause so.0))

-- Where none is false, each is true.
pub all_true : (n : ℕ) (r : Reading) (clauses : List Clause) → first_false n r clauses ≡ None
    → AllByRecursion (λ clause. clause_holds r clause ≡ true) clauses
all_true n r [] none = tt
all_true n r (clause ∷ clauses) none = cond_both (clause_holds r clause) _ _
    (λ (o : Option ℕ). o ≡ None
    → (clause_holds r clause ≡ true) × AllByRecursion (λ c. clause_holds r c ≡ true) clauses)
    (λ so rest. (so, all_true (n + 1) r clauses rest)) (λ not is. absurd (none-some n (sym is))) none

pub of_kind : (args : List Place) (result : Place) (kind : ClauseKind) (clauses : List Clause)
    → AllByRecursion (IsClauseOf args result) clauses
    → AllByRecursion (IsClauseOf args result) (clauses_of kind clauses)
of_kind args result kind [] all = tt
of_kind args result kind (clause ∷ clauses) all =
    cond_both (is_kind kind clause.kind) _ _ (AllByRecursion (IsClauseOf args result))
    (λ this. (all.0, of_kind args result kind clauses all.1)) (λ other. of_kind args result kind clauses all.1)

-- ---- a loop over them

-- Of the clauses, those before this one that are of the kind are assumed, and the rest is still to be.
pub record IsUnderWay (env : TreeEnv) (kind : ClauseKind) (clauses : List Clause) (first known : State) (i : ℕ)
    : Type 0 where
  pub same : assumed_each env (clauses_of kind clauses) first
      ≡ assumed_each env (clauses_of kind (drop i clauses)) known
  pub ready : CanAssume env (drop i clauses) known

pub begins : (env : TreeEnv) (kind : ClauseKind) (clauses : List Clause) (first : State) → CanAssume env clauses first
    → IsUnderWay env kind clauses first first 0
begins env kind clauses first ready = record { same = refl; ready = ready }

-- One clause before others.
one_first : (env : TreeEnv) (kind : ClauseKind) (clause : Clause) (rest : List Clause) (known : State)
    → assumed_each env (clauses_of kind (clause ∷ rest)) known
    ≡ assumed_each env (clauses_of kind rest) (assumed_each env (clauses_of kind (clause ∷ [])) known)
one_first env kind clause rest known = by (is_kind kind clause.kind) refl
  where
    by : (b : Bool) → is_kind kind clause.kind ≡ b
        → assumed_each env (clauses_of kind (clause ∷ rest)) known
        ≡ assumed_each env (clauses_of kind rest) (assumed_each env (clauses_of kind (clause ∷ [])) known)
    by true is = rw is refl
    by false is = rw is refl

one_readable : (env : TreeEnv) (args : List Place) (result : Place) (kind : ClauseKind) (clause : Clause)
    (known : State)
    → ForSome known (IsReadable env args result) → IsClauseOf args result clause
    → ForSome (assumed_each env (clauses_of kind (clause ∷ [])) known) (IsReadable env args result)
one_readable env args result kind clause known readable is =
    cond_both (is_kind kind clause.kind) _ _
    (λ (cs : List Clause). ForSome (assumed_each env cs known) (IsReadable env args result))
    (λ this. readable_still env args result clause.tree known readable (is_test args result clause is))
    (λ other. readable)

module _ (env : TreeEnv) (kind : ClauseKind) (clauses : List Clause) (first known : State) (i : ℕ) (clause : Clause)
    (way : IsUnderWay env kind clauses first known i) (below : i < length clauses)
    (is : clause ≡ get_or clauses i clause) where
  split : drop i clauses ≡ clause ∷ drop (i + 1) clauses
  split = drop_more clauses i clause below ∙ ap (λ c. c ∷ drop (i + 1) clauses) (sym is)

  ready_there : CanAssume env (clause ∷ drop (i + 1) clauses) known
  ready_there = subst (λ cs. CanAssume env cs known) split way.ready

  pub next_ready : CanAssume env (clause ∷ []) known
  next_ready = record {
    args = ready_there.args;
    result = ready_there.result;
    readable = ready_there.readable;
    tests = (ready_there.tests.0, tt);
  }

  goes_on : (new : State) → new ≡ assumed_each env (clauses_of kind (clause ∷ [])) known
      → IsUnderWay env kind clauses first new (i + 1)
  goes_on new made = record {
    same = way.same ∙ (ap (λ cs. assumed_each env (clauses_of kind cs) known) split
        ∙ (one_first env kind clause (drop (i + 1) clauses) known
        ∙ ap (assumed_each env (clauses_of kind (drop (i + 1) clauses))) (sym made)));
    ready = record {
      args = ready_there.args;
      result = ready_there.result;
      readable =
          subst (λ s. ForSome s (IsReadable env ready_there.args ready_there.result)) (sym made)
          (one_readable env ready_there.args ready_there.result kind clause known ready_there.readable
          ready_there.tests.0);
      tests = ready_there.tests.1;
    };
  }

-- So for the list that a loop goes over.
pub next : (env : TreeEnv) (kind : ClauseKind) (clauses : List Clause) (first known : State) (i : ℕ) (clause : Clause)
    → IsUnderWay env kind clauses first known i → i < length clauses → clause ≡ get_or clauses i clause
    → (new : State) → new ≡ assumed_each env (clauses_of kind (clause ∷ [])) known
    → IsUnderWay env kind clauses first new (i + 1)
next env kind clauses first known i clause way below is = goes_on env kind clauses first known i clause way below is

pub ended : (env : TreeEnv) (kind : ClauseKind) (clauses : List Clause) (first known : State) (i : ℕ)
    → IsUnderWay env kind clauses first known i → length clauses ≤ i
    → known ≡ assumed_each env (clauses_of kind clauses) first
ended env kind clauses first known i way most =
    sym (way.same ∙ ap (λ cs. assumed_each env (clauses_of kind cs) known) (drop_all i clauses most))

-- A clause may be a test where it may be assumed.
pub can_test : (env : TreeEnv) (clause : Clause) (state : State) → CanAssume env (clause ∷ []) state
    → CanTest env clause.tree state
can_test env clause state ready = record {
  args = ready.args;
  result = ready.result;
  readable = ready.readable;
  test = is_test ready.args ready.result clause ready.tests.0;
}

pub ruleset assuming = (begins, next_ready, next, ended)
