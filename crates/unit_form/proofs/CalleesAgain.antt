-- The spelling of clauses and callees passes their tests, and they are read from it again.
use Rattle.std.proofs.Common.{◌≡◌, ℕ, ◌+◌, ◌≤◌, true, List, [], ◌∷◌, ◌++◌, length, drop, refl, sym, subst, ap, ap₂, ◌∙◌, arith, append_assoc}
use Rattle.std.specs.List.{flat_map, AllByRecursion}
use Rattle.std.proofs.lemmas.Bool.{le-leb}
use Rattle.std.proofs.lemmas.List.Sums.{sum_by-cons, sum_by_push}
use Rattle.cc_base.specs.Tests.{first_of}
use Rattle.cc_base.proofs.TestLemmas.{first_of-append_none}
use Rattle.cil_model.specs.Clauses.{is_kind}
use Rattle.cil_model.specs.Limits.{MAX_CONDITIONS, MAX_NODES, MAX_OLD_VALUES}
use Rattle.cil_model.specs.Places.{place_number}
use Rattle.cil_model.specs.Laws.TermsBack.{first_back}
use Rattle.cil_model.specs.TermCodes.{preorder}
use Rattle.cil_model.specs.Terms.{Term, term_size, condition_depth, old_count}
use Rattle.cil_model.specs.TreeKinds.{IsNumberClause}
use Rattle.cil_model.specs.WellFormed.{ClausesWithinLimits, HasInts, IsCallee, IsIntRoot}
use Rattle.cil_model.specs.declared.clause.Clause.{Clause}
use Rattle.cil_model.specs.declared.clause.ClauseKind.{ClauseKind}
use Rattle.cil_model.specs.declared.clause.ClauseKind.TheVariants as kinds
use Rattle.cil_model.specs.declared.place.Place.{Place}
use Rattle.cil_model.specs.declared.unit.CalleeInfo.{CalleeInfo}
use Rattle.unit_form.specs.Callees.{callee_field, callee_fields, clause_field, clause_fields, clause_tree, clauses_field, is_clause_count, is_clause_tree, is_kind_number, is_number_kind, kind_number, kind_numbered, next_callee, next_clause, olds_in}
use Rattle.unit_form.specs.Fields.{name_field, place_field, u8_field, variables_field}
use Rattle.unit_form.specs.Forms.{IsCount}
use Rattle.unit_form.specs.Spelling.{callee_bytes, clause_bytes, clauses_bytes, name_bytes, places_bytes}
use Rattle.unit_form.specs.TreeFields.{tree_of_roots, tree_roots}
use Rattle.unit_form.specs.TreeSpelling.{tree_bytes}
use Rattle.unit_form.specs.declared.clause_list.ClauseList.{ClauseList}
use Rattle.unit_form.specs.declared.clause_list.ClauseList.TheVariants as lists
use Rattle.unit_form.specs.declared.form.UnitForm.{UnitForm}
use Rattle.unit_form.proofs.ArgsFit.{ArgsFit, args_fit}
use Rattle.unit_form.proofs.Again.{ReadsBack, both, many_again, name_again, one_test, place_again, test_before, u8_again, variables_again}
use Rattle.unit_form.proofs.CalleesTaken.{GoodClause, IsOfList, IsSpelledCallee}
use Rattle.unit_form.proofs.Taken.{AllGood}
use Rattle.unit_form.proofs.TreesAgain.{tree_again}

numbered_kind : (kind : ClauseKind) → kind_numbered (kind_number kind) ≡ kind
numbered_kind kinds.Requires = refl
numbered_kind kinds.Ensures = refl

is_numbered : (list : ClauseList) (kind : ClauseKind) → IsOfList list kind → is_kind_number list (kind_number kind) ≡ true
is_numbered lists.Contract kinds.Requires of = refl
is_numbered lists.Contract kinds.Ensures of = refl
is_numbered lists.Added kind of = ap (λ (k : ClauseKind). is_kind_number lists.Added (kind_number k)) of

-- A contract's clauses may be of each kind.
of_contract : (clauses : List Clause) → AllByRecursion (λ clause. IsOfList lists.Contract clause.kind) clauses
of_contract [] = tt
of_contract (clause ∷ clauses) = (tt, of_contract clauses)

is_good : (list : ClauseList) (args : List Place) (result : Place) (before : List Clause) (clause : Clause) → GoodClause list args result before clause
    → is_clause_tree args result clause.kind (olds_in before) clause.tree ≡ true
is_good list args result before clause good =
    both _ _ (both _ _ (both _ _ (le-leb _ _ good.nodes) (le-leb _ _ good.conditions)) (le-leb _ _ good.olds)) (ap is_number_kind good.number)

tree_judged : (form : UnitForm) (args : List Place) (result : Place) (kind : ClauseKind) (olds : ℕ) (bytes : List ℕ) (at : ℕ) (tree : Term) (rest : List ℕ) → AllByRecursion IsIntRoot (preorder tree) → ArgsFit form tree
    → is_clause_tree args result kind olds tree ≡ true → at ≤ length bytes → drop at bytes ≡ tree_bytes form tree ++ rest → ReadsBack bytes (clause_tree form args result kind olds bytes at) tree rest
unfolding clause_tree
tree_judged form args result kind olds bytes at tree rest ints named good before there =
    let roots = tree_roots form bytes at in
    let one = tree_again form bytes at tree rest ints named before there in
    let same : tree_of_roots roots.value ≡ tree = ap tree_of_roots one.value ∙ first_back tree in
    record {
      passed = first_of-append_none roots.tests _ one.passed ∙ one_test _ _ (ap (is_clause_tree args result kind olds) same ∙ good);
      value = same;
      behind = one.behind;
      inside = one.inside;
    }

clause_again : (list : ClauseList) (form : UnitForm) (args : List Place) (result : Place) (bytes : List ℕ) → IsCount form (length args) → (before : List Clause) (at : ℕ) (clause : Clause) (rest : List ℕ)
    → GoodClause list args result before clause
    → drop at bytes ≡ clause_bytes form clause ++ rest → ReadsBack bytes (next_clause list form args result bytes before at) clause rest
unfolding clause_field
clause_again list form args result bytes few before at clause rest good there =
    let number = u8_field bytes at in
    let named = args_fit form args result few (is_kind kinds.Ensures clause.kind) clause.tree _ good.number in
    let one = u8_again bytes at (kind_number clause.kind) (tree_bytes form clause.tree ++ rest) there in
    let two = tree_judged form args result clause.kind (olds_in before) bytes number.next clause.tree rest good.ints named (is_good list args result before clause good) one.inside one.behind in
    let kind : kind_numbered number.value ≡ clause.kind = ap kind_numbered one.value ∙ numbered_kind clause.kind in
    let tree = clause_tree form args result (kind_numbered number.value) (olds_in before) bytes number.next in
    let same : tree ≡ clause_tree form args result clause.kind (olds_in before) bytes number.next = ap (λ k. clause_tree form args result k (olds_in before) bytes number.next) kind in
    let value : tree.value ≡ clause.tree = ap (λ parse. parse.value) same ∙ two.value in
    record {
      passed = first_of-append_none number.tests _ one.passed ∙ test_before _ _ tree.tests (ap (is_kind_number list) one.value ∙ is_numbered list clause.kind good.kind) (ap (λ parse. first_of parse.tests) same ∙ two.passed);
      value = record_path kind value;
      behind = ap (λ parse. drop parse.next bytes) same ∙ two.behind;
      inside = subst (λ parse. parse.next ≤ length bytes) (sym same) two.inside;
    }
  where
    record_path : {k : ClauseKind} {t : Term} → k ≡ clause.kind → t ≡ clause.tree → ◌≡◌ {A = Clause} (record { kind = k; tree = t }) clause
    record_path e f = rw (e, f) refl

all_good : (list : ClauseList) (args : List Place) (result : Place) (before clauses : List Clause) → AllByRecursion (λ clause. IsOfList list clause.kind) clauses
    → AllByRecursion (λ clause. term_size clause.tree ≤ MAX_NODES) clauses
    → AllByRecursion (λ clause. condition_depth clause.tree ≤ MAX_CONDITIONS) clauses → olds_in before + olds_in clauses ≤ MAX_OLD_VALUES
    → AllByRecursion HasInts clauses → AllByRecursion (IsNumberClause args result) clauses → AllGood (GoodClause list args result) before clauses
all_good list args result before [] of nodes conditions olds ints numbers = tt
all_good list args result before (clause ∷ clauses) of nodes conditions olds ints numbers =
    let first = sum_by-cons (λ clause. old_count clause.tree) clause clauses in
    let pushed = sum_by_push (λ clause. old_count clause.tree) before clause in (
      record { kind = of.0; nodes = nodes.0; conditions = conditions.0; olds = omega (arith, olds, first); ints = ints.0; number = numbers.0 },
      all_good list args result (before ++ clause ∷ []) clauses of.1 nodes.1 conditions.1 (omega (arith, olds, first, pushed)) ints.1 numbers.1,
    )

pub clauses_again : (list : ClauseList) (form : UnitForm) (args : List Place) (result : Place) (bytes : List ℕ) (at : ℕ) (clauses : List Clause) (rest : List ℕ) → IsCount form (length args)
    → is_clause_count list (length clauses) ≡ true → AllByRecursion (λ clause. IsOfList list clause.kind) clauses → ClausesWithinLimits clauses → AllByRecursion HasInts clauses
    → AllByRecursion (IsNumberClause args result) clauses → drop at bytes ≡ clauses_bytes form clauses ++ rest → ReadsBack bytes (clauses_field list form args result bytes at) clauses rest
unfolding clauses_field
clauses_again list form args result bytes at clauses rest few counted of limits ints numbers there =
    let count = u8_field bytes at in
    let one = u8_again bytes at (length clauses) (flat_map (clause_bytes form) clauses ++ rest) there in
    let good = all_good list args result [] clauses of limits.nodes limits.conditions (omega (arith, limits.old_values)) ints numbers in
    let all = many_again bytes (next_clause list form args result bytes) (clause_bytes form) (GoodClause list args result) (clause_again list form args result bytes few) [] clauses count.next rest good one.inside one.behind in
    let parse = clause_fields list form count.value args result bytes count.next in
    let same : parse ≡ clause_fields list form (length clauses) args result bytes count.next = ap (λ (n : ℕ). clause_fields list form n args result bytes count.next) one.value in
    record {
      passed = first_of-append_none count.tests _ one.passed
          ∙ test_before _ _ parse.tests (ap (is_clause_count list) one.value ∙ counted) (ap (λ parse. first_of parse.tests) same ∙ all.passed);
      value = ap (λ parse. parse.value) same ∙ all.value;
      behind = ap (λ parse. drop parse.next bytes) same ∙ all.behind;
      inside = subst (λ parse. parse.next ≤ length bytes) (sym same) all.inside;
    }

callee_again : (form : UnitForm) (bytes : List ℕ) (before : List CalleeInfo) (at : ℕ) (callee : CalleeInfo) (rest : List ℕ) → IsSpelledCallee form callee → drop at bytes ≡ callee_bytes form callee ++ rest
    → ReadsBack bytes (next_callee form bytes before at) callee rest
unfolding callee_field
callee_again form bytes before at callee rest (is, few) there =
    let name = name_field bytes at in
    let result = place_field bytes name.next in
    let args = variables_field form 0 bytes result.next in
    let clauses = clauses_field lists.Contract form args.value result.value bytes args.next in
    let behind_args = clauses_bytes form callee.clauses ++ rest in
    let one = name_again bytes at callee.name (place_number callee.result ∷ (places_bytes form callee.args ++ behind_args)) is.name
    (there ∙ append_assoc (name_bytes callee.name) _ rest ∙ ap (λ (t : List ℕ). name_bytes callee.name ++ (place_number callee.result ∷ t)) (append_assoc (places_bytes form callee.args) (clauses_bytes form callee.clauses) rest)) in
    let two = place_again bytes name.next callee.result (places_bytes form callee.args ++ behind_args) one.behind in
    let three = variables_again form 0 bytes result.next callee.args behind_args is.args few (omega (arith, is.few_args)) two.behind in
    let four = clauses_again lists.Contract form callee.args callee.result bytes args.next callee.clauses rest few (le-leb _ _ is.clauses.count) (of_contract callee.clauses) is.clauses is.ints is.numbers three.behind in
    let same : clauses ≡ clauses_field lists.Contract form callee.args callee.result bytes args.next = ap₂ (λ places place. clauses_field lists.Contract form places place bytes args.next) three.value two.value in
    let last : clauses.value ≡ callee.clauses = ap (λ parse. parse.value) same ∙ four.value in
    record {
      passed = first_of-append_none name.tests _ one.passed ∙ first_of-append_none result.tests _ two.passed ∙ first_of-append_none args.tests _ three.passed ∙ ap (λ parse. first_of parse.tests) same ∙ four.passed;
      value = record_path one.value two.value three.value last;
      behind = ap (λ parse. drop parse.next bytes) same ∙ four.behind;
      inside = subst (λ parse. parse.next ≤ length bytes) (sym same) four.inside;
    }
  where
    record_path : {name : List ℕ} {result : Place} {args : List Place} {clauses : List Clause} → name ≡ callee.name → result ≡ callee.result → args ≡ callee.args → clauses ≡ callee.clauses
        → ◌≡◌ {A = CalleeInfo} (record { name = name; result = result; args = args; clauses = clauses }) callee
    record_path e f g h = rw (e, f, g, h) refl

good_callees : (form : UnitForm) (before callees : List CalleeInfo) → AllByRecursion IsCallee callees → AllByRecursion (λ callee. IsCount form (length callee.args)) callees
    → AllGood (λ earlier callee. IsSpelledCallee form callee) before callees
good_callees form before [] all counts = tt
good_callees form before (callee ∷ callees) all counts = ((all.0, counts.0), good_callees form (before ++ callee ∷ []) callees all.1 counts.1)

pub callees_again : (form : UnitForm) (bytes : List ℕ) (at : ℕ) (callees : List CalleeInfo) (rest : List ℕ) → AllByRecursion IsCallee callees → AllByRecursion (λ callee. IsCount form (length callee.args)) callees → at ≤ length bytes → drop at bytes ≡ flat_map (callee_bytes form) callees ++ rest
    → ReadsBack bytes (callee_fields form (length callees) bytes at) callees rest
callees_again form bytes at callees rest all counts before there =
    many_again bytes (next_callee form bytes) (callee_bytes form) (λ earlier callee. IsSpelledCallee form callee) (callee_again form bytes) [] callees at rest (good_callees form [] callees all counts) before there
