-- Clauses and callees whose tests are passed are spelled where they stand, and keep the limits.
use Rattle.std.proofs.Common.{◌≡◌, ℕ, ◌+◌, ◌≤◌, Bool, true, false, List, [], ◌∷◌, ◌++◌, length, drop, Option, None, Some, refl, sym, subst, ap, ◌∙◌, arith, append_assoc}
use Rattle.std.specs.Prelude.{◌&&◌, ◌||◌, ◌==◌, nat_le}
use Rattle.std.specs.List.{flat_map, AllByRecursion}
use Rattle.std.proofs.lemmas.Bool.{leb-true, eqb-true}
use Rattle.std.proofs.lemmas.List.Sums.{sum_by-cons, sum_by_push}
use Rattle.cc_base.specs.LittleEndian.{IsBytes}
use Rattle.cc_base.specs.Tests.{first_of, must}
use Rattle.cc_base.proofs.TestLemmas.{none_before, none_behind, none_here}
use Rattle.cil_model.specs.Limits.{MAX_CLAUSES, MAX_CONDITIONS, MAX_NODES, MAX_OLD_VALUES}
use Rattle.cil_model.specs.Places.{place_number}
use Rattle.cil_model.specs.TermCodes.{preorder}
use Rattle.cil_model.specs.Terms.{Term, term_size, condition_depth, old_count}
use Rattle.cil_model.specs.TreeKinds.{IsNumberClause}
use Rattle.cil_model.specs.WellFormed.{ClausesWithinLimits, HasInts, IsCallee, IsIntRoot}
use Rattle.cil_model.specs.declared.clause.Clause.{Clause}
use Rattle.cil_model.specs.declared.clause.ClauseKind.{ClauseKind}
use Rattle.cil_model.specs.declared.clause.ClauseKind.TheVariants as kinds
use Rattle.cil_model.specs.declared.place.Kind.{Kind}
use Rattle.cil_model.specs.declared.place.Kind.TheVariants as numbers
use Rattle.cil_model.specs.declared.place.Place.{Place}
use Rattle.cil_model.specs.declared.unit.CalleeInfo.{CalleeInfo}
use Rattle.unit_form.specs.Callees.{callee_field, callee_fields, clause_field, clause_fields, clause_tree, clauses_field, is_clause_count, is_clause_tree, is_kind_number, is_number_kind, keeps_limits, kind_number, kind_numbered, next_callee, next_clause, olds_in}
use Rattle.unit_form.specs.Fields.{name_field, place_field, u8_field, variables_field}
use Rattle.unit_form.specs.Forms.{IsCount}
use Rattle.unit_form.specs.Spelling.{callee_bytes, clause_bytes, clauses_bytes, name_bytes, places_bytes}
use Rattle.unit_form.specs.TreeFields.{tree_roots}
use Rattle.unit_form.specs.TreeSpelling.{tree_bytes}
use Rattle.unit_form.specs.declared.clause_list.ClauseList.{ClauseList}
use Rattle.unit_form.specs.declared.clause_list.ClauseList.TheVariants as lists
use Rattle.unit_form.specs.declared.form.UnitForm.{UnitForm}
use Rattle.unit_form.proofs.Counted.{length-many}
use Rattle.unit_form.proofs.Taken.{AllGood, Stands, both_true, holds, many_taken, name_taken, place_taken, u8_taken, variables_taken}
use Rattle.unit_form.proofs.TreesTaken.{tree_ints, tree_taken}

-- ---- one clause

numbered_kind : (list : ClauseList) (number : ℕ) → is_kind_number list number ≡ true → kind_number (kind_numbered number) ≡ number
numbered_kind lists.Added number e = subst (λ (n : ℕ). kind_number (kind_numbered n) ≡ n) (sym (eqb-true number 2 e)) refl
numbered_kind lists.Contract number e = by_first (number == 1) (number == 2) refl refl e
  where
    by_first : (one two : Bool) → (number == 1) ≡ one → (number == 2) ≡ two → (one || two) ≡ true → kind_number (kind_numbered number) ≡ number
    by_first true two e1 e2 e = rw e1 (sym (eqb-true number 1 e1))
    by_first false true e1 e2 e = rw e1 (sym (eqb-true number 2 e2))
    by_first false false e1 e2 e = absurd (cc)

-- A clause of such a list has such a kind.
abbrev pub IsOfList : ClauseList → ClauseKind → Type 0
IsOfList lists.Contract kind = Unit {0}
IsOfList lists.Added kind = kind ≡ kinds.Ensures

of_list : (list : ClauseList) (number : ℕ) → is_kind_number list number ≡ true → IsOfList list (kind_numbered number)
of_list lists.Contract number e = tt
of_list lists.Added number e = subst (λ (n : ℕ). kind_numbered n ≡ kinds.Ensures) (sym (eqb-true number 2 e)) refl

few_clauses : (list : ClauseList) (count : ℕ) → is_clause_count list count ≡ true → count ≤ MAX_CLAUSES
few_clauses lists.Contract count e = leb-true _ _ e
few_clauses lists.Added count e = leb-true _ _ (both_true (nat_le 1 count) _ e).1

number_kind : (kind : Option Kind) → is_number_kind kind ≡ true → kind ≡ Some numbers.Int
number_kind (Some numbers.Int) e = refl
number_kind (Some numbers.Native) e = absurd (cc)
number_kind (Some numbers.Ints) e = absurd (cc)
number_kind (Some numbers.Bools) e = absurd (cc)
number_kind (Some numbers.NullRef) e = absurd (cc)
number_kind (Some numbers.Text) e = absurd (cc)
number_kind (Some numbers.AddrInts) e = absurd (cc)
number_kind (Some numbers.AddrBools) e = absurd (cc)
number_kind None e = absurd (cc)

-- What is known of a clause that is read after these.
pub record GoodClause (list : ClauseList) (args : List Place) (result : Place) (before : List Clause) (clause : Clause) : Type 0 where
  pub kind : IsOfList list clause.kind
  pub nodes : term_size clause.tree ≤ MAX_NODES
  pub conditions : condition_depth clause.tree ≤ MAX_CONDITIONS
  pub olds : olds_in before + old_count clause.tree ≤ MAX_OLD_VALUES
  pub ints : HasInts clause
  pub number : IsNumberClause args result clause

good_clause : (list : ClauseList) (args : List Place) (result : Place) (before : List Clause) (kind : ClauseKind) (tree : Term) → IsOfList list kind
    → is_clause_tree args result kind (olds_in before) tree ≡ true
    → AllByRecursion IsIntRoot (preorder tree) → GoodClause list args result before (record { kind = kind; tree = tree })
good_clause list args result before kind tree of e ints =
    let parts = both_true (keeps_limits (olds_in before) tree) _ e in
    let two = both_true (nat_le (term_size tree) MAX_NODES && nat_le (condition_depth tree) MAX_CONDITIONS) _ parts.0 in
    let three = both_true (nat_le (term_size tree) MAX_NODES) _ two.0 in
    record { kind = of; nodes = leb-true _ _ three.0; conditions = leb-true _ _ three.1; olds = leb-true _ _ two.1; ints = ints; number = number_kind _ parts.1 }

tree_judged : (form : UnitForm) (args : List Place) (result : Place) (kind : ClauseKind) (olds : ℕ) (bytes : List ℕ) (at : ℕ) → IsBytes bytes → first_of (clause_tree form args result kind olds bytes at).tests ≡ None
    → Stands bytes at (clause_tree form args result kind olds bytes at) (tree_bytes form (clause_tree form args result kind olds bytes at).value)
    × ((is_clause_tree args result kind olds (clause_tree form args result kind olds bytes at).value ≡ true) × AllByRecursion IsIntRoot (preorder (clause_tree form args result kind olds bytes at).value))
unfolding clause_tree
tree_judged form args result kind olds bytes at fits passed =
    let roots = tree_roots form bytes at in
    let one = none_before roots.tests _ passed in
    let two = none_here _ [] (none_behind roots.tests _ passed) in
    (record { there = (tree_taken form bytes at fits one).there }, (holds _ _ two, tree_ints form bytes at fits one))

clause_taken : (list : ClauseList) (form : UnitForm) (args : List Place) (result : Place) (bytes : List ℕ) → IsBytes bytes → (before : List Clause) (at : ℕ)
    → first_of (next_clause list form args result bytes before at).tests ≡ None
    → Stands bytes at (next_clause list form args result bytes before at) (clause_bytes form (next_clause list form args result bytes before at).value)
    × GoodClause list args result before (next_clause list form args result bytes before at).value
unfolding clause_field
clause_taken list form args result bytes fits before at passed =
    let number = u8_field bytes at in
    let kind = kind_numbered number.value in
    let tree = clause_tree form args result kind (olds_in before) bytes number.next in
    let one = none_before number.tests _ passed in
    let rest = none_behind number.tests (must (is_kind_number list number.value) _ ∷ tree.tests) passed in
    let two = none_here _ tree.tests rest in
    let three = none_behind (must (is_kind_number list number.value) _ ∷ []) tree.tests rest in
    let judged = tree_judged form args result kind (olds_in before) bytes number.next fits three in (
      record {
        there = (u8_taken bytes at one).there ∙ ap (λ (n : ℕ). n ∷ drop number.next bytes) (sym (numbered_kind list number.value (holds _ _ two)))
            ∙ ap (λ (t : List ℕ). kind_number kind ∷ t) judged.0.there;
      },
      good_clause list args result before kind tree.value (of_list list number.value (holds _ _ two)) judged.1.0 judged.1.1,
    )

-- ---- all clauses

pub record GoodClauses (list : ClauseList) (args : List Place) (result : Place) (before clauses : List Clause) : Type 0 where
  pub kinds : AllByRecursion (λ clause. IsOfList list clause.kind) clauses
  pub nodes : AllByRecursion (λ clause. term_size clause.tree ≤ MAX_NODES) clauses
  pub conditions : AllByRecursion (λ clause. condition_depth clause.tree ≤ MAX_CONDITIONS) clauses
  pub olds : olds_in before ≤ MAX_OLD_VALUES → olds_in before + olds_in clauses ≤ MAX_OLD_VALUES
  pub ints : AllByRecursion HasInts clauses
  pub numbers : AllByRecursion (IsNumberClause args result) clauses

good_clauses : (list : ClauseList) (args : List Place) (result : Place) (before clauses : List Clause) → AllGood (GoodClause list args result) before clauses → GoodClauses list args result before clauses
good_clauses list args result before [] good = record { kinds = tt; nodes = tt; conditions = tt; olds = λ few. omega (arith, few); ints = tt; numbers = tt }
good_clauses list args result before (clause ∷ clauses) good =
    let later = good_clauses list args result (before ++ clause ∷ []) clauses good.1 in
    record {
      kinds = (good.0.kind, later.kinds);
      nodes = (good.0.nodes, later.nodes);
      conditions = (good.0.conditions, later.conditions);
      olds = λ few. omega (arith, sum_by-cons (λ clause. old_count clause.tree) clause clauses, sum_by_push (λ clause. old_count clause.tree) before clause, good.0.olds, later.olds (rw (sum_by_push (λ clause. old_count clause.tree) before clause) good.0.olds));
      ints = (good.0.ints, later.ints);
      numbers = (good.0.number, later.numbers);
    }

pub record ClausesTaken (list : ClauseList) (form : UnitForm) (args : List Place) (result : Place) (bytes : List ℕ) (at : ℕ) : Type 0 where
  pub stands : Stands bytes at (clauses_field list form args result bytes at) (clauses_bytes form (clauses_field list form args result bytes at).value)
  pub counted : is_clause_count list (length (clauses_field list form args result bytes at).value) ≡ true
  pub kinds : AllByRecursion (λ clause. IsOfList list clause.kind) (clauses_field list form args result bytes at).value
  pub limits : ClausesWithinLimits (clauses_field list form args result bytes at).value
  pub ints : AllByRecursion HasInts (clauses_field list form args result bytes at).value
  pub numbers : AllByRecursion (IsNumberClause args result) (clauses_field list form args result bytes at).value

pub clauses_taken : (list : ClauseList) (form : UnitForm) (args : List Place) (result : Place) (bytes : List ℕ) (at : ℕ) → IsBytes bytes → first_of (clauses_field list form args result bytes at).tests ≡ None
    → ClausesTaken list form args result bytes at
unfolding clauses_field
clauses_taken list form args result bytes at fits passed =
    let count = u8_field bytes at in
    let clauses = clause_fields list form count.value args result bytes count.next in
    let one = none_before count.tests _ passed in
    let rest = none_behind count.tests (must (is_clause_count list count.value) _ ∷ clauses.tests) passed in
    let two = none_here _ clauses.tests rest in
    let three = none_behind (must (is_clause_count list count.value) _ ∷ []) clauses.tests rest in
    let all = many_taken bytes (next_clause list form args result bytes) (clause_bytes form) (GoodClause list args result) (clause_taken list form args result bytes fits) count.value [] count.next three in
    let size = length-many (next_clause list form args result bytes) [] count.value count.next in
    let good = good_clauses list args result [] clauses.value all.1 in
    let counted : is_clause_count list (length clauses.value) ≡ true = ap (is_clause_count list) size ∙ holds _ _ two in
    record {
      stands = record { there = (u8_taken bytes at one).there ∙ ap (λ (n : ℕ). n ∷ drop count.next bytes) (sym size) ∙ ap (λ (t : List ℕ). length clauses.value ∷ t) all.0.there };
      counted = counted;
      kinds = good.kinds;
      limits = record { count = few_clauses list (length clauses.value) counted; nodes = good.nodes; conditions = good.conditions; old_values = omega (arith, good.olds (omega arith)) };
      ints = good.ints;
      numbers = good.numbers;
    }

-- ---- callees

-- A callee whose arguments can be counted in this form.
abbrev pub IsSpelledCallee : UnitForm → CalleeInfo → Type 0
IsSpelledCallee form callee = IsCallee callee × IsCount form (length callee.args)

pub callee_taken : (form : UnitForm) (bytes : List ℕ) → IsBytes bytes → (before : List CalleeInfo) (at : ℕ) → first_of (next_callee form bytes before at).tests ≡ None
    → Stands bytes at (next_callee form bytes before at) (callee_bytes form (next_callee form bytes before at).value) × IsSpelledCallee form (next_callee form bytes before at).value
unfolding callee_field
callee_taken form bytes fits before at passed =
    let name = name_field bytes at in
    let result = place_field bytes name.next in
    let args = variables_field form 0 bytes result.next in
    let clauses = clauses_field lists.Contract form args.value result.value bytes args.next in
    let rest1 = none_behind name.tests (result.tests ++ (args.tests ++ clauses.tests)) passed in
    let rest2 = none_behind result.tests (args.tests ++ clauses.tests) rest1 in
    let one = name_taken bytes at fits (none_before name.tests _ passed) in
    let two = place_taken bytes name.next (none_before result.tests _ rest1) in
    let three = variables_taken form 0 bytes result.next fits (none_before args.tests _ rest2) in
    let four = clauses_taken lists.Contract form args.value result.value bytes args.next fits (none_behind args.tests clauses.tests rest2) in (
      record {
        there = one.stands.there ∙ ap (λ (t : List ℕ). name_bytes name.value ++ t)
            (two.there ∙ ap (λ (t : List ℕ). place_number result.value ∷ t)
            (three.stands.there ∙ ap (λ (t : List ℕ). places_bytes form args.value ++ t) four.stands.there
            ∙ sym (append_assoc (places_bytes form args.value) (clauses_bytes form clauses.value) _)))
            ∙ sym (append_assoc (name_bytes name.value) (place_number result.value ∷ (places_bytes form args.value ++ clauses_bytes form clauses.value)) _);
      },
      (record { args = three.hold; few_args = omega (arith, three.few); name = one.name; clauses = four.limits; ints = four.ints; numbers = four.numbers }, three.count),
    )

all_callees : (form : UnitForm) (before callees : List CalleeInfo) → AllGood (λ earlier callee. IsSpelledCallee form callee) before callees
    → AllByRecursion IsCallee callees × AllByRecursion (λ callee. IsCount form (length callee.args)) callees
all_callees form before [] good = (tt, tt)
all_callees form before (callee ∷ callees) good =
    let later = all_callees form (before ++ callee ∷ []) callees good.1 in
    ((good.0.0, later.0), (good.0.1, later.1))

pub callees_taken : (form : UnitForm) (count : ℕ) (bytes : List ℕ) (at : ℕ) → IsBytes bytes → first_of (callee_fields form count bytes at).tests ≡ None
    → Stands bytes at (callee_fields form count bytes at) (flat_map (callee_bytes form) (callee_fields form count bytes at).value) × AllByRecursion IsCallee (callee_fields form count bytes at).value
    × AllByRecursion (λ callee. IsCount form (length callee.args)) (callee_fields form count bytes at).value
callees_taken form count bytes at fits passed =
    let all = many_taken bytes (next_callee form bytes) (callee_bytes form) (λ earlier callee. IsSpelledCallee form callee) (callee_taken form bytes fits) count [] at passed in
    let good = all_callees form [] (callee_fields form count bytes at).value all.1 in
    (all.0, good.0, good.1)
