-- What a unit file says of clauses and of the methods that are called, as it is read.
use Rattle.std.specs.Prelude.{ℕ, zero, suc, ◌+◌, Bool, false, ◌&&◌, ◌||◌, ◌==◌, nat_le, nat_lt, List, [], ◌∷◌, ◌++◌, length, sum_by, Option, Some, None, if◌then◌else◌}
use Rattle.cc_base.specs.Tests.{must}
use Rattle.cil_model.specs.Clauses.{is_kind}
use Rattle.cil_model.specs.Limits.{MAX_CLAUSES, MAX_CONDITIONS, MAX_NODES, MAX_OLD_VALUES}
use Rattle.cil_model.specs.TermCodes.{Root}
use Rattle.cil_model.specs.Terms.{Term, term_size, condition_depth, old_count}
use Rattle.cil_model.specs.TreeKinds.{is_int, kind_in}
use Rattle.cil_model.specs.declared.clause.Clause.{Clause}
use Rattle.cil_model.specs.declared.clause.ClauseKind.{ClauseKind}
use Rattle.cil_model.specs.declared.clause.ClauseKind.TheVariants as kinds
use Rattle.cil_model.specs.declared.place.Kind.{Kind}
use Rattle.cil_model.specs.declared.place.Place.{Place}
use Rattle.cil_model.specs.declared.unit.CalleeInfo.{CalleeInfo}
use Rattle.unit_form.specs.Fields.{name_field, place_field, u8_field, variables_field}
use Rattle.unit_form.specs.Parses.{Parse, many}
use Rattle.unit_form.specs.TreeFields.{tree_of_roots, tree_roots}
use Rattle.unit_form.specs.declared.clause_list.ClauseList.{ClauseList}
use Rattle.unit_form.specs.declared.clause_list.ClauseList.TheVariants as lists
use Rattle.unit_form.specs.declared.unit_fault.UnitFault.TheVariants.{Form}
use Rattle.unit_form.specs.declared.form.UnitForm.{UnitForm}

-- ---- clauses

abbrev pub is_number_kind : Option Kind → Bool
is_number_kind (Some kind) = is_int kind
is_number_kind None = false

-- The number of a kind of clauses, and the kind of a number: 1 and 2.
abbrev pub kind_number : ClauseKind → ℕ
kind_number kinds.Requires = 1
kind_number kinds.Ensures = 2

abbrev pub kind_numbered : ℕ → ClauseKind
kind_numbered number = if number == 1 then kinds.Requires else kinds.Ensures

-- The tree keeps the limits of a clause, after clauses with so many old values.
abbrev pub keeps_limits : ℕ → Term → Bool
keeps_limits olds tree =
    nat_le (term_size tree) MAX_NODES && nat_le (condition_depth tree) MAX_CONDITIONS && nat_le (olds + old_count tree) MAX_OLD_VALUES

-- A clause of a method of these arguments and this result may have the tree.
abbrev pub is_clause_tree : List Place → Place → ClauseKind → ℕ → Term → Bool
is_clause_tree args result kind olds tree =
    keeps_limits olds tree && is_number_kind (kind_in args result (is_kind kinds.Ensures kind) tree)

-- The tree of these roots, where there are not too many and a clause may have it.
abbrev pub kept_tree : List Place → Place → ClauseKind → ℕ → List Root → Option Term
kept_tree args result kind olds roots =
    if nat_lt MAX_NODES (length roots) then None
    else if is_clause_tree args result kind olds (tree_of_roots roots) then Some (tree_of_roots roots) else None

-- The tree of a clause, which is read to its end before it is judged.
unfoldable pub clause_tree : UnitForm → List Place → Place → ClauseKind → ℕ → List ℕ → ℕ → Parse Term
clause_tree form args result kind olds bytes at =
    let roots = tree_roots form bytes at in
    let tree = tree_of_roots roots.value in
    record { tests = roots.tests ++ (must (is_clause_tree args result kind olds tree) (Form at) ∷ []); value = tree; next = roots.next }

-- A clause of such a list may have the kind of this number. Added clauses are Ensures.
abbrev pub is_kind_number : ClauseList → ℕ → Bool
is_kind_number lists.Contract number = number == 1 || number == 2
is_kind_number lists.Added number = number == 2

-- A clause: the number of its kind, and its tree.
unfoldable pub clause_field : ClauseList → UnitForm → List Place → Place → ℕ → List ℕ → ℕ → Parse Clause
clause_field list form args result olds bytes at =
    let number = u8_field bytes at in
    let tree = clause_tree form args result (kind_numbered number.value) olds bytes number.next in
    record {
      tests = number.tests ++ (must (is_kind_number list number.value) (Form at) ∷ tree.tests);
      value = record { kind = kind_numbered number.value; tree = tree.value };
      next = tree.next;
    }

-- How many old values these clauses have together.
abbrev pub olds_in : List Clause → ℕ
olds_in clauses = sum_by (λ clause. old_count clause.tree) clauses

-- The clause after these.
abbrev pub next_clause : ClauseList → UnitForm → List Place → Place → List ℕ → List Clause → ℕ → Parse Clause
next_clause list form args result bytes clauses at = clause_field list form args result (olds_in clauses) bytes at

-- So many clauses.
abbrev pub clause_fields : ClauseList → UnitForm → ℕ → List Place → Place → List ℕ → ℕ → Parse (List Clause)
clause_fields list form count args result bytes at = many (next_clause list form args result bytes) [] count at

-- Such a list may have so many clauses. Added clauses are counted from 1.
abbrev pub is_clause_count : ClauseList → ℕ → Bool
is_clause_count lists.Contract count = nat_le count MAX_CLAUSES
is_clause_count lists.Added count = nat_le 1 count && nat_le count MAX_CLAUSES

-- The clauses of a method, after their count.
unfoldable pub clauses_field : ClauseList → UnitForm → List Place → Place → List ℕ → ℕ → Parse (List Clause)
clauses_field list form args result bytes at =
    let count = u8_field bytes at in
    let clauses = clause_fields list form count.value args result bytes count.next in
    record { tests = count.tests ++ (must (is_clause_count list count.value) (Form at) ∷ clauses.tests); value = clauses.value; next = clauses.next }

-- ---- callees

-- A callee: its name, its result, its arguments and its clauses.
unfoldable pub callee_field : UnitForm → List ℕ → ℕ → Parse CalleeInfo
callee_field form bytes at =
    let name = name_field bytes at in
    let result = place_field bytes name.next in
    let args = variables_field form 0 bytes result.next in
    let clauses = clauses_field lists.Contract form args.value result.value bytes args.next in
    record {
      tests = name.tests ++ (result.tests ++ (args.tests ++ clauses.tests));
      value = record { name = name.value; result = result.value; args = args.value; clauses = clauses.value };
      next = clauses.next;
    }

-- The callee after these.
abbrev pub next_callee : UnitForm → List ℕ → List CalleeInfo → ℕ → Parse CalleeInfo
next_callee form bytes callees at = callee_field form bytes at

-- So many callees.
abbrev pub callee_fields : UnitForm → ℕ → List ℕ → ℕ → Parse (List CalleeInfo)
callee_fields form count bytes at = many (next_callee form bytes) [] count at

-- The offsets at which so many callees begin.
unfoldable pub callee_offsets : UnitForm → ℕ → List ℕ → ℕ → List ℕ
callee_offsets form zero bytes at = []
callee_offsets form (suc count) bytes at = at ∷ callee_offsets form count bytes (callee_field form bytes at).next
