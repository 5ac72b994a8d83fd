-- Clauses of methods may be tested.
use Rattle.std.proofs.Common.{◌≡◌, ℕ, zero, suc, ◌<◌, Bool, true, false, List, [], ◌∷◌, length, get_or, slice_get, Option, Some, refl, ap, subst}
use Rattle.std.specs.List.{AllByRecursion}
use Rattle.std.specs.Option.{option_and_then}
use Rattle.std.proofs.lemmas.Bool.{false≢true}
use Rattle.std.proofs.lemmas.Option.{none-some, same_Some, slice_get_read}
use Rattle.cil_model.specs.Clauses.{Reading, clause_holds, is_kind, is_number_true, value_of}
use Rattle.cil_model.specs.Comparisons.{is_true}
use Rattle.cil_model.specs.TreeKinds.{IsNumberClause, kind_in}
use Rattle.cil_model.specs.WellFormed.{HasInts, IsCallee}
use Rattle.cil_model.specs.declared.clause.Clause.{Clause}
use Rattle.cil_model.specs.declared.clause.ClauseKind.TheVariants as clause_kinds
use Rattle.cil_model.specs.declared.machine.Value.{Value}
use Rattle.cil_model.specs.declared.machine.Value.TheVariants as values
use Rattle.cil_model.specs.declared.place.Kind.TheVariants as kinds
use Rattle.cil_model.specs.declared.place.Place.{Place}
use Rattle.cil_model.specs.declared.unit.CalleeInfo.{CalleeInfo}
use Rattle.clause_trees.proofs.EntryKinds.{kind_everywhere}
use Rattle.clause_trees.specs.Meaning.{IsTest}
use Rattle.contract_calls.specs.CallForms.{IsClauseOf}
use Rattle.contract_calls.specs.CallStates.{numbered}

-- ---- clauses of methods

number_of : (args : List Place) (result : Place) (clause : Clause) (ensured : Bool)
    → kind_in args result ensured clause.tree ≡ Some kinds.Int → kind_in args result true clause.tree ≡ Some kinds.Int
number_of args result clause true is = is
number_of args result clause false is = kind_everywhere args result clause.tree kinds.Int is

-- Clauses that are numbers are those of a method.
pub clauses_are : (args : List Place) (result : Place) (clauses : List Clause)
    → AllByRecursion (IsNumberClause args result) clauses → AllByRecursion HasInts clauses
    → AllByRecursion (IsClauseOf args result) clauses
clauses_are args result [] numbers ints = tt
clauses_are args result (clause ∷ clauses) numbers ints = (
  record {
    number = number_of args result clause (is_kind clause_kinds.Ensures clause.kind) numbers.0;
    ints = ints.0;
  },
  clauses_are args result clauses numbers.1 ints.1,
)

-- So for those of a callee.
pub callee_clauses : (callee : CalleeInfo) → IsCallee callee
    → AllByRecursion (IsClauseOf callee.args callee.result) callee.clauses
callee_clauses callee formed = clauses_are callee.args callee.result callee.clauses formed.numbers formed.ints

-- One of them is one of a method.
pub clause_found : (args : List Place) (result : Place) (clauses : List Clause) (i : ℕ) (clause : Clause)
    → AllByRecursion (IsClauseOf args result) clauses → slice_get clauses i ≡ Some clause
    → IsClauseOf args result clause
clause_found args result [] i clause all at = absurd (none-some clause at)
clause_found args result (c ∷ clauses) zero clause all at = subst (IsClauseOf args result) (same_Some c clause at) all.0
clause_found args result (c ∷ clauses) (suc i) clause all at = clause_found args result clauses i clause all.1 at

-- The one that a loop comes to.
pub clause_there : (args : List Place) (result : Place) (clauses : List Clause) (i : ℕ) (clause : Clause)
    → AllByRecursion (IsClauseOf args result) clauses → i < length clauses → clause ≡ get_or clauses i clause
    → IsClauseOf args result clause
clause_there args result clauses i clause all below is =
    clause_found args result clauses i clause all (slice_get_read clauses (length clauses) i clause refl below is)

-- The one of a number.
pub clause_of_number : (args : List Place) (result : Place) (clauses : List Clause) (number : ℕ) (clause : Clause)
    → AllByRecursion (IsClauseOf args result) clauses → numbered clauses number ≡ Some clause
    → IsClauseOf args result clause
unfolding numbered
clause_of_number args result clauses zero clause all at = absurd (none-some clause at)
clause_of_number args result clauses (suc number) clause all at =
    clause_found args result clauses number clause all at

-- ---- tests

pub is_test : (args : List Place) (result : Place) (clause : Clause) → IsClauseOf args result clause
    → IsTest args result clause.tree
is_test args result clause is = record {
  kind = kinds.Int;
  typed = record { kind_is = is.number; ints = is.ints };
  tested = refl;
}

-- A number that is true is a value that is.
pub true_value : (r : Reading) (clause : Clause) → clause_holds r clause ≡ true
    → option_and_then is_true (value_of clause.tree r) ≡ Some true
true_value r clause is = by (value_of clause.tree r) is
  where
    by : (o : Option Value) → is_number_true o ≡ true → option_and_then is_true o ≡ Some true
    by (Some (values.Int n)) is = ap Some is
    by _ is = absurd (false≢true is)
