-- The kinds of clauses' trees: a number, a reference to arrays of a type, or null. A tree may have none.
use Rattle.std.specs.Prelude.{◌≡◌, Bool, true, false, ◌&&◌, List, Option, Some, None, if◌then◌else◌, slice_get}
use Rattle.std.specs.Option.{option_and_then}
use Rattle.cil_model.specs.Clauses.{is_kind}
use Rattle.cil_model.specs.Comparisons.{comparison_of}
use Rattle.cil_model.specs.Kinds.{kind_of, is_reference, is_array_of, is_tested, pushes_comparison}
use Rattle.cil_model.specs.Passes.{merged_kind}
use Rattle.cil_model.specs.Terms as terms
use Rattle.cil_model.specs.Terms.{Term}
use Rattle.cil_model.specs.declared.clause.Clause.{Clause}
use Rattle.cil_model.specs.declared.clause.ClauseKind.TheVariants as kinds
use Rattle.cil_model.specs.declared.instruction.CmpOp.{CmpOp}
use Rattle.cil_model.specs.declared.place.Kind.{Kind}
use Rattle.cil_model.specs.declared.place.Kind.TheVariants.{Int, NullRef}
use Rattle.cil_model.specs.declared.place.Place.{Place}

-- A number, where the test holds.
abbrev pub number_if : Bool → Option Kind
number_if test = if test then Some Int else None

abbrev pub is_int : Kind → Bool
is_int Int = true
is_int _ = false

abbrev pub length_kind : Option Kind → Option Kind
length_kind None = None
length_kind (Some array) = number_if (is_reference array)

abbrev pub element_kind : Place → Option Kind → Option Kind → Option Kind
element_kind place (Some array) (Some index) = number_if (is_array_of place array && is_int index)
element_kind place _ _ = None

abbrev pub operator_kind : Option CmpOp → Option Kind → Option Kind → Option Kind
operator_kind None (Some a) (Some b) = number_if (is_int a && is_int b)
operator_kind (Some op) (Some a) (Some b) = number_if (pushes_comparison op a b)
operator_kind comparison _ _ = None

abbrev pub unary_kind : Option Kind → Option Kind
unary_kind None = None
unary_kind (Some a) = number_if (is_int a)

-- Two branches have one kind, where null is an array of each type.
abbrev pub branch_kind : Option Kind → Option Kind → Option Kind → Option Kind
branch_kind (Some test) (Some a) (Some b) = if is_tested test then merged_kind a b else None
branch_kind _ _ _ = None

-- The kind of a tree over these arguments and this result. An old value and a result stand only in an Ensures,
-- and not inside an old value.
abbrev pub kind_in : List Place → Place → Bool → Term → Option Kind
kind_in args result ensured (terms.Const n) = Some Int
kind_in args result ensured (terms.Arg n) = option_and_then kind_of (slice_get args n)
kind_in args result ensured terms.Null = Some NullRef
kind_in args result ensured terms.Result = if ensured then kind_of result else None
kind_in args result ensured (terms.Len a) = length_kind (kind_in args result ensured a)
kind_in args result ensured (terms.Elem place a b) = element_kind place (kind_in args result ensured a) (kind_in args result ensured b)
kind_in args result ensured (terms.Bin operator a b) = operator_kind (comparison_of operator) (kind_in args result ensured a) (kind_in args result ensured b)
kind_in args result ensured (terms.Un operator a) = unary_kind (kind_in args result ensured a)
kind_in args result ensured (terms.Old a) = if ensured then kind_in args result false a else None
kind_in args result ensured (terms.Cond a b c) = branch_kind (kind_in args result ensured a) (kind_in args result ensured b) (kind_in args result ensured c)

-- The clause of a method of these arguments and this result is a number.
abbrev pub IsNumberClause : List Place → Place → Clause → Type 0
IsNumberClause args result clause = kind_in args result (is_kind kinds.Ensures clause.kind) clause.tree ≡ Some Int
