-- The kinds of some trees of clauses, and trees that have none.
use Rattle.std.proofs.Common.{◌≡◌, pos, true, false, List, [], ◌∷◌, Option, Some, None, refl}
use Rattle.cil_model.specs.Terms.{Term, Const, Arg, Null, Result, Len, Elem, Bin, Un, Old, Cond}
use Rattle.cil_model.specs.TreeKinds.{kind_in}
use Rattle.cil_model.specs.declared.instruction.BinOp.TheVariants as operators
use Rattle.cil_model.specs.declared.instruction.UnOp.TheVariants as unary
use Rattle.cil_model.specs.declared.place.Kind.{Kind}
use Rattle.cil_model.specs.declared.place.Kind.TheVariants as kinds
use Rattle.cil_model.specs.declared.place.Place.{Place}
use Rattle.cil_model.specs.declared.place.Place.TheVariants as places

-- int M(int[] a, bool[] b, bool c)
abbrev args : List Place
args = places.Ints ∷ places.Bools ∷ places.Bool ∷ []

abbrev zero : Term
zero = Const (pos 0)

-- In an Ensures, the tree has this kind, or none.
abbrev Ensured : Term → Option Kind → Type 0
Ensured tree kind = kind_in args places.Int true tree ≡ kind

-- In a Requires.
abbrev Required : Term → Option Kind → Type 0
Required tree kind = kind_in args places.Int false tree ≡ kind

-- ---- numbers and references

bool_is_a_number : Required (Arg 2) (Some kinds.Int)
bool_is_a_number = refl

array_is_its_kind : Required (Arg 1) (Some kinds.Bools)
array_is_its_kind = refl

argument_is_missing : Required (Arg 3) None
argument_is_missing = refl

length_is_a_number : Required (Len (Arg 0)) (Some kinds.Int)
length_is_a_number = refl

length_of_null : Required (Len Null) (Some kinds.Int)
length_of_null = refl

length_of_a_number : Required (Len zero) None
length_of_a_number = refl

element : Required (Elem places.Bools (Arg 1) (Len (Arg 0))) (Some kinds.Int)
element = refl

element_of_null : Required (Elem places.Ints Null zero) (Some kinds.Int)
element_of_null = refl

element_of_another_type : Required (Elem places.Ints (Arg 1) zero) None
element_of_another_type = refl

array_is_no_index : Required (Elem places.Ints (Arg 0) (Arg 0)) None
array_is_no_index = refl

-- The place of an element is that of the array.
element_of_no_array : Required (Elem places.Bool (Arg 2) zero) None
element_of_no_array = refl

-- ---- operators

numbers_are_added : Required (Bin operators.AddOvf (Arg 2) (Len (Arg 0))) (Some kinds.Int)
numbers_are_added = refl

arrays_are_not_added : Required (Bin operators.Add (Arg 0) zero) None
arrays_are_not_added = refl

arrays_are_compared : Required (Bin operators.Ceq (Arg 0) Null) (Some kinds.Int)
arrays_are_compared = refl

arrays_of_two_types : Required (Bin operators.Ceq (Arg 0) (Arg 1)) None
arrays_of_two_types = refl

array_above_null : Required (Bin operators.CgtUn (Arg 0) Null) (Some kinds.Int)
array_above_null = refl

null_above_array : Required (Bin operators.CgtUn Null (Arg 0)) None
null_above_array = refl

number_is_negated : Required (Un unary.Neg zero) (Some kinds.Int)
number_is_negated = refl

array_is_not_negated : Required (Un unary.Neg (Arg 0)) None
array_is_not_negated = refl

-- ---- conditions

reference_is_a_test : Required (Cond (Arg 0) zero (Arg 2)) (Some kinds.Int)
reference_is_a_test = refl

null_beside_an_array : Required (Cond (Arg 2) Null (Arg 1)) (Some kinds.Bools)
null_beside_an_array = refl

number_beside_an_array : Required (Cond (Arg 2) zero (Arg 1)) None
number_beside_an_array = refl

-- A condition whose branches are both null is the null constant too.
null_constant : Required (Bin operators.CgtUn (Arg 0) (Cond (Arg 2) Null Null)) (Some kinds.Int)
null_constant = refl

-- ---- results and old values

result_is_ensured : Ensured Result (Some kinds.Int)
result_is_ensured = refl

result_is_not_required : Required Result None
result_is_not_required = refl

void_has_no_result : kind_in args places.Void true Result ≡ None
void_has_no_result = refl

old_element : Ensured (Old (Elem places.Ints (Arg 0) zero)) (Some kinds.Int)
old_element = refl

old_array : Ensured (Old (Arg 0)) (Some kinds.Ints)
old_array = refl

old_is_not_required : Required (Old zero) None
old_is_not_required = refl

result_is_not_old : Ensured (Old Result) None
result_is_not_old = refl

old_is_not_old : Ensured (Old (Old zero)) None
old_is_not_old = refl

result_beside_old : Ensured (Bin operators.Ceq Result (Old (Arg 2))) (Some kinds.Int)
result_beside_old = refl
