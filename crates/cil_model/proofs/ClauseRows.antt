-- What the trees of clauses are worth, over an array that a method changed.
use Rattle.std.proofs.Common.{◌≡◌, ℤ, pos, negsuc, true, false, [], ◌∷◌, Option, Some, None, refl}
use Rattle.std.specs.Int.{int_wrap}
use Rattle.cil_model.specs.Clauses.{Reading, clause_holds, false_ensures, false_requires, value_of}
use Rattle.cil_model.specs.Terms.{Term, Const, Arg, Null, Result, Len, Elem, Bin, Un, Old, Cond}
use Rattle.cil_model.specs.Values.{Heap}
use Rattle.cil_model.specs.declared.clause.Clause.{Clause}
use Rattle.cil_model.specs.declared.clause.ClauseKind.TheVariants.{Requires, Ensures}
use Rattle.cil_model.specs.declared.instruction.BinOp.TheVariants as operators
use Rattle.cil_model.specs.declared.instruction.UnOp.TheVariants as unary
use Rattle.cil_model.specs.declared.machine.Value.{Value}
use Rattle.cil_model.specs.declared.machine.Value.TheVariants as values
use Rattle.cil_model.specs.declared.place.Place.TheVariants.{Bools, Ints}

-- One array that was [5, 6] at entry and is [9, 6] at the end, and one of bool.
abbrev before : Heap
before = record { place = Ints; items = pos 5 ∷ pos 6 ∷ [] } ∷ record { place = Bools; items = pos 1 ∷ [] } ∷ []

abbrev after : Heap
after = record { place = Ints; items = pos 9 ∷ pos 6 ∷ [] } ∷ record { place = Bools; items = pos 0 ∷ [] } ∷ []

-- The arguments are these arrays, null and 4, and the result is 7.
abbrev reading : Reading
reading = record {
  args = values.Array 0 ∷ values.Array 1 ∷ values.Null ∷ values.Int (pos 4) ∷ [];
  entry_heap = before;
  heap = after;
  result = Some (values.Int (pos 7));
}

abbrev number : ℤ → Term
number n = Const n

-- What the tree is worth.
abbrev IsWorth : Term → Option Value → Type 0
IsWorth tree value = value_of tree reading ≡ value

-- ---- conditions

first_where_true : IsWorth (Cond (number (pos 1)) (number (pos 7)) (number (pos 8))) (Some (values.Int (pos 7)))
unfolding value_of
first_where_true = refl

second_where_false : IsWorth (Cond (number (pos 0)) (number (pos 7)) (number (pos 8))) (Some (values.Int (pos 8)))
unfolding value_of
second_where_false = refl

null_is_a_false_test : IsWorth (Cond Null (number (pos 7)) (number (pos 8))) (Some (values.Int (pos 8)))
unfolding value_of
null_is_a_false_test = refl

-- The branch that is not taken may fault.
fault_beside : IsWorth (Cond (number (pos 1)) (number (pos 7)) (Elem Ints Null (number (pos 0)))) (Some (values.Int (pos 7)))
unfolding value_of
fault_beside = refl

test_faults : IsWorth (Cond (Len Null) (number (pos 7)) (number (pos 8))) None
unfolding value_of
test_faults = refl

-- ---- variables

parameter : IsWorth (Arg 3) (Some (values.Int (pos 4)))
unfolding value_of
parameter = refl

parameter_is_missing : IsWorth (Arg 4) None
unfolding value_of
parameter_is_missing = refl

result : IsWorth Result (Some (values.Int (pos 7)))
unfolding value_of
result = refl

-- ---- arrays

length_of_array : IsWorth (Len (Arg 0)) (Some (values.Int (pos 2)))
unfolding value_of
length_of_array = refl

length_of_null : IsWorth (Len (Arg 2)) None
unfolding value_of
length_of_null = refl

element : IsWorth (Elem Ints (Arg 0) (number (pos 1))) (Some (values.Int (pos 6)))
unfolding value_of
element = refl

element_of_bools : IsWorth (Elem Bools (Arg 1) (number (pos 0))) (Some (values.Int (pos 0)))
unfolding value_of
element_of_bools = refl

index_is_minus_one : IsWorth (Elem Ints (Arg 0) (number (negsuc 0))) None
unfolding value_of
index_is_minus_one = refl

index_is_the_length : IsWorth (Elem Ints (Arg 0) (number (pos 2))) None
unfolding value_of
index_is_the_length = refl

element_of_null : IsWorth (Elem Ints (Arg 2) (number (pos 0))) None
unfolding value_of
element_of_null = refl

element_of_another_type : IsWorth (Elem Bools (Arg 0) (number (pos 0))) None
unfolding value_of
element_of_another_type = refl

-- Outside OldValue at the end, and inside it at entry.
element_now : IsWorth (Elem Ints (Arg 0) (number (pos 0))) (Some (values.Int (pos 9)))
unfolding value_of
element_now = refl

old_element : IsWorth (Old (Elem Ints (Arg 0) (number (pos 0)))) (Some (values.Int (pos 5)))
unfolding value_of
old_element = refl

-- The array alone is old here, and its element is read at the end.
element_of_old : IsWorth (Elem Ints (Old (Arg 0)) (number (pos 0))) (Some (values.Int (pos 9)))
unfolding value_of
element_of_old = refl

-- ---- operators: the first operand is on the left

difference : IsWorth (Bin operators.Sub (Arg 3) (number (pos 1))) (Some (values.Int (pos 3)))
unfolding value_of int_wrap
difference = refl

less : IsWorth (Bin operators.Clt (Arg 3) (number (pos 5))) (Some (values.Int (pos 1)))
unfolding value_of
less = refl

turned : IsWorth (Un unary.Not (number (pos 0))) (Some (values.Int (negsuc 0)))
unfolding value_of
turned = refl

array_is_not_null : IsWorth (Bin operators.CgtUn (Arg 0) Null) (Some (values.Int (pos 1)))
unfolding value_of
array_is_not_null = refl

array_is_no_summand : IsWorth (Bin operators.Add (Arg 0) (number (pos 1))) None
unfolding value_of
array_is_no_summand = refl

divided_by_zero : IsWorth (Bin operators.Div (Arg 3) (number (pos 0))) None
unfolding value_of
divided_by_zero = refl

-- ---- clauses

abbrev ensures : Term → Clause
ensures tree = record { kind = Ensures; tree = tree }

abbrev requires : Term → Clause
requires tree = record { kind = Requires; tree = tree }

fault_is_false : clause_holds reading (ensures (Bin operators.Div (Arg 3) (number (pos 0)))) ≡ false
unfolding value_of
fault_is_false = refl

minus_one_is_true : clause_holds reading (ensures (number (negsuc 0))) ≡ true
unfolding value_of
minus_one_is_true = refl

zero_is_false : clause_holds reading (ensures (number (pos 0))) ≡ false
unfolding value_of
zero_is_false = refl

reference_is_not_true : clause_holds reading (ensures (Arg 0)) ≡ false
unfolding value_of
reference_is_not_true = refl

-- The second of the Ensures is the first that is false, whatever Requires stand between.
second_ensures : false_ensures (ensures (number (pos 1)) ∷ requires (number (pos 0)) ∷ ensures (number (pos 0)) ∷ ensures (number (pos 0)) ∷ []) reading ≡ Some 2
unfolding value_of
second_ensures = refl

first_requires : false_requires (ensures (number (pos 0)) ∷ requires (number (pos 0)) ∷ []) [] [] ≡ Some 1
unfolding value_of
first_requires = refl

-- A Requires has no result.
no_result : false_requires (requires (Bin operators.Ceq Result Result) ∷ []) [] [] ≡ Some 1
unfolding value_of
no_result = refl

all_hold : false_ensures (requires (number (pos 0)) ∷ ensures (number (pos 1)) ∷ []) reading ≡ None
unfolding value_of
all_hold = refl
