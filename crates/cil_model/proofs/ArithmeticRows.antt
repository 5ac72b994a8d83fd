-- What operators give of some numbers.
use Rattle.std.proofs.Common.{◌≡◌, ◌∷◌, [], pos, negsuc, true, false, Some, None, Ok, Err, refl}
use Rattle.std.specs.Int.{int_wrap}
use Rattle.cil_model.specs.Arithmetic.{LEAST, GREATEST, operated, operated_one}
use Rattle.cil_model.specs.Comparisons.{comparison_value, compares_values}
use Rattle.cil_model.specs.Effects.{item_of}
use Rattle.cil_model.specs.Values.{Heap, put}
use Rattle.cil_model.specs.declared.instruction.BinOp.TheVariants as operators
use Rattle.cil_model.specs.declared.instruction.CmpOp.TheVariants as comparisons
use Rattle.cil_model.specs.declared.instruction.UnOp.TheVariants as unary
use Rattle.cil_model.specs.declared.machine.FaultKind.TheVariants as faults
use Rattle.cil_model.specs.declared.machine.Value.TheVariants as values
use Rattle.cil_model.specs.declared.place.Place.TheVariants as places

-- ---- sums and products

sum_wraps : operated operators.Add GREATEST (pos 1) ≡ Ok LEAST
unfolding int_wrap
sum_wraps = refl

difference_wraps : operated operators.Sub LEAST (pos 1) ≡ Ok GREATEST
unfolding int_wrap
difference_wraps = refl

product_wraps : operated operators.Mul (pos 65536) (pos 65536) ≡ Ok (pos 0)
unfolding int_wrap
product_wraps = refl

sum_overflows : operated operators.AddOvf GREATEST (pos 1) ≡ Err faults.Overflow
sum_overflows = refl

difference_is_exact : operated operators.SubOvf LEAST (negsuc 0) ≡ Ok (negsuc 2147483646)
difference_is_exact = refl

product_overflows : operated operators.MulOvf LEAST (negsuc 0) ≡ Err faults.Overflow
product_overflows = refl

least_is_its_negative : operated_one unary.Neg LEAST ≡ LEAST
unfolding int_wrap
least_is_its_negative = refl

bits_turned : operated_one unary.Not LEAST ≡ GREATEST
bits_turned = refl

-- ---- quotients and remainders

quotient_is_cut : operated operators.Div (negsuc 6) (pos 2) ≡ Ok (negsuc 2)
quotient_is_cut = refl

remainder_has_the_sign : operated operators.Rem (negsuc 6) (pos 2) ≡ Ok (negsuc 0)
remainder_has_the_sign = refl

zero_divides_nothing : operated operators.Div LEAST (pos 0) ≡ Err faults.DivZero
zero_divides_nothing = refl

quotient_overflows : operated operators.Div LEAST (negsuc 0) ≡ Err faults.DivOverflow
quotient_overflows = refl

remainder_overflows : operated operators.Rem LEAST (negsuc 0) ≡ Err faults.DivOverflow
remainder_overflows = refl

quotient_without_sign : operated operators.DivUn (negsuc 0) (pos 2) ≡ Ok GREATEST
quotient_without_sign = refl

remainder_without_sign : operated operators.RemUn (negsuc 0) (pos 10) ≡ Ok (pos 5)
remainder_without_sign = refl

quotient_by_minus_one_without_sign : operated operators.DivUn LEAST (negsuc 0) ≡ Ok (pos 0)
quotient_by_minus_one_without_sign = refl

-- ---- bits

bits_of_both : operated operators.And (negsuc 0) (pos 12) ≡ Ok (pos 12)
bits_of_both = refl

bits_of_either : operated operators.Or LEAST (pos 1) ≡ Ok (negsuc 2147483646)
bits_of_either = refl

bits_of_one : operated operators.Xor (negsuc 0) (pos 1) ≡ Ok (negsuc 1)
bits_of_one = refl

shifted_to_the_sign : operated operators.Shl (pos 3) (pos 31) ≡ Ok LEAST
unfolding int_wrap
shifted_to_the_sign = refl

shift_is_too_far : operated operators.Shl (pos 1) (pos 32) ≡ Err faults.Shift
shift_is_too_far = refl

shift_is_negative : operated operators.Shr (pos 1) (negsuc 0) ≡ Err faults.Shift
shift_is_negative = refl

shift_is_beyond_all : operated operators.ShrUn (pos 1) GREATEST ≡ Err faults.Shift
shift_is_beyond_all = refl

shifted_with_sign : operated operators.Shr (negsuc 4) (pos 1) ≡ Ok (negsuc 2)
shifted_with_sign = refl

shifted_without_sign : operated operators.ShrUn (negsuc 0) (pos 31) ≡ Ok (pos 1)
shifted_without_sign = refl

-- ---- comparisons

less_with_sign : operated operators.Clt (negsuc 0) (pos 0) ≡ Ok (pos 1)
less_with_sign = refl

less_without_sign : operated operators.CltUn (negsuc 0) (pos 0) ≡ Ok (pos 0)
less_without_sign = refl

length_is_compared : comparison_value comparisons.Gt (values.Native 3) (values.Int (pos 2)) ≡ Some (values.Int (pos 1))
length_is_compared = refl

array_is_above_null : comparison_value comparisons.GtUn (values.Array 0) values.Null ≡ Some (values.Int (pos 1))
array_is_above_null = refl

null_is_above_nothing : comparison_value comparisons.GtUn values.Null (values.Array 0) ≡ None
null_is_above_nothing = refl

branch_asks_no_such_thing : compares_values comparisons.GtUn (values.Array 0) values.Null ≡ None
branch_asks_no_such_thing = refl

one_array_is_itself : compares_values comparisons.NeUn (values.Array 1) (values.Array 1) ≡ Some false
one_array_is_itself = refl

null_is_null : compares_values comparisons.Eq values.Null values.Null ≡ Some true
null_is_null = refl

-- ---- places

abbrev heap : Heap
heap = record { place = places.Bools; items = pos 7 ∷ [] } ∷ []

bool_keeps_low_bits : put heap places.Bool (values.Int (negsuc 0)) ≡ Some (values.Int (pos 255))
bool_keeps_low_bits = refl

bool_item_keeps_low_bits : item_of places.Bools (pos 257) ≡ pos 1
bool_item_keeps_low_bits = refl

array_of_its_type : put heap places.Bools (values.Array 0) ≡ Some (values.Array 0)
array_of_its_type = refl

array_of_another_type : put heap places.Ints (values.Array 0) ≡ None
array_of_another_type = refl

length_has_no_place : put heap places.Int (values.Native 1) ≡ None
length_has_no_place = refl
