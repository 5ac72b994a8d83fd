-- What comparisons give of equal numbers, of numbers around 0 and of references, and what is taken for true.
use Rattle.std.proofs.Common.{◌≡◌, pos, negsuc, true, false, Some, None, refl}
use Rattle.cil_model.specs.Arithmetic.{compares}
use Rattle.cil_model.specs.Comparisons.{comparison_value, compares_values, is_true}
use Rattle.cil_model.specs.declared.instruction.CmpOp.TheVariants.{Eq, Ge, Gt, Le, Lt, NeUn, GeUn, GtUn, LeUn, LtUn}
use Rattle.cil_model.specs.declared.machine.Value.TheVariants.{Int, Native, Null, Array, Text}

-- ---- with sign

equal_is_equal : compares Eq (pos 2) (pos 2) ≡ true
equal_is_equal = refl

others_are_not_equal : compares Eq (pos 2) (negsuc 1) ≡ false
others_are_not_equal = refl

equal_is_at_least : compares Ge (pos 2) (pos 2) ≡ true
equal_is_at_least = refl

zero_is_at_least_minus_one : compares Ge (pos 0) (negsuc 0) ≡ true
zero_is_at_least_minus_one = refl

minus_one_is_not_at_least_0 : compares Ge (negsuc 0) (pos 0) ≡ false
minus_one_is_not_at_least_0 = refl

equal_is_not_greater : compares Gt (pos 2) (pos 2) ≡ false
equal_is_not_greater = refl

minus_one_is_not_greater_than_0 : compares Gt (negsuc 0) (pos 0) ≡ false
minus_one_is_not_greater_than_0 = refl

zero_is_greater_than_minus_one : compares Gt (pos 0) (negsuc 0) ≡ true
zero_is_greater_than_minus_one = refl

equal_is_at_most : compares Le (pos 2) (pos 2) ≡ true
equal_is_at_most = refl

minus_one_is_at_most_0 : compares Le (negsuc 0) (pos 0) ≡ true
minus_one_is_at_most_0 = refl

zero_is_not_at_most_minus_one : compares Le (pos 0) (negsuc 0) ≡ false
zero_is_not_at_most_minus_one = refl

equal_is_not_less : compares Lt (pos 2) (pos 2) ≡ false
equal_is_not_less = refl

zero_is_not_less_than_minus_one : compares Lt (pos 0) (negsuc 0) ≡ false
zero_is_not_less_than_minus_one = refl

minus_one_is_less_than_0 : compares Lt (negsuc 0) (pos 0) ≡ true
minus_one_is_less_than_0 = refl

-- ---- without sign: -1 is 2^32 - 1

equal_does_not_differ : compares NeUn (pos 2) (pos 2) ≡ false
equal_does_not_differ = refl

minus_one_differs_from_1 : compares NeUn (negsuc 0) (pos 1) ≡ true
minus_one_differs_from_1 = refl

equal_is_at_least_without_sign : compares GeUn (pos 2) (pos 2) ≡ true
equal_is_at_least_without_sign = refl

minus_one_is_at_least_0_without_sign : compares GeUn (negsuc 0) (pos 0) ≡ true
minus_one_is_at_least_0_without_sign = refl

zero_is_not_at_least_minus_one_without_sign : compares GeUn (pos 0) (negsuc 0) ≡ false
zero_is_not_at_least_minus_one_without_sign = refl

equal_is_at_most_without_sign : compares LeUn (pos 2) (pos 2) ≡ true
equal_is_at_most_without_sign = refl

zero_is_at_most_minus_one_without_sign : compares LeUn (pos 0) (negsuc 0) ≡ true
zero_is_at_most_minus_one_without_sign = refl

minus_one_is_not_at_most_0_without_sign : compares LeUn (negsuc 0) (pos 0) ≡ false
minus_one_is_not_at_most_0_without_sign = refl

equal_is_not_greater_without_sign : compares GtUn (pos 2) (pos 2) ≡ false
equal_is_not_greater_without_sign = refl

zero_is_not_greater_than_minus_one_without_sign : compares GtUn (pos 0) (negsuc 0) ≡ false
zero_is_not_greater_than_minus_one_without_sign = refl

minus_one_is_greater_than_0_without_sign : compares GtUn (negsuc 0) (pos 0) ≡ true
minus_one_is_greater_than_0_without_sign = refl

equal_is_not_less_without_sign : compares LtUn (pos 2) (pos 2) ≡ false
equal_is_not_less_without_sign = refl

minus_one_is_not_less_than_0_without_sign : compares LtUn (negsuc 0) (pos 0) ≡ false
minus_one_is_not_less_than_0_without_sign = refl

zero_is_less_than_minus_one_without_sign : compares LtUn (pos 0) (negsuc 0) ≡ true
zero_is_less_than_minus_one_without_sign = refl

-- ---- lengths and references

length_is_its_number : compares_values Eq (Native 3) (Int (pos 3)) ≡ Some true
length_is_its_number = refl

minus_one_is_above_a_length_without_sign : compares_values GtUn (Int (negsuc 0)) (Native 3) ≡ Some true
minus_one_is_above_a_length_without_sign = refl

null_equals_null : comparison_value Eq Null Null ≡ Some (Int (pos 1))
null_equals_null = refl

array_equals_no_null : comparison_value Eq (Array 0) Null ≡ Some (Int (pos 0))
array_equals_no_null = refl

null_equals_no_array : comparison_value Eq Null (Array 0) ≡ Some (Int (pos 0))
null_equals_no_array = refl

array_equals_itself : comparison_value Eq (Array 1) (Array 1) ≡ Some (Int (pos 1))
array_equals_itself = refl

array_equals_no_other : comparison_value Eq (Array 0) (Array 1) ≡ Some (Int (pos 0))
array_equals_no_other = refl

null_is_not_above_null : comparison_value GtUn Null Null ≡ Some (Int (pos 0))
null_is_not_above_null = refl

other_arrays_differ : compares_values NeUn (Array 0) (Array 1) ≡ Some true
other_arrays_differ = refl

arrays_have_no_order : comparison_value Gt (Array 1) (Array 0) ≡ None
arrays_have_no_order = refl

array_is_no_number : comparison_value Eq (Array 0) (Int (pos 0)) ≡ None
array_is_no_number = refl

-- ---- what is taken for true

zero_is_not_true : is_true (Int (pos 0)) ≡ Some false
zero_is_not_true = refl

minus_one_is_true : is_true (Int (negsuc 0)) ≡ Some true
minus_one_is_true = refl

no_length_is_not_true : is_true (Native 0) ≡ Some false
no_length_is_not_true = refl

length_is_true : is_true (Native 3) ≡ Some true
length_is_true = refl

null_is_not_true : is_true Null ≡ Some false
null_is_not_true = refl

-- The first array too, whose number is 0.
array_is_true : is_true (Array 0) ≡ Some true
array_is_true = refl

text_is_not_tested : is_true Text ≡ None
text_is_not_tested = refl
