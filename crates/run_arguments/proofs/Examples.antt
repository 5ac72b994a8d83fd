-- Words worked out by hand, on both sides of each limit.
use Rattle.std.proofs.Common.{◌≡◌, pos, negsuc, true, false, [], ◌∷◌, Some, None, is_some, map, codes, refl}
use Rattle.std.specs.Fmt.{digits}
use Rattle.std.specs.List.{list_any}
use Rattle.cil_model.specs.declared.place.Place.TheVariants as places
use Rattle.cil_model.specs.declared.arg.Arg.TheVariants as args
use Rattle.run_arguments.specs.Numbers.{number_of_word, int_of_word}
use Rattle.run_arguments.specs.Arguments.{is_int, argument_of, is_argument}

-- ---- numbers

numbers : map (number_of_word 4294967295) (codes "0" ∷ codes "10" ∷ codes "4294967295" ∷ []) ≡ Some 0 ∷ Some 10 ∷ Some 4294967295 ∷ []
unfolding digits number_of_word
numbers = refl

no_numbers : list_any (λ word. is_some (number_of_word 4294967295 word))
    (codes "4294967296" ∷ codes "" ∷ codes "00" ∷ codes "03" ∷ codes "+1" ∷ codes "-1" ∷ codes " 1" ∷ codes "1x" ∷ []) ≡ false
unfolding digits number_of_word
no_numbers = refl

no_more_than_most : map (number_of_word 1000000000) (codes "1000000000" ∷ codes "1000000001" ∷ []) ≡ Some 1000000000 ∷ None ∷ []
unfolding digits number_of_word
no_more_than_most = refl

ints : map int_of_word (codes "0" ∷ codes "2147483647" ∷ codes "-1" ∷ codes "-2147483648" ∷ [])
    ≡ Some (pos 0) ∷ Some (pos 2147483647) ∷ Some (negsuc 0) ∷ Some (negsuc 2147483647) ∷ []
unfolding digits int_of_word
ints = refl

no_ints : list_any is_int
    (codes "2147483648" ∷ codes "-2147483649" ∷ codes "-0" ∷ codes "00" ∷ codes "-01" ∷ codes "-" ∷ codes "+1" ∷ codes "" ∷ codes "--1" ∷ []) ≡ false
unfolding digits int_of_word
no_ints = refl

-- ---- arguments

single : map (argument_of places.Ints) (codes "-5" ∷ codes "true" ∷ codes "false" ∷ codes "null" ∷ codes "@0" ∷ codes "@4294967295" ∷ [])
    ≡ Some (args.Int (negsuc 4)) ∷ Some (args.Bool true) ∷ Some (args.Bool false) ∷ Some args.Null ∷ Some (args.Same 0)
    ∷ Some (args.Same 4294967295) ∷ []
unfolding digits number_of_word int_of_word argument_of
single = refl

lists : map (argument_of places.Ints) (codes "[]" ∷ codes "[1]" ∷ codes "[-2147483648,0]" ∷ codes "[true,false]" ∷ [])
    ≡ Some (args.Ints []) ∷ Some (args.Ints (pos 1 ∷ [])) ∷ Some (args.Ints (negsuc 2147483647 ∷ pos 0 ∷ [])) ∷ Some (args.Bools (true ∷ false ∷ [])) ∷ []
unfolding digits number_of_word int_of_word argument_of
lists = refl

-- Only the list without items depends on the type that is asked.
lists_of_bool : map (argument_of places.Bools) (codes "[]" ∷ codes "[1]" ∷ codes "[true]" ∷ [])
    ≡ Some (args.Bools []) ∷ Some (args.Ints (pos 1 ∷ [])) ∷ Some (args.Bools (true ∷ [])) ∷ []
unfolding digits number_of_word int_of_word argument_of
lists_of_bool = refl

no_lists : list_any is_argument
    (codes "[1,]" ∷ codes "[,1]" ∷ codes "[,]" ∷ codes "[1,true]" ∷ codes "[true,1]" ∷ codes "[ 1]" ∷ codes "[1, 2]" ∷ codes "[null]"
    ∷ codes "[[]]" ∷ codes "[2147483648]" ∷ codes "[-0]" ∷ codes "[" ∷ codes "]" ∷ codes "[1" ∷ []) ≡ false
unfolding digits number_of_word int_of_word argument_of is_argument
no_lists = refl

no_arguments : list_any is_argument
    (codes "@00" ∷ codes "@4294967296" ∷ codes "@" ∷ codes "@-1" ∷ codes "nul" ∷ codes "nulls" ∷ codes "True" ∷ codes ""
    ∷ codes "2147483648" ∷ codes "--steps" ∷ []) ≡ false
unfolding digits number_of_word int_of_word argument_of is_argument
no_arguments = refl
