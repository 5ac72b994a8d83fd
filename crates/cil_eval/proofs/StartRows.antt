-- Starts by hand: arguments that are one array, and arguments that do not fit.
use Rattle.std.proofs.Common.{◌≡◌, pos, true, false, [], ◌∷◌, refl}
use Rattle.cil_model.specs.declared.machine.Value.TheVariants as values
use Rattle.cil_model.specs.declared.place.Place.TheVariants as places
use Rattle.clause_eval.specs.GivenArrays.{heap_of}
use Rattle.cil_eval.specs.Given.{args_fit, values_of}
use Rattle.clause_eval.specs.Stores.{cells_of}
use Rattle.cil_model.specs.declared.arg.Arg.{Arg}
use Rattle.cil_model.specs.declared.arg.Arg.TheVariants as args

abbrev two : Arg
two = args.Ints (pos 1 ∷ pos 2 ∷ [])

-- Same makes no copy, and a new array comes after those before it.
one_array : values_of (two ∷ args.Same 0 ∷ []) ≡ values.Array 0 ∷ values.Array 0 ∷ []
one_array = refl

same_of_same : values_of (two ∷ args.Null ∷ args.Same 0 ∷ two ∷ args.Same 2 ∷ args.Same 1 ∷ [])
    ≡ values.Array 0 ∷ values.Null ∷ values.Array 0 ∷ values.Array 1 ∷ values.Array 0 ∷ values.Null ∷ []
same_of_same = refl

one_in_heap : heap_of (two ∷ args.Same 0 ∷ []) ≡ record { place = places.Ints; items = pos 1 ∷ pos 2 ∷ [] } ∷ []
one_in_heap = refl

-- An array of two items takes three cells, however many arguments it is.
three_cells : cells_of (heap_of (two ∷ args.Same 0 ∷ [])) ≡ 3
three_cells = refl

bools_are_numbers : heap_of (args.Bools (true ∷ false ∷ []) ∷ []) ≡ record { place = places.Bools; items = pos 1 ∷ pos 0 ∷ [] } ∷ []
bools_are_numbers = refl

-- ---- what fits

same_fits : args_fit (places.Ints ∷ places.Ints ∷ []) (two ∷ args.Same 0 ∷ []) ≡ true
same_fits = refl

-- Not itself, not a later argument, and not one of another type.
not_itself : args_fit (places.Ints ∷ []) (args.Same 0 ∷ []) ≡ false
not_itself = refl

not_later : args_fit (places.Ints ∷ places.Ints ∷ []) (args.Same 1 ∷ two ∷ []) ≡ false
not_later = refl

not_of_bools : args_fit (places.Bools ∷ places.Ints ∷ []) (args.Null ∷ args.Same 0 ∷ []) ≡ false
not_of_bools = refl

null_is_no_number : args_fit (places.Int ∷ []) (args.Null ∷ []) ≡ false
null_is_no_number = refl

number_is_no_bool : args_fit (places.Bool ∷ []) (args.Int (pos 1) ∷ []) ≡ false
number_is_no_bool = refl

one_for_each : args_fit (places.Int ∷ places.Int ∷ []) (args.Int (pos 1) ∷ []) ≡ false
one_for_each = refl
