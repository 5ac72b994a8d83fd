-- The arguments that runs begin with: their values, and which fit a method.
use Rattle.std.specs.Prelude.{ℕ, ◌+◌, ◌^◌, ◌==◌, nat_lt, Bool, true, false, ◌&&◌, List, [], ◌∷◌, length, reverse, if◌then◌else◌, FitsSigned}
use Rattle.std.specs.Int.{w32}
use Rattle.std.specs.List.{AllByRecursion}
use Rattle.cil_model.specs.Values.{same_place}
use Rattle.cil_model.specs.declared.machine.Value.{Value}
use Rattle.cil_model.specs.declared.machine.Value.TheVariants as values
use Rattle.cil_model.specs.declared.place.Place.{Place}
use Rattle.cil_model.specs.declared.place.Place.TheVariants as places
use Rattle.clause_eval.specs.GivenArrays.{byte_of, is_array}
use Rattle.cil_model.specs.declared.arg.Arg.{Arg}
use Rattle.cil_model.specs.declared.arg.Arg.TheVariants as args

-- ---- values

-- How many arrays arguments make.
abbrev pub array_count : List Arg → ℕ
array_count [] = 0
array_count (arg ∷ others) = if is_array arg then array_count others + 1 else array_count others

-- The value of an argument after so many arrays, where that of an earlier argument is told.
abbrev pub value_by : ℕ → (ℕ → Value) → Arg → Value
value_by arrays earlier (args.Int n) = values.Int n
value_by arrays earlier (args.Bool b) = values.Int (byte_of b)
value_by arrays earlier args.Null = values.Null
value_by arrays earlier (args.Ints items) = values.Array arrays
value_by arrays earlier (args.Bools items) = values.Array arrays
value_by arrays earlier (args.Same k) = earlier k

-- The value of an argument, where the arguments are given from the last on.
abbrev pub value_back : List Arg → ℕ → Value
value_back [] k = values.Null
value_back (arg ∷ earlier) k =
    if length earlier == k then value_by (array_count earlier) (value_back earlier) arg else value_back earlier k

abbrev pub values_back : List Arg → List Value
values_back [] = []
values_back (arg ∷ earlier) = value_by (array_count earlier) (value_back earlier) arg ∷ values_back earlier

-- The values of a run's arguments.
abbrev pub values_of : List Arg → List Value
values_of all = reverse (values_back (reverse all))

-- ---- what fits

abbrev pub is_arrays : Place → Bool
is_arrays places.Ints = true
is_arrays places.Bools = true
is_arrays _ = false

-- The parameter of this number has the place, where parameters are given from the last on.
abbrev pub has_place : List Place → ℕ → Place → Bool
has_place [] k place = false
has_place (last ∷ earlier) k place = if length earlier == k then same_place last place else has_place earlier k place

-- An argument fits its parameter, where the earlier parameters are given from the last on.
abbrev pub arg_fits : List Place → Place → Arg → Bool
arg_fits earlier place (args.Int n) = same_place place places.Int
arg_fits earlier place (args.Bool b) = same_place place places.Bool
arg_fits earlier place args.Null = is_arrays place
arg_fits earlier place (args.Ints items) = same_place place places.Ints && nat_lt (length items) (2 ^ 31)
arg_fits earlier place (args.Bools items) = same_place place places.Bools && nat_lt (length items) (2 ^ 31)
arg_fits earlier place (args.Same k) = is_arrays place && has_place earlier k place

abbrev pub args_fit_back : List Place → List Arg → Bool
args_fit_back [] [] = true
args_fit_back (place ∷ types) (arg ∷ given) = arg_fits types place arg && args_fit_back types given
args_fit_back _ _ = false

-- The arguments fit a method's parameters: there is one for each, of its type.
abbrev pub args_fit : List Place → List Arg → Bool
args_fit types given = args_fit_back (reverse types) (reverse given)

-- The numbers of an argument are int32.
abbrev pub IsInt : Arg → Type 0
IsInt (args.Int n) = FitsSigned w32 n
IsInt (args.Ints items) = AllByRecursion (FitsSigned w32) items
IsInt _ = Unit {0}

abbrev pub AreInts : List Arg → Type 0
AreInts given = AllByRecursion IsInt given
