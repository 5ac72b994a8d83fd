-- The argument lists that a method is tried with.
use Rattle.std.specs.Prelude.{ℕ, ◌+◌, ℤ, pos, negsuc, Bool, true, false, List, [], ◌∷◌, ◌++◌, map, if◌then◌else◌}
use Rattle.std.specs.List.{flat_map}
use Rattle.cil_model.specs.Values.{same_place}
use Rattle.cil_model.specs.declared.arg.Arg.{Arg}
use Rattle.cil_model.specs.declared.arg.Arg.TheVariants as args
use Rattle.cil_model.specs.declared.place.Place.{Place}
use Rattle.cil_model.specs.declared.place.Place.TheVariants as places

-- ---- one parameter

-- 0, 1, -1, 2, 3, -2, 10, and the greatest and the least int32.
abbrev pub ints : List ℤ
ints = pos 0 ∷ pos 1 ∷ negsuc 0 ∷ pos 2 ∷ pos 3 ∷ negsuc 1 ∷ pos 10 ∷ pos 2147483647 ∷ negsuc 2147483647 ∷ []

abbrev pub bools : List Bool
bools = false ∷ true ∷ []

abbrev pub int_arrays : List (List ℤ)
int_arrays = [] ∷ (pos 0 ∷ []) ∷ (pos 1 ∷ pos 2 ∷ []) ∷ (pos 3 ∷ pos 1 ∷ pos 2 ∷ []) ∷ []

abbrev pub bool_arrays : List (List Bool)
bool_arrays = [] ∷ (false ∷ []) ∷ (true ∷ false ∷ []) ∷ []

-- What each of these parameters of this type was given, where the first of them has this number.
abbrev pub same_as_from : ℕ → Place → List Place → List Arg
same_as_from k place [] = []
same_as_from k place (earlier ∷ others) =
    if same_place earlier place then args.Same k ∷ same_as_from (k + 1) place others
    else same_as_from (k + 1) place others

-- What each earlier parameter of this type was given, whatever that is.
abbrev pub same_as : Place → List Place → List Arg
same_as place earlier = same_as_from 0 place earlier

-- The values of a parameter of this type, where the earlier parameters have these types.
abbrev pub values_of : List Place → Place → List Arg
values_of earlier places.Void = []
values_of earlier places.Int = map args.Int ints
values_of earlier places.Bool = map args.Bool bools
values_of earlier places.Ints = args.Null ∷ (map args.Ints int_arrays ++ same_as places.Ints earlier)
values_of earlier places.Bools = args.Null ∷ (map args.Bools bool_arrays ++ same_as places.Bools earlier)

-- ---- all parameters

-- The values of each of these parameters, which come after parameters of the earlier types.
abbrev pub values_after : List Place → List Place → List (List Arg)
values_after earlier [] = []
values_after earlier (place ∷ places) = values_of earlier place ∷ values_after (earlier ++ place ∷ []) places

-- All choices of one value from each list. The choice from the last list changes fastest.
abbrev pub choices : List (List Arg) → List (List Arg)
choices [] = [] ∷ []
choices (values ∷ others) = flat_map (λ value. map (λ rest. value ∷ rest) (choices others)) values

-- The argument lists of a method whose parameters have these types: all choices of one value for each parameter.
abbrev pub argument_lists : List Place → List (List Arg)
argument_lists types = choices (values_after [] types)
