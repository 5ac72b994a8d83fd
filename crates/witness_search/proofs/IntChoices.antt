-- The numbers in the lists that are tried are int32.
use Rattle.std.proofs.Common.{ℕ, ℤ, ◌+◌, ◌∷◌, ◌++◌, pos, Bool, true, false, List, [], map, take, Option, Some, None, slice_get, if◌then◌else◌, arith}
use Rattle.std.specs.Prelude.{FitsSigned}
use Rattle.std.specs.Int.{w32}
use Rattle.std.specs.List.{AllByRecursion, flat_map}
use Rattle.std.specs.Option.{option_map_or}
use Rattle.std.proofs.lemmas.Int.{ints as integers}
use Rattle.cil_model.specs.Values.{same_place}
use Rattle.cil_model.specs.declared.arg.Arg.{Arg}
use Rattle.cil_model.specs.declared.arg.Arg.TheVariants as args
use Rattle.cil_model.specs.declared.machine.World.{World}
use Rattle.cil_model.specs.declared.place.Place.{Place}
use Rattle.cil_model.specs.declared.place.Place.TheVariants as places
use Rattle.cil_model.specs.declared.unit.Unit.{Unit as MethodUnit}
use Rattle.cil_model.proofs.Lists.{all_append, all_take}
use Rattle.cil_eval.specs.Given.{AreInts, IsInt}
use Rattle.witness_search.specs.Choices.{argument_lists, bool_arrays, choices, int_arrays, ints, same_as_from, values_after, values_of}
use Rattle.witness_search.specs.Searches.{tried_lists}

-- ---- one parameter

ints_are : AreInts (map args.Int ints)
ints_are = (omega (arith, integers), (omega (arith, integers), (omega (arith, integers), (omega (arith, integers), (omega (arith, integers), (omega (arith, integers), (omega (arith, integers), (omega (arith, integers), (omega (arith, integers), tt)))))))))

one_item : (n : ℤ) → FitsSigned w32 n → AllByRecursion (FitsSigned w32) (n ∷ [])
one_item n fits = (fits, tt)

item_more : (n : ℤ) (items : List ℤ) → FitsSigned w32 n → AllByRecursion (FitsSigned w32) items → AllByRecursion (FitsSigned w32) (n ∷ items)
item_more n items fits are = (fits, are)

one_fits : FitsSigned w32 (pos 1)
one_fits = omega (arith, integers)

two_fits : FitsSigned w32 (pos 2)
two_fits = omega (arith, integers)

int_arrays_are : AreInts (map args.Ints int_arrays)
int_arrays_are =
    let two : AllByRecursion (FitsSigned w32) (pos 1 ∷ pos 2 ∷ []) = item_more (pos 1) (pos 2 ∷ []) one_fits (one_item (pos 2) two_fits) in
    (tt, (one_item (pos 0) (omega (arith, integers)), (two, (item_more (pos 3) (pos 1 ∷ pos 2 ∷ []) (omega (arith, integers)) two, tt))))

same_are : (k : ℕ) (place : Place) (earlier : List Place) → AreInts (same_as_from k place earlier)
same_are k place [] = tt
same_are k place (first ∷ earlier) = by (same_place first place) (same_are (k + 1) place earlier)
  where
    by : (same : Bool) → AreInts (same_as_from (k + 1) place earlier) → AreInts (if same then args.Same k ∷ same_as_from (k + 1) place earlier else same_as_from (k + 1) place earlier)
    by true rest = (tt, rest)
    by false rest = rest

values_are : (earlier : List Place) (place : Place) → AreInts (values_of earlier place)
values_are earlier places.Void = tt
values_are earlier places.Int = ints_are
values_are earlier places.Bool = (tt, (tt, tt))
values_are earlier places.Ints = (tt, all_append IsInt (map args.Ints int_arrays) (same_as_from 0 places.Ints earlier) int_arrays_are (same_are 0 places.Ints earlier))
values_are earlier places.Bools = (tt, all_append IsInt (map args.Bools bool_arrays) (same_as_from 0 places.Bools earlier) (tt, (tt, (tt, tt))) (same_are 0 places.Bools earlier))

-- ---- all parameters

all_values_are : (earlier types : List Place) → AllByRecursion AreInts (values_after earlier types)
all_values_are earlier [] = tt
all_values_are earlier (place ∷ types) = (values_are earlier place, all_values_are (earlier ++ place ∷ []) types)

with_value : (value : Arg) (lists : List (List Arg)) → IsInt value → AllByRecursion AreInts lists → AllByRecursion AreInts (map (λ rest. value ∷ rest) lists)
with_value value [] is are = tt
with_value value (list ∷ lists) is are = ((is, are.0), with_value value lists is are.1)

with_values : (values : List Arg) (lists : List (List Arg)) → AreInts values → AllByRecursion AreInts lists
    → AllByRecursion AreInts (flat_map (λ value. map (λ rest. value ∷ rest) lists) values)
with_values [] lists hold are = tt
with_values (value ∷ values) lists hold are =
    all_append AreInts (map (λ rest. value ∷ rest) lists) (flat_map (λ value. map (λ rest. value ∷ rest) lists) values)
    (with_value value lists hold.0 are) (with_values values lists hold.1 are)

choices_are : (all : List (List Arg)) → AllByRecursion AreInts all → AllByRecursion AreInts (choices all)
choices_are [] are = (tt, tt)
choices_are (values ∷ others) are = with_values values (choices others) are.0 (choices_are others are.1)

pub tried_are : (w : World) (index runs : ℕ) → AllByRecursion AreInts (tried_lists w index runs)
tried_are w index runs = by (slice_get w.units index)
  where
    by : (unit : Option MethodUnit) → AllByRecursion AreInts (take runs (option_map_or (λ (unit : MethodUnit). argument_lists unit.args) unit []))
    by None = all_take AreInts runs [] tt
    by (Some unit) = all_take AreInts runs (argument_lists unit.args) (choices_are (values_after [] unit.args) (all_values_are [] unit.args))
