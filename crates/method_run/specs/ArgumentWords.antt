-- The arguments that words are, for the parameters of a method.
use Rattle.std.specs.Prelude.{ℕ, List, [], ◌∷◌, drop, Option, Some, None}
use Rattle.cil_model.specs.declared.place.Place.{Place}
use Rattle.cil_model.specs.declared.place.Place.TheVariants as places
use Rattle.cil_model.specs.declared.arg.Arg.{Arg}
use Rattle.run_arguments.specs.Arguments.{argument_of}

-- The type of the first of these parameters. Where there is none left, a word is read for any type.
abbrev pub first_place : List Place → Place
first_place [] = places.Ints
first_place (place ∷ others) = place

abbrev pub with_argument : Option Arg → List Arg → List Arg
with_argument None others = others
with_argument (Some arg) others = arg ∷ others

-- Each word, read for the parameter of its place in the row.
abbrev pub arguments_of : List Place → List (List ℕ) → List Arg
arguments_of types [] = []
arguments_of types (word ∷ words) = with_argument (argument_of (first_place types) word) (arguments_of (drop 1 types) words)
