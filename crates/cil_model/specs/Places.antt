-- Types of variables: their printed names, and the numbers that stand for them in files.
use Rattle.std.specs.Prelude.{ℕ, List, [], ◌∷◌, ◌++◌, Option, Some, None, ◌==◌, if◌then◌else◌, codes}
use Rattle.std.specs.List.{flat_map}
use Rattle.cil_model.specs.declared.place.Place.{Place}
use Rattle.cil_model.specs.declared.place.Place.TheVariants as places

abbrev pub place_text : Place → List ℕ
place_text places.Void = codes "void"
place_text places.Bool = codes "bool"
place_text places.Int = codes "int32"
place_text places.Bools = codes "bool[]"
place_text places.Ints = codes "int32[]"

abbrev pub place_number : Place → ℕ
place_number places.Void = 0
place_number places.Bool = 1
place_number places.Int = 2
place_number places.Bools = 3
place_number places.Ints = 4

abbrev pub place_of_number : ℕ → Option Place
place_of_number number =
    if number == 0 then Some places.Void
    else (if number == 1 then Some places.Bool
    else (if number == 2 then Some places.Int
    else (if number == 3 then Some places.Bools
    else (if number == 4 then Some places.Ints
    else None))))

abbrev pub next_parameter : Place → List ℕ
next_parameter place = codes "," ++ place_text place

-- The types of parameters, with commas between.
abbrev pub parameters_text : List Place → List ℕ
parameters_text [] = []
parameters_text (place ∷ others) = place_text place ++ flat_map next_parameter others
