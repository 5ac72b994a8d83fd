-- The argument lists that are left from some choices on.
use Rattle.std.specs.Prelude.{◌≡◌, ℕ, ◌+◌, ◌<◌, nat_lt, if◌then◌else◌, Bool, true, false, List, [], ◌∷◌, ◌++◌, length, map, drop, get_or}
use Rattle.std.specs.List.{AllByRecursion}
use Rattle.cil_model.specs.declared.arg.Arg.{Arg}
use Rattle.cil_model.specs.declared.arg.Arg.TheVariants as args
use Rattle.witness_search.specs.Choices.{choices}
use Rattle.witness_search.specs.declared.choice.Choice.{Choice}

-- One of the values is chosen.
abbrev pub IsMade : Choice → Type 0
IsMade choice = choice.chosen < length choice.values

-- The index of the value after the one that is chosen. After the last value comes the first.
abbrev pub next_of : Choice → ℕ
next_of choice = if nat_lt (choice.chosen + 1) (length choice.values) then choice.chosen + 1 else 0

abbrev pub went_on : Choice → Choice
went_on choice = record choice { chosen = next_of choice }

abbrev pub value_of : Choice → Arg
value_of choice = get_or choice.values choice.chosen args.Null

abbrev pub values_in : Choice → List Arg
values_in choice = choice.values

-- The first of the values is chosen.
abbrev pub begun : List Arg → Choice
begun values = record { values = values; chosen = 0 }

-- The list that is chosen.
abbrev pub chosen_list : List Choice → List Arg
chosen_list all = map value_of all

-- The list that is chosen and those after it.
abbrev pub lists_from : List Choice → List (List Arg)
lists_from [] = [] ∷ []
lists_from (choice ∷ others) =
    map (λ rest. value_of choice ∷ rest) (lists_from others)
    ++ choices (drop (choice.chosen + 1) choice.values ∷ map values_in others)

abbrev pub lists_left : Bool → List Choice → List (List Arg)
lists_left true all = []
lists_left false all = lists_from all

-- A value is chosen for each parameter, and the arguments are these.
pub record AreChosen (all : List Choice) (given : List Arg) : Type 0 where
  pub made : AllByRecursion IsMade all
  pub given_are : given ≡ chosen_list all

-- Whether there is a next list, and that the choices are then at it; else they are at the first list again.
abbrev pub IsNextOf : List Choice → List Choice → Bool → Type 0
IsNextOf old new true = lists_from old ≡ chosen_list old ∷ lists_from new
IsNextOf old new false = (lists_from old ≡ chosen_list old ∷ []) × (lists_from new ≡ choices (map values_in new))
