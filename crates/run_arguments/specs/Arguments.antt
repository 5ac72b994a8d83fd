-- The arguments of a run, as words.
use Rattle.std.specs.Prelude.{ℕ, ◌-◌, Bool, true, false, ◌&&◌, ◌==◌, List, [], ◌∷◌, length, take, slice_index, Option, Some, None, is_some, option_map, option_and_then, filter_map, codes, if◌then◌else◌}
use Rattle.std.specs.List.{slice_split, list_all}
use Rattle.std.specs.Option.{option_or}
use Rattle.std.specs.Str.{bytes_eq}
use Rattle.cil_model.specs.Values.{same_place}
use Rattle.cil_model.specs.declared.place.Place.{Place}
use Rattle.cil_model.specs.declared.place.Place.TheVariants as places
use Rattle.cil_model.specs.declared.arg.Arg.{Arg}
use Rattle.cil_model.specs.declared.arg.Arg.TheVariants as args
use Rattle.run_arguments.specs.Numbers.{number_of_word, int_of_word}

-- ---- single values

-- The truth value that a word names.
abbrev pub bool_of_word : List ℕ → Option Bool
bool_of_word word =
    if bytes_eq word (codes "true") then Some true
    else if bytes_eq word (codes "false") then Some false
    else None

abbrev pub is_int : List ℕ → Bool
is_int word = is_some (int_of_word word)

abbrev pub is_bool : List ℕ → Bool
is_bool word = is_some (bool_of_word word)

-- The number after an at sign: that of an earlier argument.
abbrev pub earlier_of_word : List ℕ → Option ℕ
earlier_of_word [] = None
earlier_of_word (c ∷ cs) = if c == 64 then number_of_word 4294967295 cs else None

-- ---- lists

-- What stands between the brackets of a word.
abbrev pub between_brackets : List ℕ → Option (List ℕ)
between_brackets [] = None
between_brackets (c ∷ cs) =
    if c == 91 && slice_index cs (length cs - 1) == 93 then Some (take (length cs - 1) cs) else None

-- The items of a list, with commas between them.
abbrev pub items_of : List ℕ → List (List ℕ)
items_of text = slice_split (λ c. c == 44) text

-- The list without items: one of bool for a parameter of that type, and else one of int32.
abbrev pub empty_of : Place → Arg
empty_of place = if same_place place places.Bools then args.Bools [] else args.Ints []

-- The list of these items, which are all int32 or all truth values.
abbrev pub list_of_items : List (List ℕ) → Option Arg
list_of_items items =
    if list_all is_int items then Some (args.Ints (filter_map int_of_word items))
    else if list_all is_bool items then Some (args.Bools (filter_map bool_of_word items))
    else None

-- The list that stands between brackets.
abbrev pub list_of : Place → List ℕ → Option Arg
list_of place [] = Some (empty_of place)
list_of place text = list_of_items (items_of text)

-- ---- arguments

abbrev pub null_of_word : List ℕ → Option Arg
null_of_word word = if bytes_eq word (codes "null") then Some args.Null else None

-- The argument that a word is for a parameter of this type, if it is one. The forms exclude each other.
unfoldable pub argument_of : Place → List ℕ → Option Arg
argument_of place word =
    option_or (option_map args.Int (int_of_word word))
    (option_or (option_map args.Bool (bool_of_word word))
    (option_or (option_map args.Same (earlier_of_word word))
    (option_or (null_of_word word)
    (option_and_then (list_of place) (between_brackets word)))))

-- Whether a word is an argument. The parameter's type does not matter: it tells only which list has no items.
unfoldable pub is_argument : List ℕ → Bool
is_argument word = is_some (argument_of places.Ints word)
