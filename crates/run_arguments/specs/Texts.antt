-- The text of an argument: what is written for it as a word.
use Rattle.std.specs.Prelude.{◌≡◌, ◌≢◌, ℕ, ◌^◌, ◌<◌, ℤ, pos, Bool, true, false, ◌&&◌, List, [], ◌∷◌, ◌++◌, map, if◌then◌else◌, codes, decimal, FitsSigned}
use Rattle.std.specs.Fmt.{signed_decimal}
use Rattle.std.specs.Int.{w32}
use Rattle.std.specs.List.{AllByRecursion, join_with_byte}
use Rattle.std.specs.Ordering.{int_eq}
use Rattle.cil_model.specs.declared.place.Place.{Place}
use Rattle.cil_model.specs.declared.place.Place.TheVariants as places
use Rattle.cil_model.specs.declared.arg.Arg.{Arg}
use Rattle.cil_model.specs.declared.arg.Arg.TheVariants as args

abbrev pub bool_text : Bool → List ℕ
bool_text true = codes "true"
bool_text false = codes "false"

-- Items in brackets, with commas between them.
abbrev pub list_text : List (List ℕ) → List ℕ
list_text items = 91 ∷ (join_with_byte 44 items ++ 93 ∷ [])

-- ---- items by their type

-- The type is bool, or that of arrays of bool.
abbrev pub is_of_bools : Place → Bool
is_of_bools places.Bool = true
is_of_bools places.Bools = true
is_of_bools _ = false

-- A number of this type, or in an array of it. As a bool, 0 and 1 have names.
abbrev pub number_text : Place → ℤ → List ℕ
number_text place n =
    if is_of_bools place && int_eq n (pos 0) then codes "false"
    else if is_of_bools place && int_eq n (pos 1) then codes "true"
    else signed_decimal n

-- A number after a comma.
abbrev pub next_item : Place → ℤ → List ℕ
next_item place n = codes "," ++ number_text place n

abbrev pub items_text : Place → List ℤ → List ℕ
items_text place items = list_text (map (number_text place) items)

-- ---- arguments

abbrev pub text_of : Arg → List ℕ
text_of (args.Int n) = signed_decimal n
text_of (args.Bool b) = bool_text b
text_of args.Null = codes "null"
text_of (args.Ints ns) = list_text (map signed_decimal ns)
text_of (args.Bools bs) = list_text (map bool_text bs)
text_of (args.Same k) = 64 ∷ decimal k

-- The numbers of an argument are int32, and that of an earlier argument is below 2^32.
abbrev pub IsInRange : Arg → Type 0
IsInRange (args.Int n) = FitsSigned w32 n
IsInRange (args.Ints ns) = AllByRecursion (FitsSigned w32) ns
IsInRange (args.Same k) = k < 2 ^ 32
IsInRange _ = Unit {0}

-- Where `[]` is read for a parameter of this type, it is this list, if it is one without items.
abbrev pub IsReadFor : Place → Arg → Type 0
IsReadFor place (args.Ints items) = place ≢ places.Bools
IsReadFor place (args.Bools items) = place ≡ places.Bools
IsReadFor place _ = Unit {0}
