-- The arrays that the arguments of a run make.
use Rattle.std.specs.Prelude.{ℕ, ◌^◌, ◌<◌, ℤ, pos, Bool, true, false, List, [], ◌∷◌, length, map, Option, Some, None, IfSome, option_map, slice_get, if◌then◌else◌}
use Rattle.std.specs.List.{AllByRecursion}
use Rattle.cil_model.specs.Values.{Heap, same_place}
use Rattle.cil_model.specs.declared.machine.ArrayCell.{ArrayCell}
use Rattle.cil_model.specs.declared.place.Place.{Place}
use Rattle.cil_model.specs.declared.place.Place.TheVariants as places
use Rattle.cil_model.specs.declared.arg.Arg.{Arg}
use Rattle.cil_model.specs.declared.arg.Arg.TheVariants as args

abbrev pub byte_of : Bool → ℤ
byte_of true = pos 1
byte_of false = pos 0

-- The array that an argument makes, if it makes one.
abbrev pub array_of : Arg → Option ArrayCell
array_of (args.Ints items) = Some (record { place = places.Ints; items = items })
array_of (args.Bools items) = Some (record { place = places.Bools; items = map byte_of items })
array_of _ = None

abbrev pub is_array : Arg → Bool
is_array (args.Ints items) = true
is_array (args.Bools items) = true
is_array _ = false

abbrev pub with_cell : Option ArrayCell → Heap → Heap
with_cell None heap = heap
with_cell (Some cell) heap = cell ∷ heap

-- The heap of a run's start.
abbrev pub heap_of : List Arg → Heap
heap_of [] = []
heap_of (arg ∷ others) = with_cell (array_of arg) (heap_of others)

-- How many items the array has that an argument makes.
abbrev pub item_count : Arg → Option ℕ
item_count (args.Ints items) = Some (length items)
item_count (args.Bools items) = Some (length items)
item_count _ = None

-- No list is longer than an array may be.
abbrev pub IsShort : Arg → Type 0
IsShort arg = IfSome (item_count arg) (λ n. n < 2 ^ 31)

abbrev pub AreShort : List Arg → Type 0
AreShort given = AllByRecursion IsShort given

-- The item at an index of an array of this type that an argument makes.
abbrev pub item_of : Place → ℕ → Arg → Option ℤ
item_of place n (args.Ints items) = if same_place places.Ints place then slice_get items n else None
item_of place n (args.Bools items) = if same_place places.Bools place then option_map byte_of (slice_get items n) else None
item_of place n _ = None

-- The array's type and its items, where the argument makes one.
abbrev pub place_of : Arg → Place
place_of (args.Bools items) = places.Bools
place_of _ = places.Ints

abbrev pub items_of : Arg → List ℤ
items_of (args.Ints items) = items
items_of (args.Bools items) = map byte_of items
items_of _ = []
