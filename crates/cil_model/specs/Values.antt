-- The machine's values and heaps, and the places that hold values (ECMA-335 I.12.3.2).
use Rattle.std.specs.Prelude.{◌≡◌, ℕ, ◌^◌, ◌<◌, ℤ, pos, ◌≤ℤ◌, ◌<ℤ◌, Bool, true, false, ◌==◌, nat_lt, List, [], ◌∷◌, length, Option, Some, None, slice_get, FitsSigned, if◌then◌else◌}
use Rattle.std.specs.Option.{option_map_or}
use Rattle.std.specs.List.{AllByRecursion}
use Rattle.std.specs.Int.{w32, int_rem_euclid}
use Rattle.cil_model.specs.Places.{place_number}
use Rattle.cil_model.specs.declared.machine.ArrayCell.{ArrayCell}
use Rattle.cil_model.specs.declared.machine.Value.{Value}
use Rattle.cil_model.specs.declared.machine.Value.TheVariants as values
use Rattle.cil_model.specs.declared.place.Place.{Place}
use Rattle.cil_model.specs.declared.place.Place.TheVariants as places

-- The arrays, in the order in which they were made.
abbrev pub Heap : Type 0
Heap = List ArrayCell

-- The number is one of bool.
abbrev pub IsByte : ℤ → Type 0
IsByte n = (pos 0 ≤ℤ n) × (n <ℤ pos 256)

-- What the items of an array of this type may be. Other types are none of arrays.
abbrev pub FitItems : Place → List ℤ → Type 0
FitItems places.Bools items = AllByRecursion IsByte items
FitItems places.Ints items = AllByRecursion (FitsSigned w32) items
FitItems _ items = ⊥

abbrev pub IsArray : ArrayCell → Type 0
IsArray cell = FitItems cell.place cell.items × (length cell.items < 2 ^ 31)

abbrev pub IsHeap : Heap → Type 0
IsHeap heap = AllByRecursion IsArray heap

-- Each array of a heap keeps its type and its length. New arrays may follow.
abbrev pub KeepsForms : Heap → Heap → Type 0
KeepsForms [] new = Unit {0}
KeepsForms (cell ∷ cells) [] = ⊥
KeepsForms (cell ∷ cells) (kept ∷ others) =
    (kept.place ≡ cell.place) × (length kept.items ≡ length cell.items) × KeepsForms cells others

-- Two places are the same.
abbrev pub same_place : Place → Place → Bool
same_place a b = place_number a == place_number b

-- The heap has an array of this type there.
abbrev pub has_array : Heap → Place → ℕ → Bool
has_array heap place i = option_map_or (λ cell. same_place cell.place place) (slice_get heap i) false

-- The array there has an item of this index.
abbrev pub has_item : Heap → ℕ → ℕ → Bool
has_item heap a n = option_map_or (λ cell. nat_lt n (length cell.items)) (slice_get heap a) false

-- The array there is of this type, and has the item.
abbrev pub HasItemOf : Heap → Place → ℕ → ℕ → Type 0
HasItemOf heap place a n = (has_array heap place a ≡ true) × (has_item heap a n ≡ true)

-- A value as it is put into a place: a bool place keeps its low eight bits, and a place of arrays takes null
-- and arrays of its type. None where the value has not the form of the place.
abbrev pub put : Heap → Place → Value → Option Value
put heap places.Bool (values.Int n) = Some (values.Int (int_rem_euclid n (pos 256)))
put heap places.Int (values.Int n) = Some (values.Int n)
put heap places.Bools values.Null = Some values.Null
put heap places.Bools (values.Array i) = if has_array heap places.Bools i then Some (values.Array i) else None
put heap places.Ints values.Null = Some values.Null
put heap places.Ints (values.Array i) = if has_array heap places.Ints i then Some (values.Array i) else None
put heap _ _ = None

-- Values as they are put into places, one for each.
abbrev pub with_first : Option Value → Option (List Value) → Option (List Value)
with_first (Some value) (Some others) = Some (value ∷ others)
with_first _ _ = None

abbrev pub put_all : Heap → List Place → List Value → Option (List Value)
put_all heap [] [] = Some []
put_all heap (place ∷ places) (value ∷ values) = with_first (put heap place value) (put_all heap places values)
put_all heap _ _ = None

-- A place of this type may hold the value, over this heap.
abbrev pub FitsPlace : Heap → Place → Value → Type 0
FitsPlace heap places.Bool (values.Int n) = IsByte n
FitsPlace heap places.Int (values.Int n) = FitsSigned w32 n
FitsPlace heap places.Bools values.Null = Unit {0}
FitsPlace heap places.Bools (values.Array i) = has_array heap places.Bools i ≡ true
FitsPlace heap places.Ints values.Null = Unit {0}
FitsPlace heap places.Ints (values.Array i) = has_array heap places.Ints i ≡ true
FitsPlace heap _ _ = ⊥

-- Places of these types, in order, may hold the values.
abbrev pub FitPlaces : Heap → List Place → List Value → Type 0
FitPlaces heap [] [] = Unit {0}
FitPlaces heap (place ∷ places) (value ∷ values) = FitsPlace heap place value × FitPlaces heap places values
FitPlaces heap _ _ = ⊥

-- What a local holds before it is stored to.
abbrev pub zero_of : Place → Value
zero_of places.Bools = values.Null
zero_of places.Ints = values.Null
zero_of _ = values.Int (pos 0)

-- A value that may stand on a stack, over this heap.
abbrev pub IsValue : Heap → Value → Type 0
IsValue heap (values.Int n) = FitsSigned w32 n
IsValue heap (values.Native n) = n < 2 ^ 31
IsValue heap values.Null = Unit {0}
IsValue heap (values.Array i) = i < length heap
IsValue heap (values.Addr a n) = has_item heap a n ≡ true
IsValue heap values.Text = Unit {0}
