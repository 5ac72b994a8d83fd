-- What places take and hold, and what values are.
use Rattle.std.proofs.Common.{◌≡◌, false, inl, inr, pos, negsuc, [], ◌∷◌, Some, None, refl, arith}
use Rattle.std.proofs.lemmas.Int.{ints}
use Rattle.cil_model.specs.Calls.{FitsResult, IsPassedOrNew, args_of, result_of}
use Rattle.cil_model.specs.Values.{Heap, FitPlaces, FitsPlace, IsArray, IsValue, has_item, put, put_all, zero_of}
use Rattle.cil_model.specs.declared.machine.Value.TheVariants.{Int, Native, Null, Array, Addr}
use Rattle.cil_model.specs.declared.place.Place.TheVariants as places

-- The array 0 is of int32, and the array 1 is of bool.
abbrev heap : Heap
heap = record { place = places.Ints; items = pos 5 ∷ [] } ∷ record { place = places.Bools; items = pos 1 ∷ [] } ∷ []

-- ---- what is put

bool_takes : put heap places.Bool (Int (pos 513)) ≡ Some (Int (pos 1))
bool_takes = refl

int_takes : put heap places.Int (Int (pos 513)) ≡ Some (Int (pos 513))
int_takes = refl

bools_take_null : put heap places.Bools Null ≡ Some Null
bools_take_null = refl

bools_take_their_array : put heap places.Bools (Array 1) ≡ Some (Array 1)
bools_take_their_array = refl

bools_take_no_other : put heap places.Bools (Array 0) ≡ None
bools_take_no_other = refl

ints_take_null : put heap places.Ints Null ≡ Some Null
ints_take_null = refl

ints_take_their_array : put heap places.Ints (Array 0) ≡ Some (Array 0)
ints_take_their_array = refl

no_array_is_there : put heap places.Ints (Array 2) ≡ None
no_array_is_there = refl

int_takes_no_reference : put heap places.Int Null ≡ None
int_takes_no_reference = refl

bool_takes_no_length : put heap places.Bool (Native 1) ≡ None
bool_takes_no_length = refl

void_takes_nothing : put heap places.Void (Int (pos 0)) ≡ None
void_takes_nothing = refl

ints_take_no_address : put heap places.Ints (Addr 0 0) ≡ None
ints_take_no_address = refl

int_takes_no_address : put heap places.Int (Addr 0 0) ≡ None
int_takes_no_address = refl

-- One for each.
all_are_put : put_all heap (places.Bool ∷ places.Ints ∷ []) (Int (pos 513) ∷ Null ∷ []) ≡ Some (Int (pos 1) ∷ Null ∷ [])
all_are_put = refl

one_is_missing : put_all heap (places.Bool ∷ places.Ints ∷ []) (Int (pos 513) ∷ []) ≡ None
one_is_missing = refl

one_is_too_many : put_all heap (places.Bool ∷ []) (Int (pos 513) ∷ Null ∷ []) ≡ None
one_is_too_many = refl

one_is_not_taken : put_all heap (places.Bool ∷ places.Ints ∷ []) (Int (pos 513) ∷ Array 1 ∷ []) ≡ None
one_is_not_taken = refl

-- ---- locals before they are stored to

bool_is_zero : zero_of places.Bool ≡ Int (pos 0)
bool_is_zero = refl

int_is_zero : zero_of places.Int ≡ Int (pos 0)
int_is_zero = refl

bools_are_null : zero_of places.Bools ≡ Null
bools_are_null = refl

ints_are_null : zero_of places.Ints ≡ Null
ints_are_null = refl

-- ---- what is held

bool_holds_255 : FitsPlace heap places.Bool (Int (pos 255))
bool_holds_255 = (omega (arith, ints), omega (arith, ints))

bool_does_not_hold_256 : FitsPlace heap places.Bool (Int (pos 256)) → ⊥
bool_does_not_hold_256 fits = let high = fits.1 in omega (arith, ints)

bool_does_not_hold_minus_one : FitsPlace heap places.Bool (Int (negsuc 0)) → ⊥
bool_does_not_hold_minus_one fits = let low = fits.0 in omega (arith, ints)

int_holds_the_least : FitsPlace heap places.Int (Int (negsuc 2147483647))
int_holds_the_least = omega (arith, ints)

int_holds_no_more : FitsPlace heap places.Int (Int (pos 2147483648)) → ⊥
int_holds_no_more fits = omega (arith, ints)

bools_hold_null : FitsPlace heap places.Bools Null
bools_hold_null = tt

bools_hold_their_array : FitsPlace heap places.Bools (Array 1)
bools_hold_their_array = refl

bools_hold_no_other : FitsPlace heap places.Bools (Array 0) → ⊥
bools_hold_no_other has = cc

ints_hold_null : FitsPlace heap places.Ints Null
ints_hold_null = tt

ints_hold_their_array : FitsPlace heap places.Ints (Array 0)
ints_hold_their_array = refl

ints_hold_no_other : FitsPlace heap places.Ints (Array 1) → ⊥
ints_hold_no_other has = cc

int_holds_no_length : FitsPlace heap places.Int (Native 1) → ⊥
int_holds_no_length fits = fits

void_holds_nothing : FitsPlace heap places.Void (Int (pos 0)) → ⊥
void_holds_nothing fits = fits

one_value_is_missing : FitPlaces heap (places.Int ∷ []) [] → ⊥
one_value_is_missing fit = fit

one_value_is_too_many : FitPlaces heap [] (Null ∷ []) → ⊥
one_value_is_too_many fit = fit

-- ---- what calls and returns take from the stack

last_is_the_top : args_of heap (places.Int ∷ places.Bool ∷ []) (Int (pos 513) ∷ Int (pos 7) ∷ Int (pos 9) ∷ []) ≡ Some (Int (pos 7) ∷ Int (pos 1) ∷ [])
last_is_the_top = refl

argument_is_missing : args_of heap (places.Int ∷ places.Bool ∷ []) (Int (pos 513) ∷ []) ≡ None
argument_is_missing = refl

result_is_put : result_of heap places.Bool (Int (pos 513) ∷ []) ≡ Some (Some (Int (pos 1)))
result_is_put = refl

void_is_returned : result_of heap places.Void [] ≡ Some None
void_is_returned = refl

value_is_not_void : result_of heap places.Void (Int (pos 0) ∷ []) ≡ None
value_is_not_void = refl

result_is_missing : result_of heap places.Int [] ≡ None
result_is_missing = refl

result_stands_alone : result_of heap places.Int (Int (pos 0) ∷ Int (pos 0) ∷ []) ≡ None
result_stands_alone = refl

result_of_another_type : result_of heap places.Ints (Array 1 ∷ []) ≡ None
result_of_another_type = refl

-- ---- what results are

void_is_none : FitsResult heap places.Void None
void_is_none = tt

void_is_no_value : FitsResult heap places.Void (Some Null) → ⊥
void_is_no_value fits = fits

bool_is_some : FitsResult heap places.Bool None → ⊥
bool_is_some fits = fits

bool_result_is_a_byte : FitsResult heap places.Bool (Some (Int (pos 256))) → ⊥
bool_result_is_a_byte fits = let high = fits.1 in omega (arith, ints)

-- ---- values

-- A length is one of 0 to 2147483647.
length_is_a_value : IsValue heap (Native 2147483647)
length_is_a_value = omega arith

length_is_no_more : IsValue heap (Native 2147483648) → ⊥
length_is_no_more is = omega arith

array_is_a_value : IsValue heap (Array 1)
array_is_a_value = omega arith

array_is_none : IsValue heap (Array 2) → ⊥
array_is_none is = omega arith

-- ---- arrays

bools_have_bytes : IsArray (record { place = places.Bools; items = pos 256 ∷ [] }) → ⊥
bools_have_bytes is = let high = is.0.0.1 in omega (arith, ints)

ints_have_int32 : IsArray (record { place = places.Ints; items = pos 256 ∷ [] })
ints_have_int32 = ((omega (arith, ints), tt), omega arith)

no_array_of_int : IsArray (record { place = places.Int; items = [] }) → ⊥
no_array_of_int is = is.0

-- ---- addresses

address_of_an_item : IsValue heap (Addr 1 0)
address_of_an_item = refl

no_item_at_the_length : has_item heap 0 1 ≡ false
no_item_at_the_length = refl

no_item_in_no_array : has_item heap 2 0 ≡ false
no_item_in_no_array = refl

-- An address goes with its array: it is out of reach where the array was not passed and is not new.
address_of_what_was_passed : IsPassedOrNew heap (Null ∷ Array 1 ∷ []) (Some (Addr 1 0))
address_of_what_was_passed = inl (1, omega arith, refl)

address_of_what_is_new : IsPassedOrNew heap [] (Some (Addr 2 0))
address_of_what_is_new = inr (omega arith)

address_of_another_array : IsPassedOrNew heap [] (Some (Addr 0 0)) → ⊥
address_of_another_array (inl (k, below, same)) = omega (arith, below)
address_of_another_array (inr new) = omega arith
