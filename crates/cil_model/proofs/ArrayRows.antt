-- What the instructions of arrays and addresses and the calls of Assert and Assume do, and which fault comes first.
use Rattle.std.proofs.Common.{◌≡◌, ℕ, ℤ, pos, negsuc, List, [], ◌∷◌, refl}
use Rattle.cil_model.specs.Effects.{Effect, GoesOn, Faults, Assumes, FindsNoRoom, effects}
use Rattle.cil_model.specs.UnitCalls.{unit_call}
use Rattle.cil_model.specs.Values.{Heap}
use Rattle.cil_model.specs.declared.instruction.Op.{Op}
use Rattle.cil_model.specs.declared.instruction.Op.TheVariants as ops
use Rattle.cil_model.specs.declared.machine.ArrayCell.{ArrayCell}
use Rattle.cil_model.specs.declared.machine.FaultKind.TheVariants as faults
use Rattle.cil_model.specs.declared.machine.Frame.{Frame}
use Rattle.cil_model.specs.declared.machine.Value.{Value}
use Rattle.cil_model.specs.declared.machine.Value.TheVariants.{Int, Native, Null, Array, Addr, Text}
use Rattle.cil_model.specs.declared.place.Place.TheVariants.{Void, Bools, Ints}
use Rattle.cil_model.proofs.SmallRuns.{small}

abbrev frame : ℕ → List Value → Frame
frame at stack = record { unit = 0; at = at; stack = stack; locals = []; args = []; entry_args = []; entry_heap = [] }

-- Arrays of these items, of int32 and of bool.
abbrev ints : List ℤ → ArrayCell
ints items = record { place = Ints; items = items }

abbrev bools : List ℤ → ArrayCell
bools items = record { place = Bools; items = items }

abbrev heap : Heap
heap = ints (pos 5 ∷ pos 6 ∷ []) ∷ bools (pos 1 ∷ []) ∷ []

-- The operation at offset 4, of 1 byte, with this stack may do this, and nothing else.
abbrev Does : Op → List Value → List Effect → Type 0
Does op stack done = effects (small Void [] [] []) (record { at = 4; size = 1; op = op }) (frame 4 stack) heap ≡ done

-- It goes on with this stack over this heap.
abbrev on : List Value → Heap → List Effect
on stack after = GoesOn (frame 5 stack) after ∷ []

-- ---- ldlen, conv.i4 and newarr

length_is_native : Does ops.Length (Array 0 ∷ []) (on (Native 2 ∷ []) heap)
length_is_native = refl

null_has_no_length : Does ops.Length (Null ∷ []) (Faults faults.NullUse ∷ [])
null_has_no_length = refl

length_becomes_a_number : Does ops.ConvI4 (Native 2 ∷ []) (on (Int (pos 2) ∷ []) heap)
length_becomes_a_number = refl

number_stays : Does ops.ConvI4 (Int (negsuc 0) ∷ []) (on (Int (negsuc 0) ∷ []) heap)
number_stays = refl

array_of_minus_one : Does (ops.NewArray 2) (Int (negsuc 0) ∷ []) (Faults faults.ArraySize ∷ [])
array_of_minus_one = refl

array_of_a_length :
    Does (ops.NewArray 1) (Native 2 ∷ [])
    (FindsNoRoom ∷ on (Array 2 ∷ []) (ints (pos 5 ∷ pos 6 ∷ []) ∷ bools (pos 1 ∷ []) ∷ bools (pos 0 ∷ pos 0 ∷ []) ∷ []))
array_of_a_length = refl

-- ---- ldelem: the index is the top

item_is_loaded : Does (ops.LoadElem Ints) (Int (pos 1) ∷ Array 0 ∷ []) (on (Int (pos 6) ∷ []) heap)
item_is_loaded = refl

bool_is_loaded : Does (ops.LoadElem Bools) (Int (pos 0) ∷ Array 1 ∷ []) (on (Int (pos 1) ∷ []) heap)
bool_is_loaded = refl

null_is_not_loaded : Does (ops.LoadElem Ints) (Int (negsuc 0) ∷ Null ∷ []) (Faults faults.NullUse ∷ [])
null_is_not_loaded = refl

load_is_below : Does (ops.LoadElem Ints) (Int (negsuc 0) ∷ Array 0 ∷ []) (Faults faults.Lower ∷ [])
load_is_below = refl

load_is_beyond : Does (ops.LoadElem Ints) (Int (pos 2) ∷ Array 0 ∷ []) (Faults faults.Upper ∷ [])
load_is_beyond = refl

load_of_another_type : Does (ops.LoadElem Bools) (Int (pos 0) ∷ Array 0 ∷ []) []
load_of_another_type = refl

-- ---- stelem: the value is the top, and the index stands below it

item_is_stored : Does (ops.StoreElem Ints) (Int (pos 258) ∷ Int (pos 1) ∷ Array 0 ∷ []) (on [] (ints (pos 5 ∷ pos 258 ∷ []) ∷ bools (pos 1 ∷ []) ∷ []))
item_is_stored = refl

bool_is_stored : Does (ops.StoreElem Bools) (Int (pos 258) ∷ Int (pos 0) ∷ Array 1 ∷ []) (on [] (ints (pos 5 ∷ pos 6 ∷ []) ∷ bools (pos 2 ∷ []) ∷ []))
bool_is_stored = refl

store_to_another_type : Does (ops.StoreElem Ints) (Int (pos 0) ∷ Int (pos 0) ∷ Array 1 ∷ []) []
store_to_another_type = refl

null_takes_no_item : Does (ops.StoreElem Ints) (Int (pos 9) ∷ Int (negsuc 0) ∷ Null ∷ []) (Faults faults.NullUse ∷ [])
null_takes_no_item = refl

store_is_below : Does (ops.StoreElem Ints) (Int (pos 9) ∷ Int (negsuc 0) ∷ Array 0 ∷ []) (Faults faults.Lower ∷ [])
store_is_below = refl

store_is_beyond : Does (ops.StoreElem Ints) (Int (pos 9) ∷ Int (pos 2) ∷ Array 0 ∷ []) (Faults faults.Upper ∷ [])
store_is_beyond = refl

-- ---- ldelema: the index is the top

address_is_taken : Does (ops.LoadAddr 2) (Int (pos 1) ∷ Array 0 ∷ []) (on (Addr 0 1 ∷ []) heap)
address_is_taken = refl

address_of_a_bool : Does (ops.LoadAddr 1) (Int (pos 0) ∷ Array 1 ∷ []) (on (Addr 1 0 ∷ []) heap)
address_of_a_bool = refl

null_has_no_address : Does (ops.LoadAddr 2) (Int (negsuc 0) ∷ Null ∷ []) (Faults faults.NullUse ∷ [])
null_has_no_address = refl

address_is_below : Does (ops.LoadAddr 2) (Int (negsuc 0) ∷ Array 0 ∷ []) (Faults faults.Lower ∷ [])
address_is_below = refl

-- An address is of an item: none stands at the length.
address_is_beyond : Does (ops.LoadAddr 2) (Int (pos 2) ∷ Array 0 ∷ []) (Faults faults.Upper ∷ [])
address_is_beyond = refl

address_in_another_type : Does (ops.LoadAddr 1) (Int (pos 0) ∷ Array 0 ∷ []) []
address_in_another_type = refl

address_in_no_type : Does (ops.LoadAddr 3) (Int (pos 0) ∷ Array 0 ∷ []) []
address_in_no_type = refl

-- ---- ldind and stind: the value stands above the address

item_is_loaded_through : Does (ops.LoadInd Ints) (Addr 0 1 ∷ []) (on (Int (pos 6) ∷ []) heap)
item_is_loaded_through = refl

bool_is_loaded_through : Does (ops.LoadInd Bools) (Addr 1 0 ∷ []) (on (Int (pos 1) ∷ []) heap)
bool_is_loaded_through = refl

load_through_another_type : Does (ops.LoadInd Bools) (Addr 0 1 ∷ []) []
load_through_another_type = refl

load_through_a_reference : Does (ops.LoadInd Ints) (Array 0 ∷ []) []
load_through_a_reference = refl

item_is_stored_through : Does (ops.StoreInd Ints) (Int (pos 258) ∷ Addr 0 1 ∷ []) (on [] (ints (pos 5 ∷ pos 258 ∷ []) ∷ bools (pos 1 ∷ []) ∷ []))
item_is_stored_through = refl

bool_is_stored_through : Does (ops.StoreInd Bools) (Int (pos 258) ∷ Addr 1 0 ∷ []) (on [] (ints (pos 5 ∷ pos 6 ∷ []) ∷ bools (pos 2 ∷ []) ∷ []))
bool_is_stored_through = refl

store_through_another_type : Does (ops.StoreInd Bools) (Int (pos 0) ∷ Addr 0 0 ∷ []) []
store_through_another_type = refl

-- Nothing else takes an address: it is no reference and no number.
address_has_no_length : Does ops.Length (Addr 0 1 ∷ []) []
address_has_no_length = refl

address_is_no_array : Does (ops.LoadElem Ints) (Int (pos 0) ∷ Addr 0 1 ∷ []) []
address_is_no_array = refl

address_is_doubled : Does ops.Dup (Addr 0 1 ∷ []) (on (Addr 0 1 ∷ Addr 0 1 ∷ []) heap)
address_is_doubled = refl

address_is_not_converted : Does ops.ConvI4 (Addr 0 1 ∷ []) []
address_is_not_converted = refl

-- ---- Assert and Assume: a message stands above the condition

zero_is_asserted : Does (ops.Call 5) (Int (pos 0) ∷ []) (Faults faults.Assert ∷ [])
unfolding unit_call
zero_is_asserted = refl

two_is_asserted : Does (ops.Call 6) (Text ∷ Int (pos 2) ∷ []) (on [] heap)
unfolding unit_call
two_is_asserted = refl

zero_is_assumed : Does (ops.Call 8) (Text ∷ Int (pos 0) ∷ []) (Assumes ∷ [])
unfolding unit_call
zero_is_assumed = refl

minus_one_is_assumed : Does (ops.Call 7) (Int (negsuc 0) ∷ []) (on [] heap)
unfolding unit_call
minus_one_is_assumed = refl

-- The body has no other calls of contracts.
requires_is_not_executed : Does (ops.Call 1) (Int (pos 1) ∷ []) []
unfolding unit_call
requires_is_not_executed = refl
