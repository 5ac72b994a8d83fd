-- Kinds of operands that instructions take, and some that they do not: lengths, references, null, messages, addresses.
use Rattle.std.proofs.Common.{◌≡◌, pos, List, [], ◌∷◌, Some, None, Ok, Err, codes, refl}
use Rattle.cil_model.specs.Kinds.{behind, typed}
use Rattle.cil_model.specs.Passes.{merged}
use Rattle.cil_model.specs.UnitCalls.{unit_call}
use Rattle.cil_model.specs.declared.instruction.BinOp.TheVariants as operators
use Rattle.cil_model.specs.declared.instruction.CmpOp.TheVariants as comparisons
use Rattle.cil_model.specs.declared.instruction.Instr.{Instr}
use Rattle.cil_model.specs.declared.instruction.Op.{Op}
use Rattle.cil_model.specs.declared.instruction.Op.TheVariants.{LoadArg, StoreArg, LoadLocal, StoreLocal, Null, Const, Dup, Pop, Call, Return, Branch, Switch, Bin, Neg, Not, ConvI4, Text as TextOf, NewArray, Length, LoadElem, StoreElem, LoadAddr, LoadInd, StoreInd}
use Rattle.cil_model.specs.declared.instruction.Test.TheVariants.{Always, True, False, Cmp}
use Rattle.cil_model.specs.declared.place.Kind.{Kind}
use Rattle.cil_model.specs.declared.place.Kind.TheVariants.{Int, Native, Ints, Bools, NullRef, Text, AddrInts, AddrBools}
use Rattle.cil_model.specs.declared.place.Place.TheVariants as places
use Rattle.cil_model.specs.declared.shape.Shape.{Shape}
use Rattle.cil_model.specs.declared.type_fault.TypeFault.TheVariants.{Underflow, WrongKind}

-- A method with an argument of each type, a local of bool and a result of int32[], which calls three others.
abbrev shape : Shape
shape = record {
  result = places.Ints;
  args = places.Ints ∷ places.Bool ∷ places.Int ∷ places.Bools ∷ [];
  locals = places.Bool ∷ [];
  max_stack = 8;
  callees =
      record { name = codes "Demo.Calc::F"; result = places.Void; args = places.Ints ∷ places.Bool ∷ []; clauses = [] }
      ∷ record { name = codes "Demo.Calc::G"; result = places.Bool; args = []; clauses = [] }
      ∷ record { name = codes "Demo.Calc::H"; result = places.Bools; args = []; clauses = [] } ∷ [];
}

-- The operation as an instruction.
abbrev instr : Op → Instr
instr op = record { at = 4; size = 1; op = op }

-- Of operands of these kinds, the first of which is the top, the operation leaves these.
abbrev Leaves : Op → List Kind → List Kind → Type 0
Leaves op before after = typed shape (instr op) before ≡ Ok after

-- One of them has a kind that it does not take.
abbrev Refuses : Op → List Kind → Type 0
Refuses op before = typed shape (instr op) before ≡ Err (WrongKind 4)

-- It lacks one.
abbrev Lacks : Op → List Kind → Type 0
Lacks op before = typed shape (instr op) before ≡ Err (Underflow 4)

-- ---- lengths

length_is_left : Leaves Length (Ints ∷ []) (Native ∷ [])
length_is_left = refl

length_is_converted : Leaves ConvI4 (Native ∷ []) (Int ∷ [])
length_is_converted = refl

int_is_converted : Leaves ConvI4 (Int ∷ []) (Int ∷ [])
int_is_converted = refl

length_is_doubled : Leaves Dup (Native ∷ []) (Native ∷ Native ∷ [])
length_is_doubled = refl

length_is_dropped : Leaves Pop (Native ∷ []) []
length_is_dropped = refl

length_is_tested : Leaves (Branch True 9) (Native ∷ []) []
length_is_tested = refl

length_makes_an_array : Leaves (NewArray 1) (Native ∷ []) (Bools ∷ [])
length_makes_an_array = refl

int_makes_an_array : Leaves (NewArray 2) (Int ∷ []) (Ints ∷ [])
int_makes_an_array = refl

length_and_int_are_compared : Leaves (Bin operators.CltUn) (Int ∷ Native ∷ []) (Int ∷ [])
length_and_int_are_compared = refl

int_and_length_are_branched_on : Leaves (Branch (Cmp comparisons.Ge) 9) (Native ∷ Int ∷ []) []
int_and_length_are_branched_on = refl

length_is_not_added : Refuses (Bin operators.Add) (Int ∷ Native ∷ [])
length_is_not_added = refl

length_is_not_negated : Refuses Neg (Native ∷ [])
length_is_not_negated = refl

length_is_not_stored : Refuses (StoreArg 1) (Native ∷ [])
length_is_not_stored = refl

length_is_no_item : Refuses (StoreElem places.Ints) (Native ∷ Int ∷ Ints ∷ [])
length_is_no_item = refl

length_chooses_no_target : Refuses (Switch (9 ∷ [])) (Native ∷ [])
length_chooses_no_target = refl

-- ---- references

arrays_are_equal_or_not : Leaves (Bin operators.Ceq) (Ints ∷ Ints ∷ []) (Int ∷ [])
arrays_are_equal_or_not = refl

null_and_array : Leaves (Branch (Cmp comparisons.NeUn) 9) (Bools ∷ NullRef ∷ []) []
null_and_array = refl

array_and_null : Leaves (Branch (Cmp comparisons.Eq) 9) (NullRef ∷ Ints ∷ []) []
array_and_null = refl

null_and_null : Leaves (Bin operators.Ceq) (NullRef ∷ NullRef ∷ []) (Int ∷ [])
null_and_null = refl

arrays_of_two_types : Refuses (Bin operators.Ceq) (Ints ∷ Bools ∷ [])
arrays_of_two_types = refl

array_and_number : Refuses (Bin operators.Ceq) (Int ∷ Ints ∷ [])
array_and_number = refl

null_and_number : Refuses (Bin operators.Ceq) (Int ∷ NullRef ∷ [])
null_and_number = refl

number_and_null : Refuses (Bin operators.Ceq) (NullRef ∷ Int ∷ [])
number_and_null = refl

null_and_message : Refuses (Branch (Cmp comparisons.Eq) 9) (Text ∷ NullRef ∷ [])
null_and_message = refl

-- Null is the second operand here, and pushed alone.
array_above_null : Leaves (Bin operators.CgtUn) (NullRef ∷ Ints ∷ []) (Int ∷ [])
array_above_null = refl

null_above_null : Leaves (Bin operators.CgtUn) (NullRef ∷ NullRef ∷ []) (Int ∷ [])
null_above_null = refl

null_above_array : Refuses (Bin operators.CgtUn) (Ints ∷ NullRef ∷ [])
null_above_array = refl

no_branch_above_null : Refuses (Branch (Cmp comparisons.GtUn) 9) (NullRef ∷ Ints ∷ [])
no_branch_above_null = refl

arrays_have_no_order : Refuses (Bin operators.Clt) (Ints ∷ Ints ∷ [])
arrays_have_no_order = refl

array_is_tested : Leaves (Branch False 9) (Bools ∷ []) []
array_is_tested = refl

-- ---- null, wherever an array is

null_has_a_length : Leaves Length (NullRef ∷ []) (Native ∷ [])
null_has_a_length = refl

null_is_loaded_from : Leaves (LoadElem places.Bools) (Int ∷ NullRef ∷ []) (Int ∷ [])
null_is_loaded_from = refl

null_is_stored_to : Leaves (StoreElem places.Ints) (Int ∷ Int ∷ NullRef ∷ []) []
null_is_stored_to = refl

null_is_stored : Leaves (StoreArg 0) (NullRef ∷ []) []
null_is_stored = refl

null_is_returned : Leaves Return (NullRef ∷ []) []
null_is_returned = refl

null_is_passed : Leaves (Call 100) (Int ∷ NullRef ∷ Native ∷ []) (Native ∷ [])
unfolding unit_call
null_is_passed = refl

last_argument_is_the_top : Refuses (Call 100) (Ints ∷ Int ∷ [])
unfolding unit_call
last_argument_is_the_top = refl

-- OldValue of int32[], of bool and of bool[].
old_null : Leaves (Call 24) (NullRef ∷ []) (Ints ∷ [])
unfolding unit_call
old_null = refl

old_bool : Leaves (Call 21) (Int ∷ []) (Int ∷ [])
unfolding unit_call
old_bool = refl

old_array_of_another_type : Refuses (Call 23) (Ints ∷ [])
unfolding unit_call
old_array_of_another_type = refl

-- ---- places

ints_are_loaded : Leaves (LoadArg 0) [] (Ints ∷ [])
ints_are_loaded = refl

bool_is_loaded : Leaves (LoadArg 1) [] (Int ∷ [])
bool_is_loaded = refl

int_is_loaded : Leaves (LoadArg 2) [] (Int ∷ [])
int_is_loaded = refl

bools_are_loaded : Leaves (LoadArg 3) [] (Bools ∷ [])
bools_are_loaded = refl

no_more_are : Refuses (LoadArg 4) []
no_more_are = refl

ints_are_stored : Leaves (StoreArg 0) (Ints ∷ []) []
ints_are_stored = refl

bool_is_stored : Leaves (StoreArg 1) (Int ∷ []) []
bool_is_stored = refl

int_is_stored : Leaves (StoreArg 2) (Int ∷ []) []
int_is_stored = refl

bools_are_stored : Leaves (StoreArg 3) (Bools ∷ []) []
bools_are_stored = refl

null_is_stored_as_bools : Leaves (StoreArg 3) (NullRef ∷ []) []
null_is_stored_as_bools = refl

bools_are_no_ints : Refuses (StoreArg 0) (Bools ∷ [])
bools_are_no_ints = refl

ints_are_no_bools : Refuses (StoreArg 3) (Ints ∷ [])
ints_are_no_bools = refl

null_is_no_number : Refuses (StoreArg 2) (NullRef ∷ [])
null_is_no_number = refl

bools_have_a_length : Leaves Length (Bools ∷ []) (Native ∷ [])
bools_have_a_length = refl

numbers_have_none : Refuses Length (Int ∷ [])
numbers_have_none = refl

item_of_ints : Leaves (LoadElem places.Ints) (Int ∷ Ints ∷ []) (Int ∷ [])
item_of_ints = refl

item_of_bools : Leaves (LoadElem places.Bools) (Int ∷ Bools ∷ []) (Int ∷ [])
item_of_bools = refl

item_of_the_other_type : Refuses (LoadElem places.Ints) (Int ∷ Bools ∷ [])
item_of_the_other_type = refl

item_to_bools : Leaves (StoreElem places.Bools) (Int ∷ Int ∷ Bools ∷ []) []
item_to_bools = refl

item_to_the_other_type : Refuses (StoreElem places.Bools) (Int ∷ Int ∷ Ints ∷ [])
item_to_the_other_type = refl

array_is_returned : Leaves Return (Ints ∷ []) []
array_is_returned = refl

other_array_is_not : Refuses Return (Bools ∷ [])
other_array_is_not = refl

-- Nothing is pushed of void.
void_is_returned : typed (record shape { result = places.Void }) (instr Return) [] ≡ Ok []
void_is_returned = refl

void_is_no_value : typed (record shape { result = places.Void }) (instr Return) (Int ∷ []) ≡ Err (WrongKind 4)
void_is_no_value = refl

bool_comes_of_a_call : Leaves (Call 101) (Text ∷ []) (Int ∷ Text ∷ [])
unfolding unit_call
bool_comes_of_a_call = refl

bools_come_of_a_call : Leaves (Call 102) [] (Bools ∷ [])
unfolding unit_call
bools_come_of_a_call = refl

no_such_callee : Refuses (Call 103) []
unfolding unit_call
no_such_callee = refl

-- ---- messages

message_stands_above : Leaves (Call 6) (Text ∷ Int ∷ []) []
unfolding unit_call
message_stands_above = refl

null_is_no_message : Refuses (Call 6) (NullRef ∷ Int ∷ [])
unfolding unit_call
null_is_no_message = refl

message_is_doubled : Leaves Dup (Text ∷ []) (Text ∷ Text ∷ [])
message_is_doubled = refl

message_is_not_tested : Refuses (Branch True 9) (Text ∷ [])
message_is_not_tested = refl

-- A length is no condition.
length_is_no_condition : Refuses (Call 5) (Native ∷ [])
unfolding unit_call
length_is_no_condition = refl

-- ---- addresses

address_of_ints : Leaves (LoadAddr 2) (Int ∷ Ints ∷ []) (AddrInts ∷ [])
address_of_ints = refl

address_of_bools : Leaves (LoadAddr 1) (Int ∷ Bools ∷ []) (AddrBools ∷ [])
address_of_bools = refl

-- The number alone tells which address it is.
address_in_null : Leaves (LoadAddr 1) (Int ∷ NullRef ∷ []) (AddrBools ∷ [])
address_in_null = refl

address_in_the_other_type : Refuses (LoadAddr 1) (Int ∷ Ints ∷ [])
address_in_the_other_type = refl

length_is_no_index_of_an_address : Refuses (LoadAddr 2) (Native ∷ Ints ∷ [])
length_is_no_index_of_an_address = refl

no_address_of_that : Refuses (LoadAddr 0) (Int ∷ Ints ∷ [])
no_address_of_that = refl

no_address_in_an_address : Refuses (LoadAddr 2) (Int ∷ AddrInts ∷ [])
no_address_in_an_address = refl

item_at_an_address : Leaves (LoadInd places.Ints) (AddrInts ∷ []) (Int ∷ [])
item_at_an_address = refl

bool_at_an_address : Leaves (LoadInd places.Bools) (AddrBools ∷ []) (Int ∷ [])
bool_at_an_address = refl

bool_at_an_address_of_int : Refuses (LoadInd places.Bools) (AddrInts ∷ [])
bool_at_an_address_of_int = refl

array_is_no_address : Refuses (LoadInd places.Ints) (Ints ∷ [])
array_is_no_address = refl

null_is_no_address : Refuses (LoadInd places.Ints) (NullRef ∷ [])
null_is_no_address = refl

item_to_an_address : Leaves (StoreInd places.Ints) (Int ∷ AddrInts ∷ []) []
item_to_an_address = refl

bool_to_an_address : Leaves (StoreInd places.Bools) (Int ∷ AddrBools ∷ []) []
bool_to_an_address = refl

int_to_an_address_of_bool : Refuses (StoreInd places.Ints) (Int ∷ AddrBools ∷ [])
int_to_an_address_of_bool = refl

length_to_an_address : Refuses (StoreInd places.Ints) (Native ∷ AddrInts ∷ [])
length_to_an_address = refl

address_is_copied : Leaves Dup (AddrInts ∷ []) (AddrInts ∷ AddrInts ∷ [])
address_is_copied = refl

address_is_dropped : Leaves Pop (AddrBools ∷ []) []
address_is_dropped = refl

address_is_not_tested : Refuses (Branch True 9) (AddrInts ∷ [])
address_is_not_tested = refl

addresses_are_not_compared : Refuses (Bin operators.Ceq) (AddrInts ∷ AddrInts ∷ [])
addresses_are_not_compared = refl

address_is_not_compared_with_null : Refuses (Branch (Cmp comparisons.Eq) 9) (NullRef ∷ AddrInts ∷ [])
address_is_not_compared_with_null = refl

null_is_not_compared_with_an_address : Refuses (Branch (Cmp comparisons.Eq) 9) (AddrBools ∷ NullRef ∷ [])
null_is_not_compared_with_an_address = refl

address_is_not_above_null : Refuses (Bin operators.CgtUn) (NullRef ∷ AddrInts ∷ [])
address_is_not_above_null = refl

address_is_not_converted : Refuses ConvI4 (AddrInts ∷ [])
address_is_not_converted = refl

address_is_not_stored : Refuses (StoreArg 0) (AddrInts ∷ [])
address_is_not_stored = refl

address_is_not_passed : Refuses (Call 100) (Int ∷ AddrInts ∷ [])
unfolding unit_call
address_is_not_passed = refl

address_is_not_returned : Refuses Return (AddrInts ∷ [])
address_is_not_returned = refl

address_has_no_length : Refuses Length (AddrInts ∷ [])
address_has_no_length = refl

index_of_an_address_is_missing : Lacks (LoadAddr 2) (Ints ∷ [])
index_of_an_address_is_missing = refl

address_is_missing : Lacks (LoadInd places.Ints) []
address_is_missing = refl

address_to_store_to_is_missing : Lacks (StoreInd places.Ints) (Int ∷ [])
address_to_store_to_is_missing = refl

addresses_merge : merged (AddrInts ∷ AddrBools ∷ []) (AddrInts ∷ AddrBools ∷ []) ≡ Some (AddrInts ∷ AddrBools ∷ [])
addresses_merge = refl

addresses_of_two_types_do_not : merged (AddrInts ∷ []) (AddrBools ∷ []) ≡ None
addresses_of_two_types_do_not = refl

address_and_null_do_not : merged (AddrInts ∷ []) (NullRef ∷ []) ≡ None
address_and_null_do_not = refl

null_and_address_do_not : merged (NullRef ∷ []) (AddrBools ∷ []) ≡ None
null_and_address_do_not = refl

address_and_array_do_not : merged (AddrInts ∷ []) (Ints ∷ []) ≡ None
address_and_array_do_not = refl

-- ---- operands that are missing

dup_of_nothing : Lacks Dup []
dup_of_nothing = refl

pop_of_nothing : Lacks Pop []
pop_of_nothing = refl

nothing_is_stored : Lacks (StoreArg 1) []
nothing_is_stored = refl

nothing_is_put_into_a_local : Lacks (StoreLocal 0) []
nothing_is_put_into_a_local = refl

one_is_added : Lacks (Bin operators.Add) (Int ∷ [])
one_is_added = refl

nothing_is_negated : Lacks Neg []
nothing_is_negated = refl

nothing_is_turned : Lacks Not []
nothing_is_turned = refl

nothing_is_converted : Lacks ConvI4 []
nothing_is_converted = refl

nothing_is_tested : Lacks (Branch True 9) []
nothing_is_tested = refl

one_is_compared : Lacks (Branch (Cmp comparisons.Eq) 9) (Int ∷ [])
one_is_compared = refl

nothing_chooses : Lacks (Switch (9 ∷ [])) []
nothing_chooses = refl

nothing_is_made : Lacks (NewArray 1) []
nothing_is_made = refl

length_of_nothing : Lacks Length []
length_of_nothing = refl

index_is_missing : Lacks (LoadElem places.Ints) (Ints ∷ [])
index_is_missing = refl

item_is_missing : Lacks (StoreElem places.Ints) (Int ∷ Ints ∷ [])
item_is_missing = refl

argument_is_missing : Lacks (Call 100) (Int ∷ [])
unfolding unit_call
argument_is_missing = refl

arguments_are_counted : behind shape (Call 100) (Int ∷ []) ≡ None
unfolding unit_call
arguments_are_counted = refl

condition_is_missing : Lacks (Call 5) []
unfolding unit_call
condition_is_missing = refl

message_is_missing : Lacks (Call 8) (Int ∷ [])
unfolding unit_call
message_is_missing = refl

required_condition_is_missing : Lacks (Call 1) []
unfolding unit_call
required_condition_is_missing = refl

ensured_message_is_missing : Lacks (Call 4) (Int ∷ [])
unfolding unit_call
ensured_message_is_missing = refl

old_value_is_missing : Lacks (Call 22) []
unfolding unit_call
old_value_is_missing = refl

result_is_missing : Lacks Return []
result_is_missing = refl

-- ---- just as many as are taken

numbers_are_added : Leaves (Bin operators.Add) (Int ∷ Int ∷ []) (Int ∷ [])
numbers_are_added = refl

number_is_turned : Leaves Not (Int ∷ []) (Int ∷ [])
number_is_turned = refl

number_chooses : Leaves (Switch (9 ∷ [])) (Int ∷ []) []
number_chooses = refl

always_takes_nothing : Leaves (Branch Always 9) [] []
always_takes_nothing = refl

local_takes_one : Leaves (StoreLocal 0) (Int ∷ []) []
local_takes_one = refl

required_condition : Leaves (Call 1) (Int ∷ []) []
unfolding unit_call
required_condition = refl

required_message : Leaves (Call 2) (Text ∷ Int ∷ []) []
unfolding unit_call
required_message = refl

ensured_condition : Leaves (Call 3) (Int ∷ []) []
unfolding unit_call
ensured_condition = refl

ensured_message : Leaves (Call 4) (Text ∷ Int ∷ []) []
unfolding unit_call
ensured_message = refl

asserted_condition : Leaves (Call 5) (Int ∷ []) []
unfolding unit_call
asserted_condition = refl

assumed_condition : Leaves (Call 7) (Int ∷ []) []
unfolding unit_call
assumed_condition = refl

assumed_message : Leaves (Call 8) (Text ∷ Int ∷ []) []
unfolding unit_call
assumed_message = refl

end_of_the_block : Leaves (Call 9) (Int ∷ []) (Int ∷ [])
unfolding unit_call
end_of_the_block = refl

-- Result of bool, and of int32[].
bool_result : Leaves (Call 11) [] (Int ∷ [])
unfolding unit_call
bool_result = refl

array_result : Leaves (Call 14) [] (Ints ∷ [])
unfolding unit_call
array_result = refl

local_is_loaded : Leaves (LoadLocal 0) [] (Int ∷ [])
local_is_loaded = refl

local_is_not_there : Refuses (LoadLocal 1) []
local_is_not_there = refl

no_place_there : Refuses (StoreLocal 1) (Int ∷ [])
no_place_there = refl

null_is_pushed : Leaves Null [] (NullRef ∷ [])
null_is_pushed = refl

message_is_pushed : Leaves (TextOf 0) [] (Text ∷ [])
message_is_pushed = refl

number_is_pushed : Leaves (Const (pos 1)) [] (Int ∷ [])
number_is_pushed = refl

nothing_names : Refuses (Call 10) []
unfolding unit_call
nothing_names = refl

no_array_of_that : Refuses (NewArray 0) (Int ∷ [])
no_array_of_that = refl

-- ---- merging

-- A kind with itself, and null with an array.
all_that_merge :
    merged (Int ∷ Native ∷ Ints ∷ Bools ∷ NullRef ∷ Text ∷ Ints ∷ Bools ∷ NullRef ∷ NullRef ∷ [])
    (Int ∷ Native ∷ Ints ∷ Bools ∷ NullRef ∷ Text ∷ NullRef ∷ NullRef ∷ Ints ∷ Bools ∷ [])
    ≡ Some (Int ∷ Native ∷ Ints ∷ Bools ∷ NullRef ∷ Text ∷ Ints ∷ Bools ∷ Ints ∷ Bools ∷ [])
all_that_merge = refl

arrays_do_not : merged (Ints ∷ []) (Bools ∷ []) ≡ None
arrays_do_not = refl

lengths_do_not : merged (Native ∷ []) (Int ∷ []) ≡ None
lengths_do_not = refl

null_and_number_do_not : merged (NullRef ∷ []) (Int ∷ []) ≡ None
null_and_number_do_not = refl

heights_do_not : merged (Int ∷ []) [] ≡ None
heights_do_not = refl

other_heights_do_not : merged [] (Int ∷ []) ≡ None
other_heights_do_not = refl

-- One that does not merge is enough, wherever it stands.
below_the_top : merged (Int ∷ Ints ∷ []) (Int ∷ Bools ∷ []) ≡ None
below_the_top = refl
