-- What an instruction does to its own frame: one row for each, except calls of methods and returns.
-- The first value of a stack is its top. An instruction that finds no row is undefined (ECMA-335 III.3, III.4).
use Rattle.std.specs.Prelude.{◌≡◌, ℕ, ◌+◌, ℤ, pos, Bool, true, false, not, nat_lt, option_map, List, [], ◌∷◌, ◌++◌, length, replicate, Option, Some, None, Result, Ok, Err, if◌then◌else◌, int_lt, int_le, unsigned_abs, slice_get, slice_set, ◌⊎◌}
use Rattle.std.specs.Ordering.{int_eq}
use Rattle.std.specs.Int.{int_rem_euclid}
use Rattle.std.specs.Option.{option_and_then}
use Rattle.cil_model.specs.Arithmetic.{unsigned, operated, operated_one}
use Rattle.cil_model.specs.Comparisons.{number_of, compares_values, comparison_value, comparison_of, is_true}
use Rattle.cil_model.specs.UnitCalls.{unit_call, array_place}
use Rattle.cil_model.specs.Values.{Heap, same_place, put}
use Rattle.cil_model.specs.declared.instruction.UnOp.{UnOp}
use Rattle.cil_model.specs.declared.instruction.UnOp.TheVariants as unary
use Rattle.cil_model.specs.declared.instruction.BinOp.{BinOp}
use Rattle.cil_model.specs.declared.instruction.CmpOp.{CmpOp}
use Rattle.cil_model.specs.declared.instruction.Instr.{Instr}
use Rattle.cil_model.specs.declared.instruction.Op.{Op}
use Rattle.cil_model.specs.declared.instruction.Op.TheVariants as ops
use Rattle.cil_model.specs.declared.instruction.Test.{Test}
use Rattle.cil_model.specs.declared.instruction.Test.TheVariants as tests
use Rattle.cil_model.specs.declared.machine.ArrayCell.{ArrayCell}
use Rattle.cil_model.specs.declared.machine.FaultKind.{FaultKind}
use Rattle.cil_model.specs.declared.machine.FaultKind.TheVariants as faults
use Rattle.cil_model.specs.declared.machine.Frame.{Frame}
use Rattle.cil_model.specs.declared.machine.Value.{Value}
use Rattle.cil_model.specs.declared.machine.Value.TheVariants.{Int, Native, Null, Array, Addr, Text}
use Rattle.cil_model.specs.declared.place.Place.{Place}
use Rattle.cil_model.specs.declared.place.Place.TheVariants as places
use Rattle.cil_model.specs.declared.unit.Unit.{Unit as MethodUnit}
use Rattle.cil_model.specs.declared.unit_numbers.UnitCall.{UnitCall}
use Rattle.cil_model.specs.declared.unit_numbers.UnitCall.TheVariants as calls

-- One thing that an instruction may do.
pub data Effect : Type 0 where
  -- The frame goes on.
  GoesOn : Frame → Heap → Effect
  -- The run ends in a fault.
  Faults : FaultKind → Effect
  -- The run ends at an assumption that is false.
  Assumes : Effect
  -- The run ends because an array finds no room.
  FindsNoRoom : Effect

-- ---- where the frame goes on

-- The frame goes on at an IL offset, with this stack.
abbrev pub goes_to : ℕ → Frame → Heap → List Value → List Effect
goes_to at f heap stack = GoesOn (record f { at = at; stack = stack }) heap ∷ []

-- The frame goes on after the instruction, with this stack.
abbrev pub goes_on : Instr → Frame → Heap → List Value → List Effect
goes_on i f heap stack = goes_to (i.at + i.size) f heap stack

-- The value, where there is one, is pushed on the rest of the stack.
abbrev pub pushes : Instr → Frame → Heap → List Value → Option Value → List Effect
pushes i f heap rest None = []
pushes i f heap rest (Some value) = goes_on i f heap (value ∷ rest)

-- The frame goes on at the target where the test holds, and else after the instruction.
abbrev pub branches : ℕ → Instr → Frame → Heap → List Value → Option Bool → List Effect
branches target i f heap rest None = []
branches target i f heap rest (Some true) = goes_to target f heap rest
branches target i f heap rest (Some false) = goes_on i f heap rest

-- ---- moves

-- The variables with the value put into the one of this number, where they have these places.
abbrev pub stored : Heap → List Place → ℕ → Value → List Value → Option (List Value)
stored heap places n value variables =
    option_map (λ new. slice_set variables n new) (option_and_then (λ place. put heap place value) (slice_get places n))

abbrev pub with_args : Instr → Frame → Heap → List Value → Option (List Value) → List Effect
with_args i f heap rest None = []
with_args i f heap rest (Some args) = goes_on i (record f { args = args }) heap rest

abbrev pub with_locals : Instr → Frame → Heap → List Value → Option (List Value) → List Effect
with_locals i f heap rest None = []
with_locals i f heap rest (Some locals) = goes_on i (record f { locals = locals }) heap rest

abbrev pub stores_arg : MethodUnit → ℕ → Instr → Frame → Heap → List Value → List Effect
stores_arg unit n i f heap (value ∷ rest) = with_args i f heap rest (stored heap unit.args n value f.args)
stores_arg unit n i f heap [] = []

abbrev pub stores_local : MethodUnit → ℕ → Instr → Frame → Heap → List Value → List Effect
stores_local unit n i f heap (value ∷ rest) = with_locals i f heap rest (stored heap unit.locals n value f.locals)
stores_local unit n i f heap [] = []

abbrev pub duplicates : Instr → Frame → Heap → List Value → List Effect
duplicates i f heap (value ∷ rest) = goes_on i f heap (value ∷ value ∷ rest)
duplicates i f heap [] = []

abbrev pub pops : Instr → Frame → Heap → List Value → List Effect
pops i f heap (value ∷ rest) = goes_on i f heap rest
pops i f heap [] = []

-- ---- numbers

abbrev pub gives : Instr → Frame → Heap → List Value → Result ℤ FaultKind → List Effect
gives i f heap rest (Ok n) = goes_on i f heap (Int n ∷ rest)
gives i f heap rest (Err kind) = Faults kind ∷ []

-- An operator of two int32.
abbrev pub arithmetic : BinOp → Instr → Frame → Heap → List Value → List Effect
arithmetic operator i f heap (Int b ∷ Int a ∷ rest) = gives i f heap rest (operated operator a b)
arithmetic operator i f heap _ = []

-- A comparison of two values.
abbrev pub comparison : CmpOp → Instr → Frame → Heap → List Value → List Effect
comparison op i f heap (b ∷ a ∷ rest) = pushes i f heap rest (comparison_value op a b)
comparison op i f heap _ = []

abbrev pub binary : BinOp → Option CmpOp → Instr → Frame → Heap → List Value → List Effect
binary operator None i f heap stack = arithmetic operator i f heap stack
binary operator (Some op) i f heap stack = comparison op i f heap stack

abbrev pub changes : UnOp → Instr → Frame → Heap → List Value → List Effect
changes operator i f heap (Int a ∷ rest) = goes_on i f heap (Int (operated_one operator a) ∷ rest)
changes operator i f heap _ = []

-- A length becomes an int32, which an int32 is.
abbrev pub converts : Instr → Frame → Heap → List Value → List Effect
converts i f heap (Native n ∷ rest) = goes_on i f heap (Int (pos n) ∷ rest)
converts i f heap (Int n ∷ rest) = goes_on i f heap (Int n ∷ rest)
converts i f heap _ = []

-- ---- branches

abbrev pub branches_by : Test → ℕ → Instr → Frame → Heap → List Value → List Effect
branches_by tests.Always target i f heap stack = goes_to target f heap stack
branches_by tests.True target i f heap (value ∷ rest) = branches target i f heap rest (is_true value)
branches_by tests.False target i f heap (value ∷ rest) = branches target i f heap rest (option_map not (is_true value))
branches_by (tests.Cmp op) target i f heap (b ∷ a ∷ rest) = branches target i f heap rest (compares_values op a b)
branches_by _ target i f heap _ = []

-- The target of a number, which is taken as unsigned. One that there is not goes on after the instruction.
abbrev pub switches_to : Instr → Frame → Heap → List Value → Option ℕ → List Effect
switches_to i f heap rest None = goes_on i f heap rest
switches_to i f heap rest (Some target) = goes_to target f heap rest

abbrev pub switches : List ℕ → Instr → Frame → Heap → List Value → List Effect
switches targets i f heap (Int n ∷ rest) = switches_to i f heap rest (slice_get targets (unsigned n))
switches targets i f heap _ = []

-- ---- arrays

abbrev pub zeros : Place → ℕ → ArrayCell
zeros place n = record { place = place; items = replicate n (pos 0) }

-- A new array of so many zeros, or none where there is no room.
abbrev pub makes : Place → ℤ → Instr → Frame → Heap → List Value → List Effect
makes place n i f heap rest =
    if int_lt n (pos 0) then Faults faults.ArraySize ∷ []
    else FindsNoRoom ∷ goes_on i f (heap ++ zeros place (unsigned_abs n) ∷ []) (Array (length heap) ∷ rest)

abbrev pub makes_number : Option Place → Option ℤ → Instr → Frame → Heap → List Value → List Effect
makes_number (Some place) (Some n) i f heap rest = makes place n i f heap rest
makes_number _ _ i f heap rest = []

abbrev pub new_array : Option Place → Instr → Frame → Heap → List Value → List Effect
new_array place i f heap (value ∷ rest) = makes_number place (number_of value) i f heap rest
new_array place i f heap [] = []

abbrev pub array_length : Instr → Frame → Heap → List Value → List Effect
array_length i f heap (Null ∷ rest) = Faults faults.NullUse ∷ []
array_length i f heap (Array a ∷ rest) = pushes i f heap rest (option_map (λ cell. Native (length cell.items)) (slice_get heap a))
array_length i f heap _ = []

-- What is done at an index of an array, where it has the item.
abbrev pub at_index : ArrayCell → ℤ → List Effect → List Effect
at_index cell n done =
    if int_lt n (pos 0) then Faults faults.Lower ∷ []
    else if int_le (pos (length cell.items)) n then Faults faults.Upper ∷ []
    else done

-- What is done with an array of this type: one of another type has no row.
abbrev pub of_place : Place → Option ArrayCell → (ArrayCell → List Effect) → List Effect
of_place place None done = []
of_place place (Some cell) done = if same_place cell.place place then done cell else []

abbrev pub item_value : ArrayCell → ℤ → Option Value
item_value cell n = option_map Int (slice_get cell.items (unsigned_abs n))

abbrev pub loads : Place → Instr → Frame → Heap → List Value → List Effect
loads place i f heap (Int n ∷ Null ∷ rest) = Faults faults.NullUse ∷ []
loads place i f heap (Int n ∷ Array a ∷ rest) =
    of_place place (slice_get heap a) (λ cell. at_index cell n (pushes i f heap rest (item_value cell n)))
loads place i f heap _ = []

-- The heap with one item of an array replaced.
abbrev pub with_item : Heap → ℕ → ArrayCell → ℕ → ℤ → Heap
with_item heap a cell n item = slice_set heap a (record cell { items = slice_set cell.items n item })

-- A number as it is stored in an array of this type.
abbrev pub item_of : Place → ℤ → ℤ
item_of places.Bools n = int_rem_euclid n (pos 256)
item_of _ n = n

abbrev pub stores : Place → Instr → Frame → Heap → List Value → List Effect
stores place i f heap (Int v ∷ Int n ∷ Null ∷ rest) = Faults faults.NullUse ∷ []
stores place i f heap (Int v ∷ Int n ∷ Array a ∷ rest) =
    of_place place (slice_get heap a) (λ cell. at_index cell n (goes_on i f (with_item heap a cell (unsigned_abs n) (item_of place v)) rest))
stores place i f heap _ = []

-- ---- addresses

-- The address of an item of an array of this type.
abbrev pub addresses : Place → Instr → Frame → Heap → List Value → List Effect
addresses place i f heap (Int n ∷ Null ∷ rest) = Faults faults.NullUse ∷ []
addresses place i f heap (Int n ∷ Array a ∷ rest) =
    of_place place (slice_get heap a) (λ cell. at_index cell n (goes_on i f heap (Addr a (unsigned_abs n) ∷ rest)))
addresses place i f heap _ = []

abbrev pub takes_address : Option Place → Instr → Frame → Heap → List Value → List Effect
takes_address None i f heap stack = []
takes_address (Some place) i f heap stack = addresses place i f heap stack

-- The item at an address in an array of this type.
abbrev pub loads_through : Place → Instr → Frame → Heap → List Value → List Effect
loads_through place i f heap (Addr a n ∷ rest) =
    of_place place (slice_get heap a) (λ cell. pushes i f heap rest (option_map Int (slice_get cell.items n)))
loads_through place i f heap _ = []

-- An address whose item is not there has no row, as above.
abbrev pub stores_through : Place → Instr → Frame → Heap → List Value → List Effect
stores_through place i f heap (Int v ∷ Addr a n ∷ rest) =
    of_place place (slice_get heap a)
    (λ cell. if nat_lt n (length cell.items) then goes_on i f (with_item heap a cell n (item_of place v)) rest else [])
stores_through place i f heap _ = []

-- ---- Assert and Assume

-- The stack below the message, where there is to be one.
abbrev pub below_message : Bool → List Value → Option (List Value)
below_message false stack = Some stack
below_message true (Text ∷ rest) = Some rest
below_message true _ = None

abbrev pub tests_condition : Effect → Instr → Frame → Heap → Option (List Value) → List Effect
tests_condition otherwise i f heap (Some (Int n ∷ rest)) = if int_eq n (pos 0) then otherwise ∷ [] else goes_on i f heap rest
tests_condition otherwise i f heap _ = []

-- The calls of contracts that a body may have.
abbrev pub contract_call : Option UnitCall → Instr → Frame → Heap → List Effect
contract_call (Some (calls.Assert message)) i f heap = tests_condition (Faults faults.Assert) i f heap (below_message message f.stack)
contract_call (Some (calls.Assume message)) i f heap = tests_condition Assumes i f heap (below_message message f.stack)
contract_call _ i f heap = []

-- ---- the rows

-- All that an instruction may do, where it neither calls a method nor returns.
abbrev pub effects_of : Op → MethodUnit → Instr → Frame → Heap → List Effect
effects_of ops.Nop unit i f heap = goes_on i f heap f.stack
effects_of (ops.LoadArg n) unit i f heap = pushes i f heap f.stack (slice_get f.args n)
effects_of (ops.StoreArg n) unit i f heap = stores_arg unit n i f heap f.stack
effects_of (ops.LoadLocal n) unit i f heap = pushes i f heap f.stack (slice_get f.locals n)
effects_of (ops.StoreLocal n) unit i f heap = stores_local unit n i f heap f.stack
effects_of ops.Null unit i f heap = goes_on i f heap (Null ∷ f.stack)
effects_of (ops.Const n) unit i f heap = goes_on i f heap (Int n ∷ f.stack)
effects_of ops.Dup unit i f heap = duplicates i f heap f.stack
effects_of ops.Pop unit i f heap = pops i f heap f.stack
effects_of (ops.Call number) unit i f heap = contract_call (unit_call number) i f heap
effects_of ops.Return unit i f heap = []
effects_of (ops.Branch test target) unit i f heap = branches_by test target i f heap f.stack
effects_of (ops.Switch targets) unit i f heap = switches targets i f heap f.stack
effects_of (ops.Bin operator) unit i f heap = binary operator (comparison_of operator) i f heap f.stack
effects_of ops.Neg unit i f heap = changes unary.Neg i f heap f.stack
effects_of ops.Not unit i f heap = changes unary.Not i f heap f.stack
effects_of ops.ConvI4 unit i f heap = converts i f heap f.stack
effects_of (ops.Text token) unit i f heap = goes_on i f heap (Text ∷ f.stack)
effects_of (ops.NewArray number) unit i f heap = new_array (array_place number) i f heap f.stack
effects_of ops.Length unit i f heap = array_length i f heap f.stack
effects_of (ops.LoadElem place) unit i f heap = loads place i f heap f.stack
effects_of (ops.StoreElem place) unit i f heap = stores place i f heap f.stack
effects_of (ops.LoadAddr number) unit i f heap = takes_address (array_place number) i f heap f.stack
effects_of (ops.LoadInd place) unit i f heap = loads_through place i f heap f.stack
effects_of (ops.StoreInd place) unit i f heap = stores_through place i f heap f.stack

abbrev pub effects : MethodUnit → Instr → Frame → Heap → List Effect
effects unit i f heap = effects_of i.op unit i f heap

-- The list has the effect.
abbrev pub HasEffect : List Effect → Effect → Type 0
HasEffect [] effect = ⊥
HasEffect (e ∷ es) effect = (effect ≡ e) ⊎ HasEffect es effect
