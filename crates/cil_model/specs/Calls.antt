-- Calls and returns: contracts are tested there, and frames begin and end (ECMA-335 III.3.19 and III.3.57).
use Rattle.std.specs.Prelude.{◌≡◌, ◌⊎◌, ℕ, ◌+◌, ◌<◌, ◌≤◌, List, [], ◌∷◌, ◌++◌, length, map, reverse, take, drop, Option, Some, None, option_map, Contains, slice_get}
use Rattle.std.specs.Option.{option_and_then}
use Rattle.cil_model.specs.Clauses.{false_requires, false_ensures}
use Rattle.cil_model.specs.Values.{Heap, IsHeap, KeepsForms, put, put_all, zero_of, FitsPlace}
use Rattle.cil_model.specs.declared.clause.Clause.{Clause}
use Rattle.cil_model.specs.declared.instruction.Instr.{Instr}
use Rattle.cil_model.specs.declared.machine.Config.{Config}
use Rattle.cil_model.specs.declared.machine.Config.TheVariants as configs
use Rattle.cil_model.specs.declared.machine.FaultKind.TheVariants as faults
use Rattle.cil_model.specs.declared.machine.Frame.{Frame}
use Rattle.cil_model.specs.declared.machine.Value.{Value}
use Rattle.cil_model.specs.declared.machine.Value.TheVariants as values
use Rattle.cil_model.specs.declared.machine.World.{World}
use Rattle.cil_model.specs.declared.place.Place.{Place}
use Rattle.cil_model.specs.declared.place.Place.TheVariants as places
use Rattle.cil_model.specs.declared.unit.CalleeInfo.{CalleeInfo}
use Rattle.cil_model.specs.declared.unit.Unit.{Unit as MethodUnit}

-- ---- clauses

-- The clauses that calls and returns of a method test, and that its callers know.
abbrev pub clauses_in_force : MethodUnit → List Clause
clauses_in_force unit = unit.clauses

-- ---- arguments

-- What a call of a method with these parameters takes from a stack: the arguments, the last of them from the
-- top, as they are put into the parameters' places.
abbrev pub args_of : Heap → List Place → List Value → Option (List Value)
args_of heap places stack = put_all heap places (reverse (take (length places) stack))

-- The caller goes on after the call, without the arguments.
abbrev pub behind_call : Instr → ℕ → Frame → Frame
behind_call i count f = record f { at = i.at + i.size; stack = drop count f.stack }

-- ---- frames

-- A frame at the start of a method's body.
abbrev pub entry_frame : MethodUnit → ℕ → List Value → Heap → Frame
entry_frame unit index args heap = record {
  unit = index;
  at = unit.body_start;
  stack = [];
  locals = map zero_of unit.locals;
  args = args;
  entry_args = args;
  entry_heap = heap;
}

abbrev pub pushed : Frame → Option Value → Frame
pushed f None = f
pushed f (Some value) = record f { stack = value ∷ f.stack }

-- ---- the call of a method of the world

-- What comes of a call: the fault of the first Requires that is not true, or a frame above the caller's.
abbrev pub called : List Frame → MethodUnit → ℕ → List Value → Instr → Frame → Heap → Option ℕ → Config
called callers callee index args i f heap (Some k) = configs.Fault (faults.Requires k) f.unit i.at
called callers callee index args i f heap None =
    configs.Live (callers ++ behind_call i (length callee.args) f ∷ entry_frame callee index args heap ∷ []) heap

-- The index in the world of the callee of this number in the unit of this index.
abbrev pub callee_index : World → ℕ → ℕ → Option ℕ
callee_index w unit number = option_and_then (λ callees. slice_get callees number) (slice_get w.callee unit)

-- A call of the callee of this number.
pub record WorldCall (w : World) (callers : List Frame) (number : ℕ) (i : Instr) (f : Frame) (heap : Heap) (new : Config) : Type 0 where
  pub index : ℕ
  pub callee : MethodUnit
  pub args : List Value
  pub index_is : callee_index w f.unit number ≡ Some index
  pub callee_is : slice_get w.units index ≡ Some callee
  pub args_are : args_of heap callee.args f.stack ≡ Some args
  pub new_is : new ≡ called callers callee index args i f heap (false_requires (clauses_in_force callee) args heap)

-- ---- a free call

-- The array that a value names: that of a reference, or that of an address.
abbrev pub named_array : Value → Option ℕ
named_array (values.Array a) = Some a
named_array (values.Addr a n) = Some a
named_array (values.Int n) = None
named_array (values.Native n) = None
named_array values.Null = None
named_array values.Text = None

-- The array, if there is one, was passed or is new.
abbrev pub IsArrayPassedOrNew : Heap → List Value → Option ℕ → Type 0
IsArrayPassedOrNew heap args None = Unit {0}
IsArrayPassedOrNew heap args (Some a) = Contains args (values.Array a) ⊎ (length heap ≤ a)

-- The value, if there is one, names an array that was passed or is new, or no array.
abbrev pub IsPassedOrNew : Heap → List Value → Option Value → Type 0
IsPassedOrNew heap args None = Unit {0}
IsPassedOrNew heap args (Some value) = IsArrayPassedOrNew heap args (named_array value)

-- The result of a call is a value of its place, none where it is void.
abbrev pub FitsResult : Heap → Place → Option Value → Type 0
FitsResult heap places.Void None = Unit {0}
FitsResult heap places.Void (Some value) = ⊥
FitsResult heap place None = ⊥
FitsResult heap place (Some value) = FitsPlace heap place value

-- Each earlier array keeps its type and its length, and its items too unless it was passed.
pub record KeepsArrays (old new : Heap) (args : List Value) : Type 0 where
  pub forms : KeepsForms old new
  pub items : (a : ℕ) → a < length old → ¬ Contains args (values.Array a) → slice_get new a ≡ slice_get old a

-- What a call may give that is free to do all that its callee's Ensures allow.
pub record FreeReturn (callee : CalleeInfo) (args : List Value) (heap new : Heap) (result : Option Value) : Type 0 where
  pub heap_is : IsHeap new
  pub keeps : KeepsArrays heap new args
  pub fits : FitsResult new callee.result result
  pub passed_or_new : IsPassedOrNew heap args result
  pub ensured : false_ensures callee.clauses (record { args = args; entry_heap = heap; heap = new; result = result }) ≡ None

-- What comes of a free call: the fault of the first Requires that is not true, or the caller with a result
-- over a new heap. It may also not come back, since the callee may assume what is false or find no room, and it
-- cannot where nothing meets its Ensures. The run then ends without a fault.
abbrev pub FreelyCalled : CalleeInfo → List Value → Instr → Frame → Heap → Option ℕ → Config → Type 0
FreelyCalled callee args i f heap (Some k) new = new ≡ configs.Fault (faults.Requires k) f.unit i.at
FreelyCalled callee args i f heap None new =
    (new ≡ configs.NoRoom) ⊎ ((after : Heap) × (result : Option Value) × FreeReturn callee args heap after result
    × (new ≡ configs.Live (pushed (behind_call i (length callee.args) f) result ∷ []) after))

-- A free call of the unit's callee of this number.
pub record FreeCall (unit : MethodUnit) (number : ℕ) (i : Instr) (f : Frame) (heap : Heap) (new : Config) : Type 0 where
  pub callee : CalleeInfo
  pub args : List Value
  pub callee_is : slice_get unit.callees number ≡ Some callee
  pub args_are : args_of heap callee.args f.stack ≡ Some args
  pub freely : FreelyCalled callee args i f heap (false_requires callee.clauses args heap) new

-- ---- returns

-- What a return takes from the stack, as it is put into the result: a value of its form, or none where the
-- result is void. Nothing else may stand there.
abbrev pub result_of : Heap → Place → List Value → Option (Option Value)
result_of heap place (value ∷ []) = option_map Some (put heap place value)
result_of heap places.Void [] = Some None
result_of heap place _ = None

-- A result goes to the caller, or it is the end of the run.
abbrev pub Returns : List Frame → Option Value → Heap → Config → Type 0
Returns callers result heap new =
    ((callers ≡ []) × (new ≡ configs.Returned result))
    ⊎ ((outer : List Frame) × (caller : Frame) × (callers ≡ outer ++ caller ∷ [])
    × (new ≡ configs.Live (outer ++ pushed caller result ∷ []) heap))

-- The first Ensures that is not true of what a frame returns.
abbrev pub ensures_fault : MethodUnit → Frame → Heap → Option Value → Option ℕ
ensures_fault unit f heap result =
    false_ensures (clauses_in_force unit) (record { args = f.entry_args; entry_heap = f.entry_heap; heap = heap; result = result })

abbrev pub Returned : List Frame → Instr → Frame → Heap → Option Value → Option ℕ → Config → Type 0
Returned callers i f heap result (Some k) new = new ≡ configs.Fault (faults.Ensures k) f.unit i.at
Returned callers i f heap result None new = Returns callers result heap new

-- A return.
abbrev pub ReturnRow : List Frame → MethodUnit → Instr → Frame → Heap → Config → Type 0
ReturnRow callers unit i f heap new =
    (result : Option Value) × (result_of heap unit.result f.stack ≡ Some result)
    × Returned callers i f heap result (ensures_fault unit f heap result) new
