-- What a state says of values over a heap, and of a point of a run.
use Rattle.std.specs.Prelude.{◌≡◌, ℕ, ℤ, pos, true, List, [], ◌∷◌, ◌++◌, length, reverse, slice_get, Option, Some, None}
use Rattle.std.specs.Option.{option_map_or}
use Rattle.alias_facts.specs.Arrays.{AllDiffer, is_no_array}
use Rattle.array_contents.specs.Contents.{AreHeld}
use Rattle.alias_facts.specs.NullnessOf.{Agrees}
use Rattle.cil_model.specs.Comparisons.{number_of, reference_of}
use Rattle.cil_model.specs.Values.{Heap, has_array}
use Rattle.cil_model.specs.declared.machine.Frame.{Frame}
use Rattle.cil_model.specs.declared.machine.Value.{Value}
use Rattle.cil_model.specs.declared.machine.Value.TheVariants as values
use Rattle.cil_model.specs.declared.place.Place.{Place}
use Rattle.machine_points.specs.MachineValues.{HasMachineValues}
use Rattle.machine_points.specs.declared.point.Point.{Point}
use Rattle.number_facts.specs.Holds.{Holds}
use Rattle.symbolic_values.specs.Worth.{worth}
use Rattle.state_facts.specs.StateFacts.{StateFacts, State, reference_at}
use Rattle.frame_names.specs.declared.reference.Reference.{Reference}
use Rattle.frame_names.specs.declared.var.Var.{Var}
use Rattle.frame_names.specs.declared.var.Var.TheVariants as vars

-- ---- variables

-- The array of an address, as reference_of gives that of a reference, and the index of its item.
abbrev pub address_of : Value → Option (Option ℕ × ℤ)
address_of (values.Int n) = None
address_of (values.Native n) = None
address_of values.Null = None
address_of (values.Array a) = None
address_of (values.Addr a n) = Some (Some a, pos n)
address_of values.Text = None

-- A variable has the value of its expression, or is its reference, or a text, or the address of the item that its
-- expression is worth, in the array that its reference is, where each symbol is a number and each reference is null or
-- the array of a number.
abbrev pub HasValue : (ℕ → ℤ) → (ℕ → Option ℕ) → Var → Value → Type 0
HasValue number array (vars.Number e) value = number_of value ≡ Some (worth number e)
HasValue number array (vars.Reference r) value = reference_of value ≡ Some (array r)
HasValue number array vars.Text value = value ≡ values.Text
HasValue number array (vars.Address r e) value = address_of value ≡ Some (array r, worth number e)

abbrev pub HaveValues : (ℕ → ℤ) → (ℕ → Option ℕ) → List Var → List Value → Type 0
HaveValues number array [] [] = Unit {0}
HaveValues number array (v ∷ vs) (value ∷ values) = HasValue number array v value × HaveValues number array vs values
HaveValues number array _ _ = ⊥

-- ---- references

abbrev pub length_in : Heap → ℕ → ℕ
length_in heap i = option_map_or (λ cell. length cell.items) (slice_get heap i) 0

-- The length of null is 0.
abbrev pub length_of_array : Heap → Option ℕ → ℤ
length_of_array heap None = pos 0
length_of_array heap (Some i) = pos (length_in heap i)

abbrev pub FitsArray : Heap → Place → Option ℕ → Type 0
FitsArray heap place None = Unit {0}
FitsArray heap place (Some i) = has_array heap place i ≡ true

-- What is known of a reference is so, where it is null or this array.
pub record IsSo (heap : Heap) (number : ℕ → ℤ) (r : Reference) (array : Option ℕ) : Type 0 where
  pub fits : FitsArray heap r.place array
  pub agrees : Agrees r.nullness (is_no_array array)
  pub length_is : worth number r.length ≡ length_of_array heap array

abbrev pub AreSo : Heap → (ℕ → ℤ) → (ℕ → Option ℕ) → List Reference → Type 0
AreSo heap number array references =
    (r : ℕ) (known : Reference) → reference_at references r ≡ Some known → IsSo heap number known (array r)

-- ---- items

abbrev pub items_in : Heap → ℕ → List ℤ
items_in heap i = option_map_or (λ cell. cell.items) (slice_get heap i) []

-- Null has no items.
abbrev pub items_of_array : Heap → Option ℕ → List ℤ
items_of_array heap None = []
items_of_array heap (Some i) = items_in heap i

-- ---- states

-- All that is known is so of these values over this heap, by this choice of a number for each symbol and of null or an
-- array for each reference.
pub record HoldsBy (known : StateFacts) (vs : List Value) (heap : Heap) (number : ℕ → ℤ) (array : ℕ → Option ℕ) : Type 0 where
  pub null : array 0 ≡ None
  pub facts : Holds known.facts number (λ r. is_no_array (array r))
  pub variables : HaveValues number array known.variables vs
  pub references : AreSo heap number array known.references
  pub apart : AllDiffer array known.apart
  pub contents : AreHeld number (λ r. items_of_array heap (array r)) known.contents

abbrev pub HoldsIn : State → List Value → Heap → (ℕ → ℤ) → (ℕ → Option ℕ) → Type 0
HoldsIn None vs heap number array = ⊥
HoldsIn (Some known) vs heap number array = HoldsBy known vs heap number array

-- ---- points

-- The values of a frame's variables, in order: the arguments at its entry, the arguments, the locals, and the stack
-- from the bottom.
abbrev pub variables_of : Frame → List Value
variables_of frame = frame.entry_args ++ frame.args ++ frame.locals ++ reverse frame.stack

-- The state holds of a frame over a heap, by some choice.
pub record HoldsOf (state : State) (frame : Frame) (heap : Heap) : Type 0 where
  pub number : ℕ → ℤ
  pub array : ℕ → Option ℕ
  pub holds : HoldsIn state (variables_of frame) heap number array

-- The state holds of a point: it has values of the machine, and the state holds of its frame over its heap.
pub record HoldsAt (state : State) (p : Point) : Type 0 where
  pub machine : HasMachineValues p
  pub frame : HoldsOf state p.frame p.heap
