-- What it means that one state follows from another: it holds of the same values over the same heap.
use Rattle.std.specs.Prelude.{◌≡◌, ℕ, ℤ, Bool, true, List, Option, None, FitsSigned, Some}
use Rattle.std.specs.Int.{w32}
use Rattle.std.specs.List.{AllByRecursion}
use Rattle.cil_model.specs.Comparisons.{number_of}
use Rattle.cil_model.specs.Values.{Heap, IsHeap}
use Rattle.cil_model.specs.declared.machine.Value.{Value}
use Rattle.frame_names.specs.Frames.{reference_at}
use Rattle.state_facts.specs.Holds.{HoldsIn, address_of}
use Rattle.state_facts.specs.StateFacts.{StateFacts, State}

-- A number that a value has is an int32, and so is the index of an address.
pub record IsMachineNumber (value : Value) : Type 0 where
  pub number : (n : ℤ) → number_of value ≡ Some n → FitsSigned w32 n
  pub index : (array : Option ℕ) (n : ℤ) → address_of value ≡ Some (array, n) → FitsSigned w32 n

-- The heap is one of the machine, and so are the numbers and indices among the values.
pub record AreOfMachine (vs : List Value) (heap : Heap) : Type 0 where
  pub numbers : AllByRecursion IsMachineNumber vs
  pub arrays : IsHeap heap

-- Some choice makes the state hold of these values.
pub record HoldsOver (state : State) (vs : List Value) (heap : Heap) : Type 0 where
  pub number : ℕ → ℤ
  pub array : ℕ → Option ℕ
  pub holds : HoldsIn state vs heap number array

-- Wherever the first state holds, the second one does.
abbrev pub Follows : State → State → Type 0
Follows a b = (vs : List Value) (heap : Heap) → AreOfMachine vs heap → HoldsOver a vs heap → HoldsOver b vs heap

-- A yes tells that the second state follows from the first.
abbrev pub TellsFollowing : StateFacts → StateFacts → Bool → Type 0
TellsFollowing a b answer = answer ≡ true → Follows (Some a) (Some b)

-- References that are not there are null.
abbrev pub AreNoneBeyond : StateFacts → (ℕ → Option ℕ) → Type 0
AreNoneBeyond known array = (r : ℕ) → reference_at known.references r ≡ None → array r ≡ None
