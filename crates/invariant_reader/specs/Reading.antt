-- What is read of a text.
use Rattle.std.specs.Prelude.{◌≡◌, ℕ, List, Option, Some, None}
use Rattle.std.specs.List.{AllByRecursion}
use Rattle.abs_state.specs.StateParts.{AreParts, parts_of}
use Rattle.cil_model.specs.declared.unit.Unit.{Unit as MethodUnit}
use Rattle.invariant_text.specs.InvariantText.{invariant_text}
use Rattle.invariant_text.specs.Shape.{AreOfBlocks}
use Rattle.state_facts.specs.StateFacts.{State}

-- The lists of the state are those of a state of the code: bounds and pairs are in order.
abbrev pub HasParts : State → Type 0
HasParts state = AreParts (parts_of state)

-- The text is that of these states, of the blocks that start at these IL offsets.
pub record IsTextOf (unit : MethodUnit) (blocks : List ℕ) (states : List State) (text : List ℕ) : Type 0 where
  pub printable : AreOfBlocks blocks states
  pub ordered : AllByRecursion HasParts states
  pub same : invariant_text unit blocks states ≡ text

-- The states whose text it is. None exactly where it is the text of none.
abbrev pub IsReadAs : MethodUnit → List ℕ → List ℕ → Option (List State) → Type 0
IsReadAs unit blocks text (Some states) = IsTextOf unit blocks states text
IsReadAs unit blocks text None = (states : List State) → IsTextOf unit blocks states text → ⊥
