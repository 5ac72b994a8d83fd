-- Arguments that are taken from a stack one by one, the last one first.
use Rattle.std.specs.Prelude.{List, [], ◌∷◌, Option, Some, None}
use Rattle.cil_model.specs.Values.{Heap, put}
use Rattle.cil_model.specs.declared.machine.Value.{Value}
use Rattle.cil_model.specs.declared.place.Place.{Place}

-- The arguments and the rest of the stack.
pub record Taken : Type 0 where
  pub args : List Value
  pub rest : List Value

abbrev pub taken_with : Option Value → (Value → Option Taken) → Option Taken
taken_with None next = None
taken_with (Some value) next = next value

-- For places from the last on: what they take from a stack, put before the arguments that were taken so far.
abbrev pub taken : Heap → List Place → List Value → List Value → Option Taken
taken heap [] args stack = Some (record { args = args; rest = stack })
taken heap (place ∷ places) args [] = None
taken heap (place ∷ places) args (value ∷ stack) = taken_with (put heap place value) (λ put. taken heap places (put ∷ args) stack)
