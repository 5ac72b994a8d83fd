-- The arguments of a call, which lie on top of the stack, and the result of a return.
use Rattle.std.specs.Prelude.{ℕ, ◌+◌, ◌-◌, List, [], ◌∷◌, length, slice_get}
use Rattle.std.specs.Option.{option_map_or}
use Rattle.cil_model.specs.declared.place.Place.{Place}
use Rattle.cil_model.specs.declared.place.Place.TheVariants as places
use Rattle.state_facts.specs.StateFacts.{State, variables_in}
use Rattle.state_facts.specs.States.{put}

-- The list index of the first of so many uppermost variables.
abbrev pub first_of : ℕ → State → ℕ
first_of count state = length (variables_in state) - count

-- What a variable has is put into a place of this type.
abbrev pub put_slot : ℕ → Place → State → State
put_slot i place state = option_map_or (λ v. put i v place state) (slice_get (variables_in state) i) state

-- So for the variables from a list index on, one after the other.
abbrev pub put_from : ℕ → List Place → State → State
put_from i [] state = state
put_from i (place ∷ places) state = put_from (i + 1) places (put_slot i place state)

-- The arguments of a call, the last one uppermost, are put into the places of its parameters.
unfoldable pub put_args : List Place → State → State
put_args places state = put_from (first_of (length places) state) places state

-- The place of a result. There is none where it is void.
abbrev pub result_places : Place → List Place
result_places places.Void = []
result_places place = place ∷ []

-- What is returned is put into the place of the result.
unfoldable pub put_result : Place → State → State
put_result place state = put_args (result_places place) state
