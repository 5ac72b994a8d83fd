use Rattle.std.proofs.Common.{◌≡◌, ◌++◌, take}
use Rattle.std.specs.List.{flat_map}
use Rattle.cil_model.specs.Places.{next_parameter}
use Rattle.cil_model.proofs.parameters.put_next_parameters.Given as goal

abbrev pub invariant-loop-place : goal.invariant-loop-place
invariant-loop-place l = l.text.items ≡ l.initial.text.items ++ flat_map next_parameter (take l.place-index l.places)
