use Rattle.std.proofs.Common.{◌≡◌, ◌++◌, take}
use Rattle.cil_model.specs.Places.{parameters_text}
use Rattle.asm_image.proofs.names.append_places.Given as goal

abbrev pub invariant-loop-index : goal.invariant-loop-index
invariant-loop-index l = l.line.items ≡ l.initial.line.items ++ parameters_text (take l.index l.places)
