-- The first fault of a method's code, as a function of the code and the shape.
use Rattle.std.specs.Prelude.{ℕ, suc, ◌*◌, List, length, Option}
use Rattle.std.specs.Result.{result_err}
use Rattle.cil_model.specs.Passes.{after_passes}
use Rattle.cil_model.specs.declared.instruction.Instr.{Instr}
use Rattle.cil_model.specs.declared.shape.Shape.{Shape}
use Rattle.cil_model.specs.declared.type_fault.TypeFault.{TypeFault}

-- So many passes settle any code. A pass that changes something brings an instruction its first stack, or merges a
-- null of a stack with an array, and no stack that comes has more than `max_stack` values.
abbrev pub most_passes : Shape → List Instr → ℕ
most_passes shape is = length is * suc shape.max_stack

-- The first fault of the code, if the passes meet one.
unfoldable pub first_type_fault : List Instr → Shape → Option TypeFault
first_type_fault is shape = result_err (after_passes shape is (most_passes shape is))
