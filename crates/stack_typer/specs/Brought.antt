-- Stacks on the way to those of the code.
use Rattle.std.specs.Prelude.{◌≡◌, ℕ, List, Ok}
use Rattle.cil_model.specs.Passes.{Stacks, after_passes}
use Rattle.cil_model.specs.declared.instruction.Instr.{Instr}
use Rattle.cil_model.specs.declared.shape.Shape.{Shape}

-- Some number of passes brings these stacks.
pub record AreBrought (shape : Shape) (is : List Instr) (stacks : Stacks) : Type 0 where
  pub passes : ℕ
  pub brought : after_passes shape is passes ≡ Ok stacks
