use Rattle.std.proofs.Common.{◌≡◌, ◌++◌, length}
use Rattle.asm_image.specs.Rows.{methods_of}
use Rattle.asm_image.proofs.assembly.read_methods.Given as goal

abbrev pub invariant-loop-method : goal.invariant-loop-method
invariant-loop-method l = l.methods.items ++ l.walk ≡ methods_of l.file

abbrev pub decreases-loop-method : goal.decreases-loop-method
decreases-loop-method l = length l.walk
