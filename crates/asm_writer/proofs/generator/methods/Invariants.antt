use Rattle.std.proofs.Common.{◌≡◌, ◌++◌, ◌-◌, map}
use Rattle.asm_writer.specs.Generator.{methods_from}
use Rattle.asm_writer.specs.Plans.{method_value}
use Rattle.asm_writer.proofs.generator.methods.Given as goal

-- the methods so far and those to come are all
abbrev pub invariant-loop-index : goal.invariant-loop-index
invariant-loop-index l = map method_value l.methods.items ++ methods_from l.index l.x (l.count - l.index) ≡ methods_from 0 l.seed l.count
