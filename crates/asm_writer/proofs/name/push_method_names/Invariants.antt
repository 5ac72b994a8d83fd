use Rattle.std.proofs.Common.{◌≡◌, take, map}
use Rattle.std.specs.List.{fold}
use Rattle.asm_writer.specs.Names.{method_name_item}
use Rattle.asm_writer.specs.Packing.{pushed}
use Rattle.asm_writer.proofs.name.push_method_names.Given as goal

abbrev pub invariant-loop-method : goal.invariant-loop-method
invariant-loop-method l = l.heap ≡ fold pushed l.initial.heap (map (method_name_item) (take l.method-index l.plan.methods.items))
