use Rattle.std.proofs.Common.{◌≡◌, take}
use Rattle.std.specs.List.{fold, flat_map}
use Rattle.asm_writer.specs.Names.{extern_name_items}
use Rattle.asm_writer.specs.Packing.{pushed}
use Rattle.asm_writer.proofs.name.push_externs.Given as goal

abbrev pub invariant-loop-method : goal.invariant-loop-method
invariant-loop-method l = l.heap ≡ fold pushed l.initial.heap (flat_map extern_name_items (take l.method-index l.externs))
