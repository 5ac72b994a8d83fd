use Rattle.std.proofs.Common.{◌≡◌, take, map}
use Rattle.std.specs.List.{fold}
use Rattle.asm_writer.specs.Names.{name_item}
use Rattle.asm_writer.specs.Packing.{pushed}
use Rattle.asm_writer.proofs.name.push_names.Given as goal

abbrev pub invariant-loop-name : goal.invariant-loop-name
invariant-loop-name l = l.heap ≡ fold pushed l.initial.heap (map (name_item l.plan) (take l.name-index l.names))
