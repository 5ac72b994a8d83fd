use Rattle.std.proofs.Common.{◌≡◌, take}
use Rattle.std.specs.List.{fold, flat_map}
use Rattle.asm_writer.specs.Blobs.{method_blob_items}
use Rattle.asm_writer.specs.Packing.{pushed}
use Rattle.asm_writer.proofs.blob.push_methods.Given as goal

abbrev pub invariant-loop-method : goal.invariant-loop-method
invariant-loop-method l = l.heap ≡ fold pushed l.initial.heap (flat_map method_blob_items (take l.method-index l.methods))
