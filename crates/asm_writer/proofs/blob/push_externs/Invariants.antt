use Rattle.std.proofs.Common.{◌≡◌, take, map}
use Rattle.std.specs.List.{fold}
use Rattle.asm_writer.specs.Packing.{pushed}
use Rattle.asm_writer.specs.Signatures.{extern_blob}
use Rattle.asm_writer.proofs.blob.push_externs.Given as goal

abbrev pub invariant-loop-method : goal.invariant-loop-method
invariant-loop-method l = l.heap ≡ fold pushed l.initial.heap (map extern_blob (take l.method-index l.externs))
