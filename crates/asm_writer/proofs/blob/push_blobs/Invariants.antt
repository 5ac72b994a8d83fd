use Rattle.std.proofs.Common.{◌≡◌, take, map}
use Rattle.std.specs.List.{fold}
use Rattle.asm_writer.specs.Blobs.{blob_item}
use Rattle.asm_writer.specs.Packing.{pushed}
use Rattle.asm_writer.proofs.blob.push_blobs.Given as goal

abbrev pub invariant-loop-blob : goal.invariant-loop-blob
invariant-loop-blob l = l.heap ≡ fold pushed l.initial.heap (map blob_item (take l.blob-index l.blobs))
