use Rattle.std.proofs.Common.{ap, ◌∙◌}
use Rattle.asm_writer.specs.Blobs.{blob_heap}
use Rattle.asm_writer.specs.Packing.{filled}
use Rattle.asm_writer.proofs.PackingLemmas.{packed_first, packed_more}
use Rattle.asm_writer.proofs.blob.blob_heap.Goals as goal

pub returns : goal.returns
unfolding blob_heap
returns c =
    let blobs = packed_first _ _ _ c.new-heap.ensures c.in_ok-push_blobs.ensures in
    let methods = packed_more _ _ _ _ blobs c.in_ok-push_methods.ensures in
    c.in_ok-fill.ensures ∙ ap filled (packed_more _ _ _ _ methods c.in_ok-push_externs.ensures)
