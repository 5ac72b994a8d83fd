use Rattle.metadata_tables.proofs.HeapLemmas.{blob_at-is}
use Rattle.metadata_tables.proofs.tables.Tables.blob_at.Goals as goal

pub returns : goal.returns
returns c =
    let kept = rw c.self.view_is at c.self.invariant.blob_kept in
    blob_at-is c.args.self.now c.self.inside.blob.now c.rest_from.result.now c.args.index _ kept c.rest_from.ensures c.item_of.ensures
