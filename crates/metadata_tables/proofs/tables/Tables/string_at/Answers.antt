use Rattle.metadata_tables.proofs.HeapLemmas.{string_at-is}
use Rattle.metadata_tables.proofs.tables.Tables.string_at.Goals as goal

pub returns : goal.returns
returns c =
    let kept = rw c.self.view_is at c.self.invariant.strings_kept in
    string_at-is c.args.self.now c.self.inside.strings.now c.rest_from.result.now c.args.index _ kept c.rest_from.ensures c.zero_ended.ensures
