use Rattle.metadata_tables.proofs.HeapLemmas.{user_string_at-is}
use Rattle.metadata_tables.proofs.tables.Tables.user_string_at.Goals as goal

pub returns : goal.returns
returns c =
    let kept = rw c.self.view_is at c.self.invariant.user_strings_kept in
    user_string_at-is c.args.self.now c.self.inside.user_strings.now c.rest_from.result.now c.args.index _ kept c.rest_from.ensures c.item_of.ensures
