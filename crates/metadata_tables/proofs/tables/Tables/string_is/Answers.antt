use Rattle.metadata_tables.specs.Heaps.{string_is}
use Rattle.metadata_tables.proofs.tables.Tables.string_is.Goals as goal

pub returns : goal.returns
unfolding string_is
returns c = rw (← c.self.view_is, ← c.self.invariant.strings_kept, ← c.rest_from.ensures) c.is_text.ensures
