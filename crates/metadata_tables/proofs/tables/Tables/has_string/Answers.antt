use Rattle.metadata_tables.specs.Heaps.{string_at}
use Rattle.metadata_tables.proofs.tables.Tables.has_string.Goals as goal

pub returns : goal.returns
unfolding string_at
returns c = rw (← c.self.view_is, ← c.self.invariant.strings_kept) (c.self.invariant.texts_end c.args.index)
