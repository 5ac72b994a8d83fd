use Rattle.result_cache.proofs.EntryLemmas.{entry_is}
use Rattle.result_cache.proofs.cache.Cache.entry.Goals as goal

pub returns-clause-invariant : goal.returns-clause-invariant
returns-clause-invariant c = entry_is c.entry.result c.self.inside.invariants c.args.index c.self.invariant c.entry.ensures
