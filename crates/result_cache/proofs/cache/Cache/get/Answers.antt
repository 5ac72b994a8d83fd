use Rattle.result_cache.proofs.EntryLemmas.{got_is}
use Rattle.result_cache.proofs.cache.Cache.get.Goals as goal

pub returns-clause-invariant : goal.returns-clause-invariant
returns-clause-invariant c = got_is c.get.result c.self.inside.invariants c.args.key.now c.self.invariant c.get.ensures
