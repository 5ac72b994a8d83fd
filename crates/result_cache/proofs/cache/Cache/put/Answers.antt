use Rattle.result_cache.proofs.EntryLemmas.{put_kept}
use Rattle.result_cache.proofs.cache.Cache.put.Goals as goal

pub invariant_of-self : goal.invariant_of-self
invariant_of-self c =
    put_kept c.insert.result c.self.inside.invariants c.insert.new.self c.args.key.now c.args.invariant.now c.insert.ensures.ok
    c.insert.ensures.err c.self.invariant c.requires
