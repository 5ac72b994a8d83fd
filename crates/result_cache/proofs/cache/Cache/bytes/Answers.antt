use Rattle.result_cache.proofs.cache.Cache.bytes.Goals as goal

pub cache_bytes-requires : goal.cache_bytes-requires
cache_bytes-requires c = rw (← c.self.view_is) c.self.invariant
