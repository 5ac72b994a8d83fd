use Rattle.result_cache.proofs.KeptLemmas.{HaveRoom}
use Rattle.result_cache.proofs.cache_writer.kept_count.Given as goal

abbrev pub invariant-loop-index : goal.invariant-loop-index
invariant-loop-index g l = HaveRoom (g.E.Entries.entries l.entries) l.index l.left
