use Rattle.std.proofs.Common.{Global, Vec, ℕ}
use Rattle.result_cache.proofs.KeptLemmas.{file_kept}
use Rattle.result_cache.proofs.cache_writer.cache_bytes.Goals as goal

pub returns-clause-file : goal.returns-clause-file
returns-clause-file g c =
    file_kept (λ (v : Vec ℕ Global). v.items) c.written.result (g.E.Entries.entries c.args.entries.now) c.requires c.written.ensures
