use Rattle.std.proofs.Common.{◌≡◌, ◌++◌, take}
use Rattle.std.specs.List.{flat_map}
use Rattle.result_cache.specs.Spelling.{entry_bytes}
use Rattle.result_cache.proofs.cache_writer.put_entries.Given as goal

abbrev pub invariant-loop-index : goal.invariant-loop-index
invariant-loop-index g l =
    l.out.items ≡ l.initial.out.items ++ flat_map entry_bytes (take l.index (g.E.Entries.entries l.entries))
