use Rattle.std.proofs.Common.{◌-◌, ◌≤◌, length}
use Rattle.result_cache.specs.CacheFile.{entry_field}
use Rattle.invariant_codec.proofs.Counted.{AreRead}
use Rattle.result_cache.proofs.entry_reader.read_each.Given as goal

abbrev pub invariant-loop-entry : goal.invariant-loop-entry
invariant-loop-entry l =
    AreRead (entry_field l.bytes) l.count l.start l.cache (l.count - l._entry) l.at × (l.at ≤ length l.bytes)
