use Rattle.std.proofs.Common.{◌<◌, length}
use Rattle.result_cache.proofs.BucketLaws.{AreUnderWay}
use Rattle.result_cache.proofs.buckets.chain_all.Given as goal

abbrev pub invariant-loop-index : goal.invariant-loop-index
invariant-loop-index l = AreUnderWay l.bytes l.fn.rows l.rows l.heads l.index × (0 < length l.heads)
