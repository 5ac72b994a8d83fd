use Rattle.std.proofs.Common.{length}
use Rattle.result_cache.specs.Links.{number_in}
use Rattle.result_cache.proofs.BucketLaws.{IsSought}
use Rattle.result_cache.proofs.buckets.find.Given as goal

abbrev pub invariant-loop-link : goal.invariant-loop-link
invariant-loop-link l = IsSought l.bytes l.rows (length l.heads) l.key l.link

abbrev pub decreases-loop-link : goal.decreases-loop-link
decreases-loop-link l = number_in l.link
