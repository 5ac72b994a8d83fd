use Rattle.std.proofs.Common.{arith, length, ◌+◌, ap}
use Rattle.std.proofs.lemmas.List.{length-set}
use Rattle.result_cache.specs.Buckets.{bucket_of, head_of}
use Rattle.result_cache.specs.Links.{link_to}
use Rattle.result_cache.proofs.BucketLaws.{chains_next, none_under_way}
use Rattle.result_cache.proofs.RowLaws.{within_at}
use Rattle.result_cache.proofs.buckets.chain_all.Goals as goal

pub loop-index-init : goal.loop-index-init
loop-index-init c = (none_under_way c.args.bytes.now c.args.rows.now c.args.heads.now c.requires.within c.requires.empty, c.requires.room)

pub key-requires : goal.key-requires
key-requires c =
    within_at c.args.bytes.now c.loop-index.rows c.loop-index.index _ c.loop-index.invariant.0.within
    (omega (arith, c.loop-index-test.true, c.loop-index.auto.rows))

pub loop-index-preserved : goal.loop-index-preserved
loop-index-preserved c = (
  chains_next c.args.bytes.now c.args.rows.now c.loop-index.rows c.loop-index.heads c.chain.new.heads c.loop-index.index
      c.hash_of-hash.result c.chain.result c.key.result.now c.loop-index.invariant.0
      (omega (arith, c.loop-index-test.true, c.loop-index.auto.rows)) (omega (arith, c.requires.few, c.loop-index.auto.rows))
      c.loop-index.invariant.1 c.key.ensures c.hash_of-hash.ensures c.chain.ensures.value c.chain.ensures.heads,
  omega (arith, c.loop-index.invariant.1, ap length c.chain.ensures.heads, length-set c.loop-index.heads (bucket_of (length c.loop-index.heads) c.hash_of-hash.result) (link_to (c.loop-index.index + 1) (head_of c.loop-index.heads c.hash_of-hash.result) c.hash_of-hash.result)),
)
