use Rattle.std.proofs.Common.{length-append, arith, rules}
use Rattle.signature_blobs.proofs.Loop.{goes_on}
use Rattle.signature_blobs.proofs.TypeLaws.{types-more}
use Rattle.signature_blobs.proofs.types.types_at.Goals as goal

pub loop-preserved : goal.loop-preserved
loop-preserved c = record {
  number = grind (arith, length-append);
  found = rw c.push.ensures (search (rules, types-more));
  so_far = rw c.push.ensures (goes_on c.args.blob.now c.loop.places c.args.count c.loop.counter c.loop.next c.in-Some.place c.in-Some.after _ c.loop-test.true (grind arith) c.loop.invariant.so_far);
}
