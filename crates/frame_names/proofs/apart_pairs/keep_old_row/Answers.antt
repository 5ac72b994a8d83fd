use Rattle.std.proofs.Common.{arith}
use Rattle.frame_names.specs.ApartPairs.{were_kept, with_test}
use Rattle.frame_names.proofs.ListSteps.{row_step}
use Rattle.frame_names.proofs.apart_pairs.keep_old_row.Goals as goal

pub loop-lower-preserved : goal.loop-lower-preserved
loop-lower-preserved c = record {
  so_far = row_step (with_test (were_kept c.args.keys.now c.args.kept.now) c.args.higher) c.args.apart.now c.loop-lower.apart c.keep_old.new.apart
      c.loop-lower.lower c.loop-lower.invariant.positive c.loop-lower.invariant.so_far c.in_ok-keep_old.ensures;
  positive = omega arith;
  within = omega (arith, c.loop-lower-test.true);
}
