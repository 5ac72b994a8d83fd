use Rattle.std.proofs.Common.{arith}
use Rattle.frame_names.specs.ApartPairs.{are_apart_in_both, with_test}
use Rattle.frame_names.proofs.ListSteps.{row_step}
use Rattle.frame_names.proofs.apart_pairs.Sides.keep_row.Goals as goal

pub loop-lower-preserved : goal.loop-lower-preserved
loop-lower-preserved c =
    let self = c.args.self.now in
    record {
      so_far = row_step (with_test (are_apart_in_both self.keys.now self.a.now self.a_apart.now self.b.now self.b_apart.now) c.args.higher) c.args.apart.now
          c.loop-lower.apart c.keep.new.apart c.loop-lower.lower c.loop-lower.invariant.positive c.loop-lower.invariant.so_far c.in_ok-keep.ensures;
      positive = omega arith;
      within = omega (arith, c.loop-lower-test.true);
    }
