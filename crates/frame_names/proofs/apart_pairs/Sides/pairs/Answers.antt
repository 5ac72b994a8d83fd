use Rattle.frame_names.specs.ApartPairs.{are_apart_in_both}
use Rattle.frame_names.proofs.ListSteps.{pairs_step}
use Rattle.frame_names.proofs.apart_pairs.Sides.pairs.Goals as goal

pub loop-before-preserved : goal.loop-before-preserved
loop-before-preserved c =
    let self = c.args.self.now in
    pairs_step (are_apart_in_both self.keys.now self.a.now self.a_apart.now self.b.now self.b_apart.now) c.loop-before.apart c.keep_row.new.apart
    c.loop-before.before c.loop-before.invariant c.in_ok-keep_row.ensures
