use Rattle.frame_names.specs.ApartPairs.{were_kept}
use Rattle.frame_names.proofs.ListSteps.{pairs_step}
use Rattle.frame_names.proofs.apart_pairs.old_pairs.Goals as goal

pub loop-before-preserved : goal.loop-before-preserved
loop-before-preserved c =
    pairs_step (were_kept c.args.keys.now c.args.kept.now) c.loop-before.apart c.keep_old_row.new.apart c.loop-before.before c.loop-before.invariant
    c.in_ok-keep_old_row.ensures
