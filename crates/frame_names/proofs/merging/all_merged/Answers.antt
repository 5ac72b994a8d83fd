use Rattle.std.proofs.Common.{◌+◌, ◌++◌, drop, ap, ◌∙◌}
use Rattle.frame_names.specs.MergedReferences.{merged_references}
use Rattle.frame_names.proofs.ListSteps.{merged_step}
use Rattle.frame_names.proofs.merging.all_merged.Goals as goal

pub loop-index-preserved : goal.loop-index-preserved
loop-index-preserved c =
    ap (λ l. l ++ merged_references c.args.a.now c.args.b.now (drop (c.loop-index.index + 1) c.args.keys.now) (drop (c.loop-index.index + 1) c.args.lengths.now))
    c.in_ok-push.ensures.items
    ∙ merged_step c.args.a.now c.args.b.now c.args.keys.now c.args.lengths.now c.loop-index.merged.items c.loop-index.index _ c.merged_reference.result
    c.expr_at.result c.loop-index-test.true c.expr_at.ensures c.merged_reference.ensures
    ∙ c.loop-index.invariant
