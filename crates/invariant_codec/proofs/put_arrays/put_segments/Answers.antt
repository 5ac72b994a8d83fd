use Rattle.std.proofs.Common.{◌∙◌, ◌<◌, length, rules}
use Rattle.invariant_codec.proofs.PutSteps.{one_segment}
use Rattle.invariant_codec.proofs.put_arrays.put_segments.Goals as goal

pub loop-i-preserved : goal.loop-i-preserved
loop-i-preserved c =
    let there : c.loop-i.i < length c.args.segs.now.contents.items = search rules in
    one_segment (λ bound. bound.items) c.args.segs.now.contents.items c.args.segs.now.marks.items
    c.args.segs.now.bounds.items c.loop-i.i
    c.index-in-loop-i.result.now c.index-in-loop-i-2.result.now c.index-in-loop-i-3.result.now
    c.deref-in-loop-i.result.now
    c.loop-i.out.items c.put_segment.new.out.items there c.requires.written.form.marked c.requires.written.form.bounded
    c.index-in-loop-i.ensures c.index-in-loop-i-2.ensures c.index-in-loop-i-3.ensures c.deref-in-loop-i.ensures.value
    c.in_ok-put_segment.ensures
    ∙ c.loop-i.invariant
