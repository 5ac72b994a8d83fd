use Rattle.std.proofs.Common.{◌∙◌}
use Rattle.array_segments.specs.Segments.{lists_of}
use Rattle.invariant_codec.proofs.PutSteps.{one_reference}
use Rattle.invariant_codec.proofs.put_arrays.put_each_reference.Goals as goal

pub loop-i-preserved : goal.loop-i-preserved
loop-i-preserved c =
    one_reference lists_of c.args.references.now c.args.segments.now c.loop-i.i _ c.index-segments-i.result
    c.loop-i.out.items
    c.put_array.new.out.items c.loop-i-test.true c.requires.each c.index-segments-i.is
    c.in_ok-put_array.ensures
    ∙ c.loop-i.invariant
