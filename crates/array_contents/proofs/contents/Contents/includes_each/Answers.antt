use Rattle.std.proofs.Common.{◌<◌, length, arith}
use Rattle.array_segments.specs.SegmentLists.{HasForm}
use Rattle.array_segments.specs.Segments.{lists_of}
use Rattle.array_contents.proofs.AtSteps.{seen_at}
use Rattle.array_contents.proofs.contents.Contents.includes_each.Goals as goal

pub includes_one-requires-clause-other : goal.includes_one-requires-clause-other
includes_one-requires-clause-other g c =
    let below : c.loop-place.place < length c.args.others.now = omega arith in
    seen_at HasForm lists_of c.args.others.now c.loop-place.place c.index-others-place.result c.requires.other below
    c.index-others-place.is
