use Rattle.std.proofs.Common.{◌-◌, ◌<◌, length, arith}
use Rattle.array_segments.specs.SegmentLists.{HasForm}
use Rattle.array_segments.specs.Segments.{lists_of}
use Rattle.array_contents.proofs.AtSteps.{seen_there}
use Rattle.array_contents.proofs.store.store_to.Goals as goal

pub strong_store-requires-clause-form : goal.strong_store-requires-clause-form
strong_store-requires-clause-form g c =
    let below : c.args.r - 1 < length c.args.segments.now = omega arith in
    seen_there HasForm lists_of c.args.segments.now (c.args.r - 1) c.index-segments-place.result c.requires.form below
