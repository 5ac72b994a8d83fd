use Rattle.std.proofs.Common.{◌-◌, ◌<◌, length, arith}
use Rattle.array_segments.specs.SegmentLists.{HasForm}
use Rattle.array_segments.specs.Segments.{lists_of}
use Rattle.array_contents.proofs.AtSteps.{seen_at}
use Rattle.array_contents.proofs.load.loaded.Goals as goal

pub load-requires : goal.load-requires
load-requires g c =
    let below : c.args.r - 1 < length c.args.segments.now = omega arith in
    record {
      form = seen_at HasForm lists_of c.args.segments.now (c.args.r - 1) c.index-segments-place.result c.requires.form below
          c.index-segments-place.is;
    }
