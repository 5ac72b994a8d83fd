use Rattle.std.proofs.Common.{◌<◌, pos, length, get_or, arith}
use Rattle.std.proofs.lemmas.Grind.{common_steps}
use Rattle.symbolic_values.specs.declared.pairs.Key.{Key}
use Rattle.array_contents.proofs.EachSteps.{there_is}
use Rattle.array_contents.proofs.MergingSteps.{merged_more, stands_at, stands_later}
use Rattle.array_contents.proofs.contents.Contents.merged.Goals as goal

abbrev none : Key
none = record { s = 0; t = 0; shift = pos 0; first = pos 0 }

pub merged_one-requires-clause-ends : goal.merged_one-requires-clause-ends
merged_one-requires-clause-ends c =
    let keys = c.args.keys.now in
    let place = c.loop-place.place in
    let below : place < length keys = omega arith in
    stands_at c.args.pairs.now c.args.self.now c.args.other.now keys c.args.lengths.now place (get_or keys place none)
    c.length_at-length.result c.loop-place.invariant.stands below (there_is keys place none (get_or keys place none) below)
    c.length_at-length.ensures

pub loop-place-preserved : goal.loop-place-preserved
loop-place-preserved c =
    let keys = c.args.keys.now in
    let place = c.loop-place.place in
    let below : place < length keys = omega arith in
    record {
      stands = stands_later c.args.pairs.now c.args.self.now c.args.other.now keys c.args.lengths.now place
          (get_or keys place none) c.loop-place.invariant.stands below
          (there_is keys place none (get_or keys place none) below);
      done = grind (arith, common_steps, merged_more);
    }
