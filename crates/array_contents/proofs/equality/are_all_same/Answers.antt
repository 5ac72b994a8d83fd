use Rattle.std.proofs.Common.{◌<◌, length, arith, rules, refl}
use Rattle.array_segments.specs.Segments.{lists_of}
use Rattle.array_contents.proofs.SameLists.{unlike}
use Rattle.array_contents.proofs.equality.are_all_same.Goals as goal

pub returns-then-not-are_same_segments : goal.returns-then-not-are_same_segments
returns-then-not-are_same_segments c =
    let below : c.loop-index.index < length c.args.a.now = omega arith in
    let under : c.loop-index.index < length c.args.b.now = omega arith in
    unlike lists_of c.args.a.now c.args.b.now c.loop-index.index c.index-a-index.result c.index-b-index.result
    (lists_of c.index-a-index.result) (lists_of c.index-b-index.result) c.are_same_segments.result below under
    c.index-a-index.is c.index-b-index.is refl refl c.are_same_segments.ensures (search rules)
