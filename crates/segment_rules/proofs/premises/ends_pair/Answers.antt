use Rattle.std.proofs.Common.{sym}
use Rattle.array_segments.specs.SegmentLists.{last_bound}
use Rattle.array_segments.specs.Segments.{lists_of}
use Rattle.segment_rules.proofs.EndTests.{both_stand}
use Rattle.segment_rules.proofs.premises.ends_pair.Goals as goal

pub returns-then-stands_at_ends : goal.returns-then-stands_at_ends
returns-then-stands_at_ends c =
    both_stand c.args.pairs.now (last_bound (lists_of c.args.a.now)) (last_bound (lists_of c.args.b.now)) c.args.length (sym c.if-stands_at_ends.ensures)
