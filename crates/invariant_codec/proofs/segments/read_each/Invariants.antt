use Rattle.std.proofs.Common.{◌≤◌, length}
use Rattle.array_segments.specs.Segments.{lists_of}
use Rattle.invariant_codec.specs.Segments.{first_of_bounds}
use Rattle.invariant_codec.proofs.SegmentsRead.{AreJoined}
use Rattle.invariant_codec.proofs.segments.read_each.Given as goal

abbrev pub invariant-loop-i : goal.invariant-loop-i
invariant-loop-i l =
    AreJoined l.bytes l.symbols l.length_is l.count l.start (first_of_bounds (lists_of l.initial.segs))
    (lists_of l.segs) l.i l.at × (l.at ≤ length l.bytes)
