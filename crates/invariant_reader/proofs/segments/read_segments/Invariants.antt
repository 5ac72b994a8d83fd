use Rattle.std.proofs.Common.{length}
use Rattle.array_segments.specs.Segments.{lists_of}
use Rattle.invariant_reader.proofs.Repeats.{AreUnderWay}
use Rattle.invariant_reader.proofs.SegmentLoops.{segments_loop}
use Rattle.invariant_reader.proofs.segments.read_segments.Given as goal

abbrev pub invariant-loop-alloc : goal.invariant-loop-alloc
invariant-loop-alloc l = AreUnderWay segments_loop (lists_of l.initial.segs) 0 l.initial.rest (lists_of l.segs) l.rest

abbrev pub decreases-loop-alloc : goal.decreases-loop-alloc
decreases-loop-alloc l = length l.rest
