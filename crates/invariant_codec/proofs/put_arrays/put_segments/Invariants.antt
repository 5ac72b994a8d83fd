use Rattle.std.proofs.Common.{◌≡◌, ◌+◌, ◌++◌, drop}
use Rattle.array_segments.specs.Segments.{lists_of}
use Rattle.invariant_codec.specs.Spelling.{each_segment_bytes}
use Rattle.invariant_codec.proofs.put_arrays.put_segments.Given as goal

abbrev pub invariant-loop-i : goal.invariant-loop-i
invariant-loop-i l =
    l.out.items
    ++ each_segment_bytes (drop l.i (lists_of l.segs).contents) (drop l.i (lists_of l.segs).marks)
    (drop (l.i + 1) (lists_of l.segs).bounds)
    ≡ l.initial.out.items ++ each_segment_bytes (lists_of l.segs).contents (lists_of l.segs).marks
    (drop 1 (lists_of l.segs).bounds)
