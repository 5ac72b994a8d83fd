use Rattle.std.proofs.Common.{take, map}
use Rattle.std.specs.List.{AllByRecursion}
use Rattle.array_segments.specs.Segments.{lists_of}
use Rattle.invariant_text.specs.Shape.{AreShortSegments}
use Rattle.invariant_reader.proofs.constants.see_segments.Given as goal

abbrev pub invariant-loop-segs : goal.invariant-loop-segs
invariant-loop-segs l = AllByRecursion AreShortSegments (map lists_of (take l.segs-index l.segments))
