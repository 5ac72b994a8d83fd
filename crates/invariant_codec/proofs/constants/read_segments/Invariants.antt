use Rattle.std.proofs.Common.{take, map}
use Rattle.std.specs.List.{AllByRecursion}
use Rattle.array_segments.specs.Segments.{lists_of}
use Rattle.invariant_codec.specs.Spellable.{AreShortBounds}
use Rattle.invariant_codec.proofs.constants.read_segments.Given as goal

abbrev pub invariant-loop-segs : goal.invariant-loop-segs
invariant-loop-segs l = AllByRecursion AreShortBounds (map lists_of (take l.segs-index l.segments))
