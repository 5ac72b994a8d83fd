use Rattle.std.proofs.Common.{◌≡◌, ◌++◌, map, drop}
use Rattle.array_segments.specs.Segments.{lists_of}
use Rattle.array_contents.proofs.contents.copied.Given as goal

abbrev pub invariant-loop-one : goal.invariant-loop-one
invariant-loop-one l = map lists_of l.again.items ++ map lists_of (drop l.one-index l.segments) ≡ map lists_of l.segments
