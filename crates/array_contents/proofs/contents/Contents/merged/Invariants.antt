use Rattle.std.proofs.Common.{◌≡◌, ◌++◌, map, drop}
use Rattle.array_segments.specs.Segments.{lists_of}
use Rattle.array_contents.specs.Ends.{EachStands}
use Rattle.array_contents.specs.Makings.{making}
use Rattle.array_contents.specs.Merging.{merged}
use Rattle.array_contents.proofs.contents.Contents.merged.Given as goal

abbrev pub invariant-loop-place : goal.invariant-loop-place
invariant-loop-place l = record {
  stands : EachStands l.pairs l.self l.other (drop l.place l.keys) (drop l.place l.lengths);
  done : map lists_of l.segments.items ++ merged (making l.way) l.pairs l.self l.other (drop l.place l.keys) (drop l.place l.lengths)
      ≡ merged (making l.way) l.pairs l.self l.other l.keys l.lengths;
}
