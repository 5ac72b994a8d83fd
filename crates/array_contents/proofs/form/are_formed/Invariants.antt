use Rattle.std.proofs.Common.{◌≡◌, length, map, drop}
use Rattle.array_segments.specs.Segments.{lists_of}
use Rattle.array_contents.specs.FormTest.{are_formed}
use Rattle.array_contents.proofs.form.are_formed.Given as goal

abbrev pub invariant-loop-place : goal.invariant-loop-place
invariant-loop-place l = record {
  same_length : length l.lengths ≡ length l.segments;
  rest : are_formed l.symbols (drop l.place l.lengths) (map lists_of (drop l.place l.segments))
      ≡ are_formed l.symbols l.lengths (map lists_of l.segments);
}
