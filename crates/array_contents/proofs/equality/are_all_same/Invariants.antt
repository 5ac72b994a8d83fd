use Rattle.std.proofs.Common.{◌≡◌, length, map, take}
use Rattle.array_segments.specs.Segments.{lists_of}
use Rattle.array_contents.proofs.equality.are_all_same.Given as goal

abbrev pub invariant-loop-index : goal.invariant-loop-index
invariant-loop-index l = record {
  same_length : length l.a ≡ length l.b;
  same_so_far : map lists_of (take l.index l.a) ≡ map lists_of (take l.index l.b);
}
