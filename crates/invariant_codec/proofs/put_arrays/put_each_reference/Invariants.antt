use Rattle.std.proofs.Common.{◌≡◌, ◌++◌, drop, map}
use Rattle.array_segments.specs.Segments.{lists_of}
use Rattle.invariant_codec.specs.Spelling.{each_reference_bytes}
use Rattle.invariant_codec.proofs.put_arrays.put_each_reference.Given as goal

abbrev pub invariant-loop-i : goal.invariant-loop-i
invariant-loop-i l =
    l.out.items ++ each_reference_bytes (drop l.i l.references) (drop l.i (map lists_of l.segments))
    ≡ l.initial.out.items ++ each_reference_bytes l.references (map lists_of l.segments)
