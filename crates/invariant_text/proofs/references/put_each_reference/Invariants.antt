use Rattle.std.proofs.Common.{◌≡◌, ◌+◌, ◌++◌, drop, map}
use Rattle.array_segments.specs.Segments.{lists_of}
use Rattle.invariant_text.specs.ReferenceLines.{reference_lines}
use Rattle.invariant_text.proofs.references.put_each_reference.Given as goal

abbrev pub invariant-loop-i : goal.invariant-loop-i
invariant-loop-i l =
    l.out.items ++ reference_lines (l.i + 1) (drop l.i l.references) (drop l.i (map lists_of l.segments))
    ≡ l.initial.out.items ++ reference_lines 1 l.references (map lists_of l.segments)
