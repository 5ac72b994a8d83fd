use Rattle.std.proofs.Common.{length}
use Rattle.invariant_reader.proofs.Repeats.{AreUnderWay}
use Rattle.invariant_reader.proofs.SectionLoops.{arrays_loop}
use Rattle.invariant_reader.proofs.sections.read_references.Given as goal

abbrev pub invariant-loop-alloc : goal.invariant-loop-alloc
invariant-loop-alloc l = AreUnderWay arrays_loop l.initial.arrays 1 l.initial.rest l.arrays l.rest

abbrev pub decreases-loop-alloc : goal.decreases-loop-alloc
decreases-loop-alloc l = length l.rest
