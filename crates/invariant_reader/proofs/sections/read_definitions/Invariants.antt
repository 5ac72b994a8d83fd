use Rattle.std.proofs.Common.{length}
use Rattle.invariant_reader.proofs.Repeats.{AreUnderWay}
use Rattle.invariant_reader.proofs.SectionLoops.{definitions_loop}
use Rattle.invariant_reader.proofs.sections.read_definitions.Given as goal

abbrev pub invariant-loop-definition : goal.invariant-loop-definition
invariant-loop-definition l = AreUnderWay definitions_loop l.initial.definitions.items 0 l.initial.rest l.definitions.items l.rest

abbrev pub decreases-loop-definition : goal.decreases-loop-definition
decreases-loop-definition l = length l.rest
