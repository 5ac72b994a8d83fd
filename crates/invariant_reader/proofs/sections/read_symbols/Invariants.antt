use Rattle.std.proofs.Common.{length}
use Rattle.invariant_reader.proofs.Repeats.{AreUnderWay}
use Rattle.invariant_reader.proofs.SectionLoops.{symbols_loop}
use Rattle.invariant_reader.proofs.sections.read_symbols.Given as goal

abbrev pub invariant-loop-read : goal.invariant-loop-read
invariant-loop-read l = AreUnderWay symbols_loop l.initial.ranges.items 1 l.initial.rest l.ranges.items l.rest

abbrev pub decreases-loop-read : goal.decreases-loop-read
decreases-loop-read l = length l.rest
