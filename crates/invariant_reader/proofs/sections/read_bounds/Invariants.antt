use Rattle.std.proofs.Common.{length}
use Rattle.invariant_reader.proofs.Repeats.{AreUnderWay}
use Rattle.invariant_reader.proofs.SectionLoops.{bounds_loop}
use Rattle.invariant_reader.proofs.sections.read_bounds.Given as goal

abbrev pub invariant-loop-row : goal.invariant-loop-row
invariant-loop-row l = AreUnderWay bounds_loop l.initial.rows.items 0 l.initial.rest l.rows.items l.rest

abbrev pub decreases-loop-row : goal.decreases-loop-row
decreases-loop-row l = length l.rest
