use Rattle.std.proofs.Common.{length}
use Rattle.invariant_reader.proofs.Repeats.{AreUnderWay}
use Rattle.invariant_reader.proofs.SectionLoops.{pairs_loop}
use Rattle.invariant_reader.proofs.sections.read_apart.Given as goal

abbrev pub invariant-loop-pair : goal.invariant-loop-pair
invariant-loop-pair l = AreUnderWay pairs_loop l.initial.pairs.items 0 l.initial.rest l.pairs.items l.rest

abbrev pub decreases-loop-pair : goal.decreases-loop-pair
decreases-loop-pair l = length l.rest
