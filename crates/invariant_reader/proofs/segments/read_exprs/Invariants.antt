use Rattle.std.proofs.Common.{length}
use Rattle.invariant_reader.proofs.Repeats.{AreUnderWay}
use Rattle.invariant_reader.proofs.SegmentLoops.{exprs_loop}
use Rattle.invariant_reader.proofs.segments.read_exprs.Given as goal

abbrev pub invariant-loop-expr : goal.invariant-loop-expr
invariant-loop-expr l = AreUnderWay exprs_loop l.initial.exprs.items 0 l.initial.rest l.exprs.items l.rest

abbrev pub decreases-loop-expr : goal.decreases-loop-expr
decreases-loop-expr l = length l.rest
