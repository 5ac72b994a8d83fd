use Rattle.std.proofs.Common.{◌≡◌, length}
use Rattle.array_segments.specs.Counted.{IsCounted}
use Rattle.array_segments.specs.Segments.{lists_of}
use Rattle.array_segments.specs.Storing.{limited}
use Rattle.array_segments.proofs.segments.Segs.keep_limit.Given as goal

abbrev pub invariant-loop-self : goal.invariant-loop-self
invariant-loop-self g l = (limited g.C.Values.hull (lists_of l.self) ≡ limited g.C.Values.hull (lists_of l.initial.self)) × IsCounted (lists_of l.self)

abbrev pub decreases-loop-self : goal.decreases-loop-self
decreases-loop-self g l = length l.self.contents.items
