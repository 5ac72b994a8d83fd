use Rattle.std.proofs.Common.{◌≡◌, drop}
use Rattle.array_segments.specs.Inclusion.{all_equal}
use Rattle.array_segments.proofs.inclusion.all_equal.Given as goal

abbrev pub invariant-loop-place : goal.invariant-loop-place
invariant-loop-place g l = all_equal (g.O.Order.gap l.order) l.names (drop l.place l.bound) ≡ all_equal (g.O.Order.gap l.order) l.names l.bound
