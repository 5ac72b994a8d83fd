use Rattle.std.proofs.Common.{◌≡◌, map, drop}
use Rattle.std.specs.List.{list_all}
use Rattle.array_segments.specs.Inclusion.{all_equal}
use Rattle.array_segments.proofs.inclusion.each_all_equal.Given as goal

abbrev pub invariant-loop-bound : goal.invariant-loop-bound
invariant-loop-bound g l =
    list_all (λ bound. all_equal (g.O.Order.gap l.order) l.names bound) (map (λ bound. bound.items) (drop l.bound-index l.bounds))
    ≡ list_all (λ bound. all_equal (g.O.Order.gap l.order) l.names bound) (map (λ bound. bound.items) l.bounds)
