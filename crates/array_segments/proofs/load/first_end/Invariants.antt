use Rattle.std.proofs.Common.{◌≡◌, map, drop}
use Rattle.array_segments.specs.Comparing.{ends_behind}
use Rattle.array_segments.specs.Loading.{first_place}
use Rattle.array_segments.proofs.load.first_end.Given as goal

abbrev pub invariant-loop-place : goal.invariant-loop-place
invariant-loop-place g l =
    first_place (ends_behind (g.O.Order.gap l.order) l.at) l.place (map (λ bound. bound.items) (drop l.place l.bounds))
    ≡ first_place (ends_behind (g.O.Order.gap l.order) l.at) l.from (map (λ bound. bound.items) (drop l.from l.bounds))
