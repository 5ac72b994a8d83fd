use Rattle.std.proofs.Common.{◌≡◌, ◌<◌, length, map, drop}
use Rattle.array_segments.specs.Comparing.{starts_by}
use Rattle.array_segments.specs.Loading.{last_place}
use Rattle.array_segments.proofs.load.last_start.Given as goal

abbrev pub invariant-loop-place : goal.invariant-loop-place
invariant-loop-place g l =
    (last_place (starts_by (g.O.Order.gap l.order) l.at) l.start l.place (map (λ bound. bound.items) (drop l.place l.bounds))
    ≡ last_place (starts_by (g.O.Order.gap l.order) l.at) 0 0 (map (λ bound. bound.items) l.bounds))
    × (0 < length l.bounds → l.start < length l.bounds)
