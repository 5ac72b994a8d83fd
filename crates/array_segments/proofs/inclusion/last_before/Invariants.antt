use Rattle.std.proofs.Common.{◌≡◌, map, drop}
use Rattle.array_segments.specs.Inclusion.{as_own, leads, mapped}
use Rattle.array_segments.specs.Loading.{last_place}
use Rattle.array_segments.proofs.inclusion.last_before.Given as goal

abbrev pub invariant-loop-place : goal.invariant-loop-place
invariant-loop-place g l =
    last_place (λ x. leads (g.O.Order.gap l.order) as_own (mapped l.names) x l.low) l.last l.place (map (λ bound. bound.items) (drop l.place l.bounds))
    ≡ last_place (λ x. leads (g.O.Order.gap l.order) as_own (mapped l.names) x l.low) 0 0 (map (λ bound. bound.items) l.bounds)
