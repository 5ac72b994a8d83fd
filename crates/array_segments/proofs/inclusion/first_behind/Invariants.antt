use Rattle.std.proofs.Common.{◌≡◌, map, drop}
use Rattle.array_segments.specs.Inclusion.{as_own, leads, mapped}
use Rattle.array_segments.specs.Loading.{first_place}
use Rattle.array_segments.proofs.inclusion.first_behind.Given as goal

abbrev pub invariant-loop-place : goal.invariant-loop-place
invariant-loop-place g l =
    first_place (λ x. leads (g.O.Order.gap l.order) (mapped l.names) as_own l.high x) l.place (map (λ bound. bound.items) (drop l.place l.bounds))
    ≡ first_place (λ x. leads (g.O.Order.gap l.order) (mapped l.names) as_own l.high x) 0 (map (λ bound. bound.items) l.bounds)
