use Rattle.std.proofs.Common.{◌≡◌, ◌++◌, map, drop}
use Rattle.array_segments.proofs.segments.copied.Given as goal

abbrev pub invariant-loop-bound : goal.invariant-loop-bound
invariant-loop-bound l =
    map (λ bound. bound.items) l.again.items ++ map (λ bound. bound.items) (drop l.bound-index l.bounds) ≡ map (λ bound. bound.items) l.bounds
