use Rattle.std.proofs.Common.{◌≡◌, drop}
use Rattle.pentagon_domain.specs.Rows.{with_bounds}
use Rattle.pentagon_domain.proofs.bounds.Bounds.know_all.Given as goal

-- The rest of the bounds changes as little as all of them.
abbrev pub invariant-loop-bound : goal.invariant-loop-bound
invariant-loop-bound l = with_bounds l.self (drop l.bound-index l.bounds) ≡ with_bounds l.self l.bounds
