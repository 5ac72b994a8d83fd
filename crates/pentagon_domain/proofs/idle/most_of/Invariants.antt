use Rattle.std.proofs.Common.{ℤ, ◌≤ℤ◌, drop}
use Rattle.pentagon_domain.specs.Most.{AreUpTo}
use Rattle.pentagon_domain.proofs.idle.most_of.Given as goal

-- What the rest does not exceed, nothing does.
abbrev pub invariant-loop-row : goal.invariant-loop-row
invariant-loop-row l = record {
  least : l.known ≤ℤ l.most;
  so_far : (more : ℤ) → l.most ≤ℤ more → AreUpTo more (drop l.row-index l.rows) → AreUpTo more l.rows;
}
