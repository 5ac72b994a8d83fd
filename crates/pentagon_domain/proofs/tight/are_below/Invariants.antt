use Rattle.std.proofs.Common.{drop}
use Rattle.std.specs.List.{AllByRecursion}
use Rattle.pentagon_domain.specs.Gaps.{AreBelow}
use Rattle.pentagon_domain.proofs.tight.are_below.Given as goal

-- Where those of the rest are below, all are.
abbrev pub invariant-loop-row : goal.invariant-loop-row
invariant-loop-row l = AllByRecursion (AreBelow l.count) (drop l.row-index l.rows) → AllByRecursion (AreBelow l.count) l.rows
