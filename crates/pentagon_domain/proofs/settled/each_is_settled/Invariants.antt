use Rattle.std.proofs.Common.{drop}
use Rattle.std.specs.List.{AllByRecursion}
use Rattle.pentagon_domain.specs.Settled.{IsSettled}
use Rattle.pentagon_domain.proofs.settled.each_is_settled.Given as goal

-- Where those of the rest are settled, all are.
abbrev pub invariant-loop-row : goal.invariant-loop-row
invariant-loop-row l = AllByRecursion (IsSettled l.ends) (drop l.row-index l.rows) → AllByRecursion (IsSettled l.ends) l.rows
