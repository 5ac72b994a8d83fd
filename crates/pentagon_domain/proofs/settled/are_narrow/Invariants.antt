use Rattle.std.proofs.Common.{drop}
use Rattle.std.specs.List.{AllByRecursion}
use Rattle.pentagon_domain.specs.Settled.{IsNarrow}
use Rattle.pentagon_domain.proofs.settled.are_narrow.Given as goal

-- Where those of the rest are narrow, all are.
abbrev pub invariant-loop-one : goal.invariant-loop-one
invariant-loop-one l = AllByRecursion IsNarrow (drop l.one-index l.ends) → AllByRecursion IsNarrow l.ends
