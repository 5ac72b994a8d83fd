use Rattle.std.proofs.Common.{drop}
use Rattle.pentagon_domain.specs.Tight.{AreTightFrom}
use Rattle.pentagon_domain.proofs.tight.all_add_nothing.Given as goal

-- Where the rest is tight, all are.
abbrev pub invariant-loop-first : goal.invariant-loop-first
invariant-loop-first l = AreTightFrom l.ends l.bounds l.s (drop l.first-index l.firsts) → AreTightFrom l.ends l.bounds l.s l.firsts
