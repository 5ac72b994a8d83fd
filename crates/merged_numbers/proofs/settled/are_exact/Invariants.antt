use Rattle.std.proofs.Common.{◌≡◌, drop}
use Rattle.merged_numbers.specs.Settled.{are_exact}
use Rattle.merged_numbers.proofs.settled.are_exact.Given as goal

abbrev pub invariant-loop-s : goal.invariant-loop-s
invariant-loop-s l = are_exact (drop l.s l.ends) (drop l.s l.spans) ≡ are_exact l.ends l.spans
