use Rattle.std.proofs.Common.{ℕ, ◌<◌}
use Rattle.pentagon_domain.specs.Rows.{rows_from}
use Rattle.pentagon_domain.specs.Tight.{AreTightFrom}
use Rattle.pentagon_domain.proofs.tight.are_tight.Given as goal

-- So they are from each symbol so far.
abbrev pub invariant-loop-s : goal.invariant-loop-s
invariant-loop-s l = (u : ℕ) → u < l.s → AreTightFrom l.ends l.bounds u (rows_from l.bounds u)
