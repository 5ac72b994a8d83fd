use Rattle.std.proofs.Common.{ℕ, ◌<◌}
use Rattle.pentagon_domain.specs.Settled.{IsWithin}
use Rattle.pentagon_domain.proofs.ends.are_within.Given as goal

-- So it is of each symbol so far.
abbrev pub invariant-loop-s : goal.invariant-loop-s
invariant-loop-s l = (u : ℕ) → u < l.s → IsWithin l.wide l.ends u
