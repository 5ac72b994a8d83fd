use Rattle.std.proofs.Common.{◌≡◌, ℕ, ◌<◌, ◌+◌, get_or, pos}
use Rattle.interval_domain.specs.Interval.{one}
use Rattle.pentagon_domain.specs.Tight.{no_ends}
use Rattle.merged_numbers.specs.Settled.{ends_at}
use Rattle.merged_numbers.proofs.own.are_of.Given as goal

-- So it is of each range so far.
abbrev pub invariant-loop-place : goal.invariant-loop-place
invariant-loop-place l = (i : ℕ) → i < l.place → get_or l.ends (i + 1) no_ends ≡ ends_at (get_or l.ranges i (one (pos 0)))
