use Rattle.std.proofs.Common.{ℕ, ◌<◌, get_or, pos}
use Rattle.interval_domain.specs.Interval.{one}
use Rattle.symbolic_values.specs.Pairing.{origin}
use Rattle.merged_numbers.specs.Known.{known}
use Rattle.merged_numbers.specs.Own.{IsKept}
use Rattle.merged_numbers.proofs.side.Side.are_kept.Given as goal

-- So it is of each key so far.
abbrev pub invariant-loop-place : goal.invariant-loop-place
invariant-loop-place l = (i : ℕ) → i < l.place → IsKept (known l.self) (get_or l.keys i origin) (get_or l.ranges i (one (pos 0)))
