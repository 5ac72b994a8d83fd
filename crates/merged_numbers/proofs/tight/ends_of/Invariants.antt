use Rattle.std.proofs.Common.{◌≡◌, ◌++◌, drop, map}
use Rattle.merged_numbers.specs.Settled.{ends_at, ends_of}
use Rattle.merged_numbers.proofs.tight.ends_of.Given as goal

-- The ends so far, and then those of the rest of the ranges.
abbrev pub invariant-loop-range : goal.invariant-loop-range
invariant-loop-range l = l.ends.items ++ map ends_at (drop l.range-index l.ranges) ≡ ends_of l.ranges
