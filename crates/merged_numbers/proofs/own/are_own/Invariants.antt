use Rattle.std.proofs.Common.{ℕ, ◌<◌, get_or}
use Rattle.symbolic_values.specs.Pairing.{origin}
use Rattle.merged_numbers.specs.Own.{IsOwn}
use Rattle.merged_numbers.proofs.own.are_own.Given as goal

abbrev pub invariant-loop-place : goal.invariant-loop-place
invariant-loop-place l = (i : ℕ) → i < l.place → IsOwn i (get_or l.keys i origin)
