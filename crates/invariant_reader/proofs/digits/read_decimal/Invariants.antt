use Rattle.std.proofs.Common.{◌≡◌, length}
use Rattle.invariant_reader.specs.Numbers.{number_after}
use Rattle.invariant_reader.proofs.digits.read_decimal.Given as goal

abbrev pub invariant-loop-rest : goal.invariant-loop-rest
invariant-loop-rest l = number_after l.n l.rest ≡ number_after 0 l.text

abbrev pub decreases-loop-rest : goal.decreases-loop-rest
decreases-loop-rest l = length l.rest
