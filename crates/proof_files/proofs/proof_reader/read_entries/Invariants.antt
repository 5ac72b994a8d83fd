use Rattle.std.proofs.Common.{◌-◌, length}
use Rattle.proof_files.proofs.UnderWay.{IsUnderWay}
use Rattle.proof_files.proofs.proof_reader.read_entries.Given as goal

abbrev pub invariant-loop-at : goal.invariant-loop-at
invariant-loop-at l = IsUnderWay l.bytes l.known l.at

abbrev pub decreases-loop-at : goal.decreases-loop-at
decreases-loop-at l = length l.bytes - l.at
