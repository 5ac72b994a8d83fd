use Rattle.std.proofs.Common.{◌≡◌, ◌++◌, map, take}
use Rattle.obligation_prover.specs.Faults.{faults_of}
use Rattle.obligation_prover.specs.Obligations.{obligation}
use Rattle.obligation_prover.proofs.listing.push_own_obligations.Given as goal

abbrev pub invariant-loop-kind : goal.invariant-loop-kind
invariant-loop-kind l = l.found.items ≡ l.initial.found.items ++ map (obligation l.instr) (take l.kind-index (faults_of l.unit l.instr.op))
