use Rattle.obligation_prover.proofs.Complete.{no_other}
use Rattle.obligation_prover.proofs.InTurn.{in_turn}
use Rattle.obligation_prover.proofs.faults.faults_of.Goals as goal

pub returns-clause-complete : goal.returns-clause-complete
returns-clause-complete c = rw c.operation_faults.ensures (no_other c.args.unit.now c.args.op.now)

pub returns-clause-safe : goal.returns-clause-safe
returns-clause-safe c = rw c.operation_faults.ensures (in_turn c.args.unit.now c.args.op.now)
