use Rattle.obligation_prover.specs.Operations.{assumed_operation}
use Rattle.obligation_prover.proofs.Operands.{assumed_there}
use Rattle.obligation_prover.proofs.Reading.{operation_there}
use Rattle.obligation_prover.proofs.operations.assumed_operation.Goals as goal

pub returns-clause-there : goal.returns-clause-there
returns-clause-there c =
    let op = c.args.op.now in
    operation_there (assumed_operation op) c.args.state.now c.found_assumption.result c.reached.ensures.form
    (λ known form. assumed_there op known form) c.found_assumption.ensures
