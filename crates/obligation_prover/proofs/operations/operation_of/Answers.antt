use Rattle.obligation_prover.specs.Operations.{operation_of}
use Rattle.obligation_prover.proofs.Operands.{conditions_there}
use Rattle.obligation_prover.proofs.Reading.{operation_there}
use Rattle.obligation_prover.proofs.operations.operation_of.Goals as goal

pub returns-clause-there : goal.returns-clause-there
returns-clause-there c =
    let op = c.args.op.now in
    operation_there (operation_of op) c.args.state.now c.found_operation.result c.reached.ensures.form
    (λ known form. conditions_there op known form) c.found_operation.ensures
