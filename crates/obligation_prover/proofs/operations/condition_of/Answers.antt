use Rattle.std.proofs.Common.{rules}
use Rattle.obligation_prover.proofs.Reading.{condition_there}
use Rattle.obligation_prover.proofs.operations.condition_of.Goals as goal

pub returns-in-Some-clause-value : goal.returns-in-Some-clause-value
returns-in-Some-clause-value c = search rules

pub returns-in-Some-clause-there : goal.returns-in-Some-clause-there
returns-in-Some-clause-there c =
    condition_there c.args.kind c.args.op.now c.args._unit.now c.args.state.now c.condition.result c.in-Some.ensures.form (returns-in-Some-clause-value c)
