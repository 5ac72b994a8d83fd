use Rattle.contract_calls.proofs.Assuming.{next}
use Rattle.contract_calls.proofs.clauses.assume_each.Goals as goal

pub loop-clause-preserved : goal.loop-clause-preserved
loop-clause-preserved c =
    next c.args.env.now c.args.kind c.args.clauses.now c.args.state c.loop-clause.known c.loop-clause.clause-index
    c.clause-item.result c.loop-clause.invariant c.loop-clause-test.true c.clause-item.is c.in_ok-known.known
    c.in_ok-known.ensures
