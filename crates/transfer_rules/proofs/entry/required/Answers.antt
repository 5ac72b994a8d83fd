use Rattle.transfer_rules.proofs.Requiring.{next}
use Rattle.transfer_rules.proofs.entry.required.Goals as goal

pub loop-clause-preserved : goal.loop-clause-preserved
loop-clause-preserved c =
    next c.args.unit.now c.as_slice-clause-items.result.now c.args.unit.now.clauses c.args.state c.loop-clause.known
    c.loop-clause.clause-index c.clause-item.result c.as_slice-clause-items.ensures c.loop-clause.invariant
    c.loop-clause-test.true c.clause-item.is c.in_ok-known.known c.in_ok-known.ensures
