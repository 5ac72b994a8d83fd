use Rattle.obligation_prover.proofs.JudgingClauses.{next}
use Rattle.obligation_prover.proofs.clauses.judge_each.Goals as goal

pub loop-clause-preserved : goal.loop-clause-preserved
loop-clause-preserved c =
    next c.args.unit.now c.args.test c.args.clauses.now c.args.state c.loop-clause.found.items c.loop-clause.known
    c.loop-clause.clause-index c.clause-item.result c.loop-clause.invariant c.loop-clause-test.true c.clause-item.is
    c.judge_one.new.found.items c.in_ok-known.known c.in_ok-known.ensures.shown c.in_ok-known.ensures.assumed
