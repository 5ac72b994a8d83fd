use Rattle.std.proofs.Common.{sym}
use Rattle.obligation_prover.proofs.JudgingClauses.{callee_test}
use Rattle.obligation_prover.proofs.clauses.clause_assumed.Goals as goal

pub assume_requires-requires-clause-test : goal.assume_requires-requires-clause-test
assume_requires-requires-clause-test c =
    callee_test c.args.unit.now c.args.test c.in-Callee.number c.in-Some.callee.now c.args.clause.now c.requires.test
    c.in-Callee.is (sym c.in-Some.ensures)
