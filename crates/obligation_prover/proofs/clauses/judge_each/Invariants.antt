use Rattle.obligation_prover.proofs.JudgingClauses.{IsUnderWay}
use Rattle.obligation_prover.proofs.clauses.judge_each.Given as goal

abbrev pub invariant-loop-clause : goal.invariant-loop-clause
invariant-loop-clause l = IsUnderWay l.unit l.test l.clauses l.fn.state l.found.items l.known l.clause-index
