use Rattle.contract_calls.proofs.Assuming.{IsUnderWay}
use Rattle.contract_calls.proofs.clauses.assume_each.Given as goal

abbrev pub invariant-loop-clause : goal.invariant-loop-clause
invariant-loop-clause l = IsUnderWay l.env l.kind l.clauses l.fn.state l.known l.clause-index
