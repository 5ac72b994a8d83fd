use Rattle.contract_calls.proofs.Numbered.{IsSought}
use Rattle.contract_calls.proofs.clauses.clause_numbered.Given as goal

abbrev pub invariant-loop-clause : goal.invariant-loop-clause
invariant-loop-clause l = IsSought l.kind l.clauses l.number l.clause-index l.left
