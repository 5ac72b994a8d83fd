use Rattle.transfer_rules.proofs.Requiring.{IsUnderWay}
use Rattle.transfer_rules.proofs.entry.required.Given as goal

abbrev pub invariant-loop-clause : goal.invariant-loop-clause
invariant-loop-clause l = IsUnderWay l.unit l.unit.clauses l.fn.state l.known l.clause-index
