use Rattle.std.proofs.Common.{◌≡◌, ◌+◌, ◌≤◌, drop}
use Rattle.clause_eval.specs.Told.{told_false}
use Rattle.clause_eval.proofs.reading.first_false.Given as goal

abbrev pub invariant-loop-clause : goal.invariant-loop-clause
invariant-loop-clause l = record {
  counted : l.number ≤ l.clause-index;
  rest : told_false 1 l.fn.kind l.all l.fn.reading ≡ told_false (l.number + 1) l.fn.kind (drop l.clause-index l.all) l.reading;
}
