use Rattle.std.proofs.Common.{◌≡◌, ◌+◌, drop}
use Rattle.unit_form.specs.Callees.{olds_in}
use Rattle.method_unit.proofs.unit_clauses.old_values.Given as goal

abbrev pub invariant-loop-clause : goal.invariant-loop-clause
invariant-loop-clause l = l.olds + olds_in (drop l.clause-index l.clauses) ≡ olds_in l.clauses
