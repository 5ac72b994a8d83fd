use Rattle.std.proofs.Common.{◌≡◌, ◌++◌, take}
use Rattle.ensures_infer.proofs.strengthening.with_added.Given as goal

abbrev pub invariant-loop-clause : goal.invariant-loop-clause
invariant-loop-clause l = l.all.items ≡ l.clauses ++ take l.clause-index l.added
