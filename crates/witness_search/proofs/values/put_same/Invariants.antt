use Rattle.std.proofs.Common.{◌≡◌, ◌++◌, drop}
use Rattle.witness_search.specs.Choices.{same_as, same_as_from}
use Rattle.witness_search.proofs.values.put_same.Given as goal

abbrev pub invariant-loop-k : goal.invariant-loop-k
invariant-loop-k l = l.values.items ++ same_as_from l.k l.place (drop l.k l.earlier) ≡ l.initial.values.items ++ same_as l.place l.earlier
