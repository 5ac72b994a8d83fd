use Rattle.alias_facts.specs.KeptPairs.{lower_first}
use Rattle.alias_facts.proofs.SortingLaws.{RowsSoFar}
use Rattle.alias_facts.proofs.sorting.collected.Given as goal

abbrev pub invariant-loop-reference : goal.invariant-loop-reference
invariant-loop-reference l = RowsSoFar (lower_first l.rows) l.all.items l.marks l.reference-index
