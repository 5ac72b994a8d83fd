use Rattle.alias_facts.proofs.SortingLaws.{OrderedUpTo}
use Rattle.alias_facts.proofs.sorting.each_once.Given as goal

abbrev pub invariant-loop-pair : goal.invariant-loop-pair
invariant-loop-pair l = OrderedUpTo l.pairs l.all.items l.pair-index
