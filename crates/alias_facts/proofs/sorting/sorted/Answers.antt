use Rattle.alias_facts.proofs.SortingLaws.{permuted}
use Rattle.alias_facts.proofs.sorting.sorted.Goals as goal

pub returns : goal.returns
returns c = λ q. permuted _ _ c.sort.ensures.permutation q
