use Rattle.std.proofs.lemmas.Slice.Eq.{slice_eq-Decides}
use Rattle.alias_facts.proofs.Orders.{same_decides}
use Rattle.alias_facts.proofs.kept.are_equal.Goals as goal

pub returns : goal.returns
returns c = slice_eq-Decides same_decides _ _ _ c.eq.ensures
