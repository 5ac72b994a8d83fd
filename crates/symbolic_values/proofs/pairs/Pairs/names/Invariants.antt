use Rattle.symbolic_values.proofs.OwnNameLaws.{NamesFrom}
use Rattle.symbolic_values.proofs.pairs.Pairs.names.Given as goal

abbrev pub invariant-loop-left : goal.invariant-loop-left
invariant-loop-left l = NamesFrom l.self l.count l.left l.names.items

abbrev pub decreases-loop-left : goal.decreases-loop-left
decreases-loop-left l = l.left
