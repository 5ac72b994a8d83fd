use Rattle.symbolic_values.proofs.Pairings.{PairsSoFar}
use Rattle.symbolic_values.proofs.pairing.pair.Given as goal

abbrev pub invariant-loop-index : goal.invariant-loop-index
invariant-loop-index l = PairsSoFar l.a l.b l.index l.uses l.exprs.items
