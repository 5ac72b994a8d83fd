use Rattle.std.proofs.Common.{◌≡◌, [], ◌∷◌, replicate}
use Rattle.clause_faults.specs.declared.ways.arrivals.Arrival.TheVariants.{Empty}
use Rattle.clause_faults.proofs.clause_code.first_stacks.Given as goal

abbrev pub invariant-loop-made : goal.invariant-loop-made
invariant-loop-made l = l.stacks.items ≡ (Empty ∷ []) ∷ replicate l._made []
