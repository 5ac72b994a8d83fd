use Rattle.unit_builder.proofs.SlotFacts.{AreFresh}
use Rattle.unit_builder.proofs.linked.all_fresh.Given as goal

abbrev pub invariant-loop-assembly : goal.invariant-loop-assembly
invariant-loop-assembly l = AreFresh l.links l.assembly-index l.slots.items
