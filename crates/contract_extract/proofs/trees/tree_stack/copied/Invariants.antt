-- The copy has what the slots so far are.
use Rattle.std.proofs.Common.{◌≡◌, map}
use Rattle.contract_extract.proofs.trees.tree_stack.copied.Given as goal

abbrev pub invariant-loop-slot : goal.invariant-loop-slot
invariant-loop-slot l = l.copy.items ≡ map (λ slot. slot.now) l.yielded
