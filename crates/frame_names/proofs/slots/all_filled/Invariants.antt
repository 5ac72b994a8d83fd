use Rattle.std.proofs.Common.{◌≡◌, ◌++◌, drop}
use Rattle.std.specs.Option.{option_map}
use Rattle.frame_names.specs.Binding.{all_filled}
use Rattle.frame_names.proofs.slots.all_filled.Given as goal

abbrev pub invariant-loop-slot : goal.invariant-loop-slot
invariant-loop-slot g l = option_map (λ xs. l.all.items ++ xs) (all_filled (drop l.slot-index l.slots)) ≡ all_filled l.slots
