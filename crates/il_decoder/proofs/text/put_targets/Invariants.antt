use Rattle.std.proofs.Common.{◌≡◌, ◌++◌, take}
use Rattle.std.specs.List.{flat_map}
use Rattle.il_decoder.specs.Text.{next_target}
use Rattle.il_decoder.proofs.text.put_targets.Given as goal

abbrev pub invariant-loop-target : goal.invariant-loop-target
invariant-loop-target l = l.out.items ≡ l.initial.out.items ++ flat_map next_target (take l.target-index l.targets)
