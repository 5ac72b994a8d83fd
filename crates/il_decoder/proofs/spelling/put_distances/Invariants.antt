use Rattle.std.proofs.Common.{◌≡◌, ◌++◌, take}
use Rattle.std.specs.List.{flat_map}
use Rattle.il_decoder.specs.Spelling.{distance_bytes}
use Rattle.il_decoder.proofs.spelling.put_distances.Given as goal

abbrev pub invariant-loop-target : goal.invariant-loop-target
invariant-loop-target l = l.out.items ≡ l.initial.out.items ++ flat_map (distance_bytes l.next) (take l.target-index l.targets)
