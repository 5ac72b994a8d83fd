use Rattle.std.proofs.Common.{◌≡◌, ◌++◌, map, drop}
use Rattle.std.specs.Option.{option_map}
use Rattle.array_segments.specs.Segments.{lists_of}
use Rattle.array_contents.specs.Replacing.{unknown_lists}
use Rattle.array_contents.proofs.forgetting.unknown_segments.Given as goal

abbrev pub invariant-loop-array : goal.invariant-loop-array
invariant-loop-array l =
    map (option_map lists_of) l.fresh.items ++ map unknown_lists (drop l.array-index l.arrays) ≡ map unknown_lists l.arrays
