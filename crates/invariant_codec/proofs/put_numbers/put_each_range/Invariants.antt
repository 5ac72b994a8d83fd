use Rattle.std.proofs.Common.{◌≡◌, ◌++◌, take}
use Rattle.std.specs.List.{flat_map}
use Rattle.invariant_codec.specs.Spelling.{range_bytes}
use Rattle.invariant_codec.proofs.put_numbers.put_each_range.Given as goal

abbrev pub invariant-loop-range : goal.invariant-loop-range
invariant-loop-range l = l.out.items ≡ l.initial.out.items ++ flat_map range_bytes (take l.range-index l.ranges)
