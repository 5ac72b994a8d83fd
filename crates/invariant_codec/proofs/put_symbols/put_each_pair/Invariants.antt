use Rattle.std.proofs.Common.{◌≡◌, ◌++◌, take}
use Rattle.std.specs.List.{flat_map}
use Rattle.invariant_codec.specs.Spelling.{pair_bytes}
use Rattle.invariant_codec.proofs.put_symbols.put_each_pair.Given as goal

abbrev pub invariant-loop-pair : goal.invariant-loop-pair
invariant-loop-pair l = l.out.items ≡ l.initial.out.items ++ flat_map pair_bytes (take l.pair-index l.pairs)
