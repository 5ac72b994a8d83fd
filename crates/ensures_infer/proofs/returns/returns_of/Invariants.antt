use Rattle.std.proofs.Common.{◌≡◌}
use Rattle.std.specs.List.{flat_map, range_with_len}
use Rattle.ensures_infer.specs.Returns.{returns_in}
use Rattle.ensures_infer.proofs.returns.returns_of.Given as goal

abbrev pub invariant-loop-block : goal.invariant-loop-block
invariant-loop-block l = l.found.items ≡ flat_map (returns_in l.code l.states) (range_with_len 0 l.block)
