use Rattle.std.proofs.Common.{◌-◌, ◌≤◌, length}
use Rattle.invariant_codec.specs.Symbols.{next_pair}
use Rattle.invariant_codec.proofs.Passed.{ArePassed}
use Rattle.invariant_codec.proofs.pairs.check_each.Given as goal

abbrev pub invariant-loop-pair : goal.invariant-loop-pair
invariant-loop-pair l =
    ArePassed (λ last. (next_pair l.references last).read l.bytes) l.count l.start l.last (l.count - l._pair) l.at
    × (l.at ≤ length l.bytes)
