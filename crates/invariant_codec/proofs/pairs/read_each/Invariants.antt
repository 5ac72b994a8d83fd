use Rattle.std.proofs.Common.{◌≡◌, ◌-◌, ◌≤◌, length}
use Rattle.invariant_codec.specs.Formats.{last_of}
use Rattle.invariant_codec.specs.Symbols.{next_pair}
use Rattle.invariant_codec.proofs.Counted.{AreRead}
use Rattle.invariant_codec.proofs.pairs.read_each.Given as goal

abbrev pub invariant-loop-pair : goal.invariant-loop-pair
invariant-loop-pair l =
    AreRead (λ before. (next_pair l.references (last_of before)).read l.bytes) l.count l.start l.pairs.items
    (l.count - l._pair) l.at × (l.at ≤ length l.bytes) × (l.last ≡ last_of l.pairs.items)
