use Rattle.std.proofs.Common.{◌≡◌, ◌-◌, ◌≤◌, length}
use Rattle.invariant_codec.specs.Formats.{last_of}
use Rattle.invariant_codec.specs.Symbols.{next_definition}
use Rattle.invariant_codec.proofs.Counted.{AreRead}
use Rattle.invariant_codec.proofs.definitions.read_each.Given as goal

abbrev pub invariant-loop-definition : goal.invariant-loop-definition
invariant-loop-definition l =
    AreRead (λ before. (next_definition l.symbols l.references (last_of before)).read l.bytes) l.count l.start l.definitions.items
    (l.count - l._definition) l.at × (l.at ≤ length l.bytes) × (l.last ≡ last_of l.definitions.items)
