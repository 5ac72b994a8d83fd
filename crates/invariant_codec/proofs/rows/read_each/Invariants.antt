use Rattle.std.proofs.Common.{◌≡◌, ◌-◌, ◌≤◌, length}
use Rattle.invariant_codec.specs.Formats.{last_of}
use Rattle.invariant_codec.specs.Symbols.{next_row}
use Rattle.invariant_codec.proofs.Counted.{AreRead}
use Rattle.invariant_codec.proofs.rows.read_each.Given as goal

abbrev pub invariant-loop-row : goal.invariant-loop-row
invariant-loop-row l =
    AreRead (λ before. (next_row l.symbols (last_of before)).read l.bytes) l.count l.start l.rows.items
    (l.count - l._row) l.at × (l.at ≤ length l.bytes) × (l.last ≡ last_of l.rows.items)
