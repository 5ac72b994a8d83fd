use Rattle.std.proofs.Common.{◌-◌, ◌≤◌, length}
use Rattle.invariant_codec.specs.Symbols.{next_row}
use Rattle.invariant_codec.proofs.Passed.{ArePassed}
use Rattle.invariant_codec.proofs.rows.check_each.Given as goal

abbrev pub invariant-loop-row : goal.invariant-loop-row
invariant-loop-row l =
    ArePassed (λ last. (next_row l.symbols last).read l.bytes) l.count l.start l.last (l.count - l._row) l.at
    × (l.at ≤ length l.bytes)
