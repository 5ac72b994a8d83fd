use Rattle.std.proofs.Common.{◌-◌, ◌≤◌, length}
use Rattle.invariant_codec.specs.Numbers.{range}
use Rattle.invariant_codec.proofs.Counted.{AreRead}
use Rattle.invariant_codec.proofs.ranges.read_each.Given as goal

abbrev pub invariant-loop-range : goal.invariant-loop-range
invariant-loop-range l =
    AreRead (λ before. range.read l.bytes) l.count l.start l.ranges.items (l.count - l._range) l.at
    × (l.at ≤ length l.bytes)
