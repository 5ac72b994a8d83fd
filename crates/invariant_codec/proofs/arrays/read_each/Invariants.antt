use Rattle.std.proofs.Common.{◌-◌, ◌≤◌, length}
use Rattle.invariant_codec.specs.Segments.{array}
use Rattle.invariant_codec.proofs.ArraysRead.{AreListed}
use Rattle.invariant_codec.proofs.arrays.read_each.Given as goal

abbrev pub invariant-loop-array : goal.invariant-loop-array
invariant-loop-array l =
    AreListed (λ before. (array l.symbols).read l.bytes) l.count l.start l.arrays (l.count - l._array) l.at
    × (l.at ≤ length l.bytes)
