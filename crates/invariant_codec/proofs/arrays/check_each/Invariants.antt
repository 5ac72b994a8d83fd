use Rattle.std.proofs.Common.{◌-◌, ◌≤◌, length, Option}
use Rattle.invariant_codec.specs.Segments.{KnownArray, array}
use Rattle.invariant_codec.proofs.Passed.{ArePassed}
use Rattle.invariant_codec.proofs.arrays.check_each.Given as goal

abbrev pub invariant-loop-array : goal.invariant-loop-array
invariant-loop-array l =
    ((last : Option KnownArray) × ArePassed (λ last. (array l.symbols).read l.bytes) l.count l.start last
    (l.count - l._array) l.at) × (l.at ≤ length l.bytes)
