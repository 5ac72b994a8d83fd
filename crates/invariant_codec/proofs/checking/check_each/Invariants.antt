use Rattle.std.proofs.Common.{◌-◌, ◌≤◌, length, Option}
use Rattle.abs_state.specs.StateParts.{StateParts}
use Rattle.invariant_codec.specs.States.{state}
use Rattle.invariant_codec.proofs.Passed.{ArePassed}
use Rattle.invariant_codec.proofs.checking.check_each.Given as goal

abbrev pub invariant-loop-state : goal.invariant-loop-state
invariant-loop-state l =
    ((last : Option StateParts) × ArePassed (λ last. state.read l.bytes) l.count l.start last (l.count - l._state) l.at)
    × (l.at ≤ length l.bytes)
