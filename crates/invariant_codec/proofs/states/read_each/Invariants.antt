use Rattle.std.proofs.Common.{◌-◌, ◌≤◌, length, map}
use Rattle.abs_state.specs.StateParts.{parts_of}
use Rattle.invariant_codec.specs.States.{state}
use Rattle.invariant_codec.proofs.Counted.{AreRead}
use Rattle.invariant_codec.proofs.states.read_each.Given as goal

abbrev pub invariant-loop-state : goal.invariant-loop-state
invariant-loop-state l =
    AreRead (λ before. state.read l.bytes) l.count l.start (map parts_of l.states.items) (l.count - l._state) l.at
    × (l.at ≤ length l.bytes)
