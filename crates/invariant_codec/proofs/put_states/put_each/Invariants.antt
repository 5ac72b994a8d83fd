use Rattle.std.proofs.Common.{◌≡◌, ◌++◌, take}
use Rattle.std.specs.List.{AllByRecursion, flat_map}
use Rattle.invariant_codec.specs.Spellable.{IsSpellable}
use Rattle.invariant_codec.specs.Spelling.{state_bytes}
use Rattle.invariant_codec.proofs.put_states.put_each.Given as goal

abbrev pub invariant-loop-state : goal.invariant-loop-state
invariant-loop-state l =
    (l.out.items ≡ l.initial.out.items ++ flat_map state_bytes (take l.state-index l.states))
    × AllByRecursion IsSpellable (take l.state-index l.states)
