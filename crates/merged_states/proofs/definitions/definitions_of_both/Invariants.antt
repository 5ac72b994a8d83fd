use Rattle.std.proofs.Common.{◌≡◌, ◌+◌, ◌++◌, drop}
use Rattle.merged_states.specs.Parts.{def_of_both, definitions_from}
use Rattle.merged_states.proofs.definitions.definitions_of_both.Given as goal

abbrev pub invariant-loop-place : goal.invariant-loop-place
invariant-loop-place l =
    l.definitions.items ++ definitions_from (def_of_both l.frames l.a l.b) (l.place + 1) (drop l.place l.frames.numbers.keys)
    ≡ definitions_from (def_of_both l.frames l.a l.b) 1 l.frames.numbers.keys
