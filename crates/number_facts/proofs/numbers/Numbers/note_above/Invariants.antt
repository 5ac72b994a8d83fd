use Rattle.std.proofs.Common.{◌≡◌, ◌++◌, drop}
use Rattle.number_facts.specs.Additions as rule
use Rattle.number_facts.proofs.numbers.Numbers.note_above.Given as goal

-- What is noted so far, and then what the rest of the differences say, is all that is noted.
abbrev pub invariant-loop-difference : goal.invariant-loop-difference
invariant-loop-difference l =
    l.known.items ++ rule.at_most (rule.above_each l.self l.a l.b (drop l.difference-index l.differences))
    ≡ l.fn.known.items ++ rule.at_most (rule.all_above l.self l.a l.b l.self.definitions)
