use Rattle.std.proofs.Common.{◌≡◌, drop}
use Rattle.number_facts.specs.Additions as rule
use Rattle.number_facts.proofs.numbers.Numbers.cut_by.Given as goal

-- What the differences so far leave, cut by the rest of them, is what all leave.
abbrev pub invariant-loop-difference : goal.invariant-loop-difference
invariant-loop-difference l =
    rule.cut_by l.self (rule.above_each l.self l.a l.b (drop l.difference-index l.differences)) l.cut ≡ rule.cut_by l.self (rule.all_above l.self l.a l.b l.self.definitions) l.hi
