use Rattle.std.proofs.Common.{◌≡◌, ◌-◌, map}
use Rattle.std.specs.List.{range_with_len}
use Rattle.state_facts.specs.Calls as rule
use Rattle.state_facts.proofs.known.Known.changed.Given as goal

abbrev pub invariant-loop-q : goal.invariant-loop-q
invariant-loop-q l = l.changed.items ≡ map (rule.changed_at l.self l.passed) (range_with_len 1 (l.q - 1))
