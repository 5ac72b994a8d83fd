use Rattle.std.proofs.Common.{◌≡◌, ◌-◌, map}
use Rattle.std.specs.List.{range_with_len}
use Rattle.state_facts.specs.Moves as rule
use Rattle.state_facts.proofs.known.Known.others.Given as goal

abbrev pub invariant-loop-q : goal.invariant-loop-q
invariant-loop-q l = l.others.items ≡ map (rule.may_be l.self l.r) (range_with_len 1 (l.q - 1))
