use Rattle.std.proofs.Common.{◌≡◌, ◌+◌, ◌-◌, length}
use Rattle.state_facts.specs.Calls as rule
use Rattle.state_facts.proofs.known.Known.apart_with_result.Given as goal

abbrev pub invariant-loop-q : goal.invariant-loop-q
invariant-loop-q l = l.apart ≡ rule.apart_with (rule.apart_from_all l.self l.passed) (length l.self.references + 1) (l.q - 1) l.self.apart
