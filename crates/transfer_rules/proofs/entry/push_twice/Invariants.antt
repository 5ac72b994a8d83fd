use Rattle.std.proofs.Common.{◌≡◌}
use Rattle.transfer_rules.specs.Entry.{with_first}
use Rattle.transfer_rules.proofs.entry.push_twice.Given as goal

abbrev pub invariant-loop-i : goal.invariant-loop-i
invariant-loop-i l = l.state ≡ with_first l.i l.initial.state
