use Rattle.std.proofs.Common.{◌≡◌, drop}
use Rattle.transfer_rules.specs.Unknown.{with_stack}
use Rattle.transfer_rules.proofs.unknown_states.push_stack.Given as goal

abbrev pub invariant-loop-kind : goal.invariant-loop-kind
invariant-loop-kind l = with_stack l.kinds l.initial.state ≡ with_stack (drop l.kind-index l.kinds) l.state
