use Rattle.transfer_rules.proofs.Inducing.{AreBeforeUpTo}
use Rattle.transfer_rules.proofs.induction.all_before_last.Given as goal

abbrev pub invariant-loop-block : goal.invariant-loop-block
invariant-loop-block l = AreBeforeUpTo l.code l.states l.block l.befores.items
