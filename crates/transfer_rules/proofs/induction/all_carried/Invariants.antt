use Rattle.std.proofs.Common.{ℕ, ◌<◌}
use Rattle.transfer_rules.specs.Inductive.{IsCarried}
use Rattle.transfer_rules.proofs.induction.all_carried.Given as goal

abbrev pub invariant-loop-edge : goal.invariant-loop-edge
invariant-loop-edge l = (e : ℕ) → e < l.edge → IsCarried l.code l.states e
