use Rattle.std.proofs.Common.{ℕ, ◌<◌}
use Rattle.transfer_rules.specs.Flow.{Fits}
use Rattle.transfer_rules.specs.Inductive.{state_at}
use Rattle.transfer_rules.proofs.induction.all_fit.Given as goal

abbrev pub invariant-loop-block : goal.invariant-loop-block
invariant-loop-block l = (b : ℕ) → b < l.block → Fits l.code b (state_at l.states b)
