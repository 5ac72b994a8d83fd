use Rattle.std.proofs.Common.{ℕ, ◌<◌, subst}
use Rattle.transfer_rules.proofs.Beginning.{once_more}
use Rattle.transfer_rules.proofs.entry.push_twice.Goals as goal

pub loop-i-preserved : goal.loop-i-preserved
loop-i-preserved c =
    once_more c.args.state.now c.loop-i.state c.push_again.new.state c.loop-i.i
    (subst (λ (n : ℕ). c.loop-i.i < n) c.var_count-i-end.ensures c.loop-i-test.true) c.loop-i.invariant
    c.in_ok-push_again.ensures
