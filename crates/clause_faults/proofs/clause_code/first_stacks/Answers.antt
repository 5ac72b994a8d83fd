use Rattle.clause_faults.proofs.WayLemmas.Beginning.{one_more_empty}
use Rattle.clause_faults.proofs.clause_code.first_stacks.Goals as goal

pub loop-made-preserved : goal.loop-made-preserved
loop-made-preserved c =
    one_more_empty c.loop-made._made c.loop-made.stacks.items c.push-in-loop-made.new.self.items c.new.result c.loop-made.invariant c.new.ensures c.in_ok-push-3.ensures.items
