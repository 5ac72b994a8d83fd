use Rattle.clause_faults.proofs.WayLemmas.Gathering.{next_gathered}
use Rattle.clause_faults.proofs.ways.gather.gathered.Goals as goal

pub loop-arrival-preserved : goal.loop-arrival-preserved
loop-arrival-preserved c =
    next_gathered c.args.arrivals.now c.loop-arrival.arrival-index _ _ _ c.loop-arrival-test.true c.loop-arrival.invariant c.in_ok-put.ensures
