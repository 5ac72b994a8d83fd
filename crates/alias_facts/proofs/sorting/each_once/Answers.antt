use Rattle.alias_facts.proofs.SortingLaws.{ordered_more}
use Rattle.alias_facts.proofs.sorting.each_once.Goals as goal

pub loop-pair-preserved : goal.loop-pair-preserved
loop-pair-preserved c =
    ordered_more c.args.pairs.now c.loop-pair.all.items c.insert.new.pairs.items c.loop-pair.pair-index (0, 0) c.loop-pair-test.true c.loop-pair.invariant
    c.in_ok-insert.ensures.in_order c.in_ok-insert.ensures.ok
