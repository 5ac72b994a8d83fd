use Rattle.ensures_infer.proofs.Finding.{one_more_shown}
use Rattle.ensures_infer.proofs.inference.first_shown.Goals as goal

pub loop-row-preserved : goal.loop-row-preserved
loop-row-preserved c =
    one_more_shown c.args.room c.args.returns.now c.args.rows.now c.loop-row.row-index _ c.loop-row-test.true
    c.loop-row.found.items c.push_shown.new.found.items c.loop-row.invariant c.in_ok-push_shown.ensures
