use Rattle.pentagon_domain.proofs.Reaches.{behind_more, behind_all, gap_apart}
use Rattle.pentagon_domain.proofs.order.BoundsOrder.gap.Goals as goal

pub loop-first-init : goal.loop-first-init
loop-first-init c = rw (c.stored_gap-known.ensures, c.rows_from-firsts.ensures.value) (gap_apart c.args.self.now c.args.s c.args.t c.if-s-t.false)

pub loop-first-preserved : goal.loop-first-preserved
loop-first-preserved c =
    rw c.raised_behind-known.ensures
    (behind_more c.args.self.now c.rows_from-firsts.result.now c.loop-first.first-index c.args.t c.loop-first.known _ _ c.loop-first-test.true c.loop-first.invariant)

pub returns : goal.returns
returns c = behind_all c.args.self.now c.rows_from-firsts.result.now c.loop-first.first-index c.args.t c.loop-first.known _ c.loop-first-test.false c.loop-first.invariant
