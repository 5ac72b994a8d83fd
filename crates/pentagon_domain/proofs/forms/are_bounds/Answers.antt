use Rattle.std.proofs.Common.{sym, ◌∙◌}
use Rattle.pentagon_domain.proofs.Neighbours.{fails_here, no_more}
use Rattle.pentagon_domain.proofs.forms.are_bounds.Goals as goal

pub returns : goal.returns
returns c = no_more c.loop-row.previous c.args.rows.now c.loop-row.row-index c.loop-row-test.false c.loop-row.invariant

pub returns-then-not-stands_behind : goal.returns-then-not-stands_behind
returns-then-not-stands_behind c =
    fails_here c.loop-row.previous c.args.rows.now c.loop-row.row-index _ c.loop-row-test.true (sym c.stands_behind.ensures ∙ c.if-not-stands_behind.true)
    c.loop-row.invariant
