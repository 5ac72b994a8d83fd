use Rattle.std.proofs.Common.{◌<◌, length, get_or, None, pos, arith}
use Rattle.pentagon_domain.specs.declared.bound_row.BoundRow.{BoundRow}
use Rattle.pentagon_domain.proofs.Reaches.{next_all, next_more}
use Rattle.pentagon_domain.proofs.gaps.raise_among.Goals as goal

pub loop-next-preserved : goal.loop-next-preserved
loop-next-preserved c = λ t inside.
    let before : t < length c.loop-next.gaps = omega arith in
    let none : BoundRow = record { s = 0; t = 0; k = pos 0 } in
    next_more c.args.first.now c.args.rows.now c.loop-next.next-index t (get_or c.loop-next.gaps t None) (get_or c.raise_by.new.gaps t None) _ none
    c.loop-next-test.true (c.raise_by.ensures t inside) (c.loop-next.invariant t before)

pub returns : goal.returns
returns c = λ t inside.
    next_all c.args.first.now c.args.rows.now c.loop-next.next-index t _ _ c.loop-next-test.false (c.loop-next.invariant t inside)
