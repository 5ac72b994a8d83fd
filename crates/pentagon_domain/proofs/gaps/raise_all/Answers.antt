use Rattle.std.proofs.Common.{◌<◌, length, w64, to_z, of_z, get_or, None, pos, arith, rules, FitsSigned}
use Rattle.std.proofs.lemmas.Int.{to_z-of_z}
use Rattle.pentagon_domain.specs.declared.bound_row.BoundRow.{BoundRow}
use Rattle.pentagon_domain.proofs.Reaches.{reach_more, reached_all}
use Rattle.pentagon_domain.proofs.gaps.raise_all.Goals as goal

pub loop-row-preserved : goal.loop-row-preserved
loop-row-preserved c = λ t inside.
    let before : t < length c.loop-row.gaps = omega arith in
    let none : BoundRow = record { s = 0; t = 0; k = pos 0 } in
    let row : BoundRow = get_or c.args.rows.now c.loop-row.row-index none in
    let fits : FitsSigned w64 row.k = search rules in
    let raised = rw (to_z-of_z w64 row.k fits) at (c.raise.ensures t inside) in
    reach_more (to_z w64 (of_z w64 c.args.k)) c.args.rows.now c.loop-row.row-index t (get_or c.loop-row.gaps t None) (get_or c.raise.new.gaps t None) _ none
    c.loop-row-test.true raised (c.loop-row.invariant t before)

pub returns : goal.returns
returns c = λ t inside.
    reached_all c.args.k c.args.rows.now c.loop-row.row-index t _ _ c.loop-row-test.false (rw (to_z-of_z w64 c.args.k c.ranges.k) at (c.loop-row.invariant t inside))
