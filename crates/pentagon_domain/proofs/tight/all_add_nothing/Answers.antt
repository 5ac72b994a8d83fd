use Rattle.std.proofs.Common.{pos, get_or}
use Rattle.pentagon_domain.specs.declared.bound_row.BoundRow.{BoundRow}
use Rattle.pentagon_domain.specs.Rows.{rows_from, stored}
use Rattle.pentagon_domain.specs.Tight.{AddNothing}
use Rattle.pentagon_domain.proofs.TightTests.{nothing_by_row, rest_more}
use Rattle.pentagon_domain.proofs.tight.all_add_nothing.Goals as goal

pub loop-first-preserved : goal.loop-first-preserved
loop-first-preserved c =
    let ends = c.args.ends.now in
    let rows = c.args.bounds.now in
    let row = c.args.row.now in
    let s = c.args.s in
    let none : BoundRow = record { s = 0; t = 0; k = pos 0 } in
    let firsts = c.rows_from-firsts.result.now in
    let first : BoundRow = get_or firsts c.loop-first.first-index none in
    let nothing = rw c.rows_near.ensures.value at (c.add_nothing.ensures ends row c.requires.told c.if-not-add_nothing.false) in
    rest_more (λ first. AddNothing ends (stored rows s) s first.k (rows_from rows first.t)) firsts c.loop-first.first-index none c.loop-first-test.true
    (nothing_by_row ends rows row s first.k (rows_from rows first.t) c.requires.stored nothing) c.loop-first.invariant
