use Rattle.std.proofs.Common.{refl, sym, subst, List}
use Rattle.pentagon_domain.specs.declared.bound_row.BoundRow.{BoundRow}
use Rattle.invariant_text.specs.SymbolLines.{bound_line}
use Rattle.invariant_reader.specs.CodeNumbers.{IsCodeRow}
use Rattle.invariant_reader.proofs.Repeats.{AreUnderWay, goes_on, item_missed, item_stuck, starts, whole_read}
use Rattle.invariant_reader.proofs.SectionLoops.{bound_next, bounds_loop, bounds_readable, lines_headed}
use Rattle.invariant_reader.proofs.sections.read_bounds.Goals as goal

pub loop-row-init : goal.loop-row-init
loop-row-init c = starts bounds_loop c.new-rows.result.items 0 c.args.text.now

pub returns-in_default : goal.returns-in_default
returns-in_default c =
    item_missed bounds_readable (lines_headed (λ n row. bound_line row) (λ n row. IsCodeRow row) 4 0 c.args.text.now) (record { head_is = refl; start_is = c.new-rows.ensures.items })
    c.loop-row.invariant c.loop-row-test.ensures
    (bound_next c.loop-row.rest.now) c.in_default.ensures

pub returns-then-left-rest : goal.returns-then-left-rest
returns-then-left-rest c =
    item_stuck bounds_readable (lines_headed (λ n row. bound_line row) (λ n row. IsCodeRow row) 4 0 c.args.text.now) (record { head_is = refl; start_is = c.new-rows.ensures.items })
    c.loop-row.invariant c.loop-row-test.ensures
    (bound_next c.loop-row.rest.now) c.in-Some.row c.in-Some.left.now c.in-Some.ensures c.if-left-rest.true

pub loop-row-preserved : goal.loop-row-preserved
loop-row-preserved c =
    let one = goes_on bounds_readable c.loop-row.invariant c.loop-row-test.ensures (bound_next c.loop-row.rest.now)
    c.in-Some.row c.in-Some.left.now c.in-Some.ensures in
    subst (λ (items : List BoundRow). AreUnderWay bounds_loop c.new-rows.result.items 0 c.args.text.now items
    c.in-Some.left.now) (sym c.in_ok-push.ensures.items) one

pub returns : goal.returns
returns c =
    whole_read bounds_readable (lines_headed (λ n row. bound_line row) (λ n row. IsCodeRow row) 4 0 c.args.text.now) (record { head_is = refl; start_is = c.new-rows.ensures.items })
    c.loop-row.invariant c.loop-row-test.ensures
