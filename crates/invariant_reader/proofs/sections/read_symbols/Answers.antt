use Rattle.std.proofs.Common.{refl, sym, subst, List}
use Rattle.interval_domain.specs.Interval.{Interval}
use Rattle.invariant_text.specs.SymbolLines.{symbol_line}
use Rattle.invariant_text.proofs.Sections.{IsNarrowAt}
use Rattle.invariant_reader.proofs.Repeats.{AreUnderWay, goes_on, item_missed, item_stuck, starts, whole_read}
use Rattle.invariant_reader.proofs.SectionLoops.{symbol_next, symbols_loop, symbols_readable, lines_headed}
use Rattle.invariant_reader.proofs.sections.read_symbols.Goals as goal

pub loop-read-init : goal.loop-read-init
loop-read-init c = starts symbols_loop c.new-ranges.result.items 1 c.args.text.now

pub returns-in_default : goal.returns-in_default
returns-in_default c =
    item_missed symbols_readable (lines_headed symbol_line IsNarrowAt 2 1 c.args.text.now) (record { head_is = refl; start_is = c.new-ranges.ensures.items })
    c.loop-read.invariant c.loop-read-test.ensures
    (symbol_next c.loop-read.rest.now) c.in_default.ensures

pub returns-then-left-rest : goal.returns-then-left-rest
returns-then-left-rest c =
    item_stuck symbols_readable (lines_headed symbol_line IsNarrowAt 2 1 c.args.text.now) (record { head_is = refl; start_is = c.new-ranges.ensures.items })
    c.loop-read.invariant c.loop-read-test.ensures
    (symbol_next c.loop-read.rest.now) c.in-Some.read.0 c.in-Some.read.1.now c.in-Some.ensures c.if-left-rest.true

pub loop-read-preserved : goal.loop-read-preserved
loop-read-preserved c =
    let one = goes_on symbols_readable c.loop-read.invariant c.loop-read-test.ensures (symbol_next c.loop-read.rest.now)
    c.in-Some.read.0 c.in-Some.read.1.now c.in-Some.ensures in
    subst (λ (items : List Interval). AreUnderWay symbols_loop c.new-ranges.result.items 1 c.args.text.now items
    c.in-Some.read.1.now) (sym c.in_ok-push.ensures.items) one

pub returns : goal.returns
returns c =
    whole_read symbols_readable (lines_headed symbol_line IsNarrowAt 2 1 c.args.text.now) (record { head_is = refl; start_is = c.new-ranges.ensures.items })
    c.loop-read.invariant c.loop-read-test.ensures
