use Rattle.std.proofs.Common.{refl, sym, subst, List}
use Rattle.alias_facts.specs.PairsOf.{Pair}
use Rattle.invariant_text.specs.ReferenceLines.{apart_line}
use Rattle.invariant_reader.specs.CodeNumbers.{IsCodePair}
use Rattle.invariant_reader.proofs.Repeats.{AreUnderWay, goes_on, item_missed, item_stuck, starts, whole_read}
use Rattle.invariant_reader.proofs.SectionLoops.{pair_next, pairs_loop, pairs_readable, lines_headed}
use Rattle.invariant_reader.proofs.sections.read_apart.Goals as goal

pub loop-pair-init : goal.loop-pair-init
loop-pair-init c = starts pairs_loop c.new-pairs.result.items 0 c.args.text.now

pub returns-in_default : goal.returns-in_default
returns-in_default c =
    item_missed pairs_readable (lines_headed (λ n p. apart_line p) (λ n p. IsCodePair p) 6 0 c.args.text.now) (record { head_is = refl; start_is = c.new-pairs.ensures.items })
    c.loop-pair.invariant c.loop-pair-test.ensures
    (pair_next c.loop-pair.rest.now) c.in_default.ensures

pub returns-then-left-rest : goal.returns-then-left-rest
returns-then-left-rest c =
    item_stuck pairs_readable (lines_headed (λ n p. apart_line p) (λ n p. IsCodePair p) 6 0 c.args.text.now) (record { head_is = refl; start_is = c.new-pairs.ensures.items })
    c.loop-pair.invariant c.loop-pair-test.ensures
    (pair_next c.loop-pair.rest.now) c.in-Some.pair c.in-Some.left.now c.in-Some.ensures c.if-left-rest.true

pub loop-pair-preserved : goal.loop-pair-preserved
loop-pair-preserved c =
    let one = goes_on pairs_readable c.loop-pair.invariant c.loop-pair-test.ensures (pair_next c.loop-pair.rest.now)
    c.in-Some.pair c.in-Some.left.now c.in-Some.ensures in
    subst (λ (items : List Pair). AreUnderWay pairs_loop c.new-pairs.result.items 0 c.args.text.now items
    c.in-Some.left.now) (sym c.in_ok-push.ensures.items) one

pub returns : goal.returns
returns c =
    whole_read pairs_readable (lines_headed (λ n p. apart_line p) (λ n p. IsCodePair p) 6 0 c.args.text.now) (record { head_is = refl; start_is = c.new-pairs.ensures.items })
    c.loop-pair.invariant c.loop-pair-test.ensures
