use Rattle.std.proofs.Common.{sym, ◌∙◌}
use Rattle.alias_facts.proofs.Neighbours.{fails_here, no_more}
use Rattle.alias_facts.proofs.pair_forms.are_kept_pairs.Goals as goal

pub returns : goal.returns
returns c = no_more c.loop-pair.previous c.args.pairs.now c.loop-pair.pair-index c.loop-pair-test.false c.loop-pair.invariant

pub returns-then-not-stands_behind : goal.returns-then-not-stands_behind
returns-then-not-stands_behind c =
    fails_here c.loop-pair.previous c.args.pairs.now c.loop-pair.pair-index _ c.loop-pair-test.true
    (sym c.stands_behind.ensures ∙ c.if-not-stands_behind.true) c.loop-pair.invariant
