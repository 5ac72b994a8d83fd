use Rattle.std.proofs.Common.{sym, subst, ◌∙◌}
use Rattle.symbolic_values.proofs.Pairings.{PairsSoFar, pairs_step, pairs_end}
use Rattle.symbolic_values.proofs.pairing.pair.Goals as goal

pub loop-index-preserved : goal.loop-index-preserved
loop-index-preserved c =
    let used = c.of-used.ensures in
    subst (PairsSoFar c.args.a.now c.args.b.now _ c.named.new.self) (sym c.in_ok-push.ensures.items)
    (pairs_step c.args.a.now c.args.b.now c.loop-index.index _ c.of-used.result c.loop-index.uses c.named.new.self c.loop-index.exprs.items
    c.in_ok-named.field-0 c.loop-index-test.true c.requires.same_length used c.loop-index.invariant c.in_ok-named.ensures.known c.in_ok-named.ensures.name)

pub returns : goal.returns
returns c =
    c.into_pairs.ensures
    ∙ pairs_end c.args.a.now c.args.b.now c.loop-index.index c.loop-index.uses c.loop-index.exprs.items c.loop-index-test.false c.requires.same_length
    c.loop-index.invariant
