use Rattle.std.proofs.Common.{◌∙◌}
use Rattle.symbolic_values.proofs.SymbolUses.{use_step, use_end}
use Rattle.symbolic_values.proofs.pairing.symbol_keys.Goals as goal

pub loop-index-preserved : goal.loop-index-preserved
loop-index-preserved c =
    use_step c.args.exprs.now c.loop-index.index _ c.loop-index.uses c.note.new.self c.of_symbol.result c.loop-index-test.true c.of_symbol.ensures
    c.in_ok-note.ensures c.loop-index.invariant

pub returns : goal.returns
returns c = c.into_keys.ensures ∙ use_end c.args.exprs.now c.loop-index.index c.loop-index.uses c.loop-index-test.false c.loop-index.invariant
