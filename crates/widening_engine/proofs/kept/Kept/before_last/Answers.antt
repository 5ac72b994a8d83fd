use Rattle.std.proofs.Common.{refl, sym, subst}
use Rattle.widening_engine.specs.Flows.{flow_of}
use Rattle.widening_engine.specs.Rounds.{Flow}
use Rattle.widening_engine.proofs.KeptStates.{state_read}
use Rattle.widening_engine.proofs.kept.Kept.before_last.Goals as goal

pub before_last-requires-clause-fits : goal.before_last-requires-clause-fits
before_last-requires-clause-fits g c =
    let code = c.args.code.now in
    let flow : Flow _ = flow_of g.S.FlowState g.S.Lattice code in
    let source = state_read flow c.args.self.now.blocks.items c.args.block c.args.block _ c.requires.fit.count refl c.requires.block c.index-source.ensures in
    subst (g.S.FlowState.fits code c.args.block) (sym source) (c.requires.fit.fit c.args.block c.requires.block)
