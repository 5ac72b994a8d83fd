use Rattle.std.proofs.Common.{◌<◌, ◌∙◌, sym, subst, refl, length, arith}
use Rattle.std.proofs.lemmas.List.{get_or_read}
use Rattle.widening_engine.specs.Flows.{flow_of}
use Rattle.widening_engine.specs.Kept.{states_of}
use Rattle.widening_engine.specs.Rounds.{Flow, behind, state_at}
use Rattle.widening_engine.proofs.EdgeSteps.{behind_fits, keeps}
use Rattle.widening_engine.proofs.KeptStates.{behind_at, carried_found, state_read}
use Rattle.widening_engine.proofs.kept.Kept.is_carried.Goals as goal

pub leq-requires : goal.leq-requires
leq-requires g c =
    let m = g.met.S.FlowState in
    let code = c.args.code.now in
    let flow : Flow _ = flow_of g.S.FlowState g.S.Lattice code in
    let law = keeps g.S.FlowState g.S.Lattice code c.requires.lawful m.source_below m.target_below m.along_fits m.join_fits m.widen_fits m.entry_fits m.nothing_fits m.unknown_fits in
    let kept = c.requires.kept in
    let states = states_of c.args.self.now.blocks.items in
    let n = c.args.place in
    let inside : n < flow.edges = c.requires.place in
    let there : n < length c.args.self.now.behind.items = omega (arith, kept.edges, inside) in
    let target = state_read flow c.args.self.now.blocks.items _ (flow.target n) _ kept.fit.count c.requires.to (law.target_below n inside) c.index-target.ensures in
    let here = get_or_read c.args.self.now.behind.items n _ there c.index-behind.ensures flow.nothing ∙ behind_at flow states c.args.self.now.behind.items n kept.behind inside in
    let alike = m.fitting_like code (flow.target n) (behind flow states n) (state_at flow states (flow.target n)) c.requires.lawful
    (behind_fits flow (g.S.FlowState.fits code) law states kept.fit n inside) (kept.fit.fit (flow.target n) (law.target_below n inside)) in
    subst (λ a. g.S.Lattice.like a c.index-target.result.now.state) (sym here) (subst (λ a. g.S.Lattice.like (behind flow states n) a) (sym target) alike)

pub returns-clause-kept : goal.returns-clause-kept
returns-clause-kept g c =
    let m = g.met.S.FlowState in
    let code = c.args.code.now in
    let flow : Flow _ = flow_of g.S.FlowState g.S.Lattice code in
    let kept = c.requires.kept in
    let states = states_of c.args.self.now.blocks.items in
    let n = c.args.place in
    let inside : n < flow.edges = c.requires.place in
    let there : n < length c.args.self.now.behind.items = omega (arith, kept.edges, inside) in
    let target = state_read flow c.args.self.now.blocks.items _ (flow.target n) _ kept.fit.count c.requires.to (m.target_below code n c.requires.lawful inside) c.index-target.ensures in
    let here = get_or_read c.args.self.now.behind.items n _ there c.index-behind.ensures flow.nothing ∙ behind_at flow states c.args.self.now.behind.items n kept.behind inside in
    let found = c.in_ok-carried.ensures ∙ (λ i. flow.leq (here i) (target i)) in
    carried_found flow (g.S.FlowState.fits code) c.args.self.now _ kept refl refl refl refl n c.in_ok-carried.carried inside refl refl found

pub returns-clause-value : goal.returns-clause-value
returns-clause-value g c =
    let m = g.met.S.FlowState in
    let code = c.args.code.now in
    let flow : Flow _ = flow_of g.S.FlowState g.S.Lattice code in
    let kept = c.requires.kept in
    let states = states_of c.args.self.now.blocks.items in
    let n = c.args.place in
    let inside : n < flow.edges = c.requires.place in
    let there : n < length c.args.self.now.behind.items = omega (arith, kept.edges, inside) in
    let target = state_read flow c.args.self.now.blocks.items _ (flow.target n) _ kept.fit.count c.requires.to (m.target_below code n c.requires.lawful inside) c.index-target.ensures in
    let here = get_or_read c.args.self.now.behind.items n _ there c.index-behind.ensures flow.nothing ∙ behind_at flow states c.args.self.now.behind.items n kept.behind inside in
    c.in_ok-carried.ensures ∙ (λ i. flow.leq (here i) (target i))
