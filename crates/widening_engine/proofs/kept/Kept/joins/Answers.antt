use Rattle.std.proofs.Common.{◌≡◌, ◌<◌, ◌∙◌, None, Some, cond, ap, sym, subst, map, set, length, get_or, arith}
use Rattle.std.proofs.lemmas.List.{get_or_read}
use Rattle.std.proofs.lemmas.List.FromFn.{length-map-range_with_len}
use Rattle.widening_engine.specs.Flows.{flow_of}
use Rattle.widening_engine.specs.Kept.{joined_anew, states_of}
use Rattle.widening_engine.specs.Merging.{joined}
use Rattle.widening_engine.specs.Rounds.{Flow, places}
use Rattle.widening_engine.proofs.EdgeSteps.{FitsIfAny, behind_fits, keeps, like_before}
use Rattle.widening_engine.proofs.KeptStates.{anew_at, anew_fits, anew_more, behind_at, mark_read}
use Rattle.widening_engine.proofs.kept.Kept.joins.Goals as goal

pub join_into-requires-clause-block : goal.join_into-requires-clause-block
join_into-requires-clause-block g c =
    let m = g.met.S.FlowState in
    let code = c.args.code.now in
    let flow : Flow _ = flow_of g.S.FlowState g.S.Lattice code in
    let n = c.loop-place.place in
    let inside : n < flow.edges = omega (arith, c.requires.edges.count) in
    let many : length c.loop-place.joins.items ≡ flow.blocks = ap length c.loop-place.invariant ∙ length-map-range_with_len _ 0 flow.blocks in
    let below : flow.target n < flow.blocks = m.target_below code n c.requires.lawful inside in
    omega (arith, c.requires.edges.to n inside, many, below)

pub join_into-requires-clause-like : goal.join_into-requires-clause-like
join_into-requires-clause-like g c =
    let m = g.met.S.FlowState in
    let code = c.args.code.now in
    let flow : Flow _ = flow_of g.S.FlowState g.S.Lattice code in
    let law = keeps g.S.FlowState g.S.Lattice code c.requires.lawful m.source_below m.target_below m.along_fits m.join_fits m.widen_fits m.entry_fits m.nothing_fits m.unknown_fits in
    let kept = c.requires.kept in
    let states = states_of c.args.self.now.blocks.items in
    let stale = c.args.self.now.stale.items in
    let n = c.loop-place.place in
    let inside : n < flow.edges = omega (arith, c.requires.edges.count) in
    let there : n < length c.args.self.now.behind.items = omega (arith, kept.edges, inside) in
    let below : flow.target n < flow.blocks = law.target_below n inside in
    let here = get_or_read c.args.self.now.behind.items n _ there c.index-behind.ensures flow.nothing ∙ behind_at flow states c.args.self.now.behind.items n kept.behind inside in
    let fit = behind_fits flow (g.S.FlowState.fits code) law states kept.fit n inside in
    let item = ap (λ b. get_or c.loop-place.joins.items b None) (c.requires.edges.to n inside) ∙ anew_at flow states stale n (flow.target n) c.loop-place.joins.items c.loop-place.invariant below in
    like_before (g.S.FlowState.fits code (flow.target n)) g.S.Lattice.like c.index-behind.result.now
    (λ a first. m.fitting_like code (flow.target n) a c.index-behind.result.now c.requires.lawful first (subst (g.S.FlowState.fits code (flow.target n)) (sym here) fit))
    _
    (subst (FitsIfAny (g.S.FlowState.fits code (flow.target n))) (sym item) (anew_fits flow (g.S.FlowState.fits code) states stale law kept.fit n (flow.target n) (omega (arith, inside))))

pub loop-place-preserved : goal.loop-place-preserved
loop-place-preserved g c =
    let m = g.met.S.FlowState in
    let code = c.args.code.now in
    let flow : Flow _ = flow_of g.S.FlowState g.S.Lattice code in
    let kept = c.requires.kept in
    let states = states_of c.args.self.now.blocks.items in
    let stale = c.args.self.now.stale.items in
    let n = c.loop-place.place in
    let inside : n < flow.edges = omega (arith, c.requires.edges.count) in
    let there : n < length c.args.self.now.behind.items = omega (arith, kept.edges, inside) in
    let below : flow.target n < flow.blocks = m.target_below code n c.requires.lawful inside in
    let here = get_or_read c.args.self.now.behind.items n _ there c.index-behind.ensures flow.nothing ∙ behind_at flow states c.args.self.now.behind.items n kept.behind inside in
    let to = c.requires.edges.to n inside in
    let mark = mark_read stale _ (flow.target n) _ to (omega (arith, kept.count, below)) c.index-stale.ensures in
    c.in_ok-join_into.ensures
    ∙ (λ i. cond c.index-stale.result.now (set (c.loop-place.invariant i) (to i) (Some (joined flow.join (get_or (c.loop-place.invariant i) (to i) None) (here i)))) (c.loop-place.invariant i))
    ∙ anew_more flow states stale c.index-stale.result.now n mark below

pub returns : goal.returns
returns g c =
    let m = g.met.S.FlowState in
    let code = c.args.code.now in
    let flow : Flow _ = flow_of g.S.FlowState g.S.Lattice code in
    let all : c.loop-place.place ≡ flow.edges = omega (arith, c.requires.edges.count) in
    c.loop-place.invariant ∙ ap (λ n. map (joined_anew flow (states_of c.args.self.now.blocks.items) c.args.self.now.stale.items (places n)) (places flow.blocks)) all
