use Rattle.std.proofs.Common.{◌≤◌, ◌+◌, ◌∙◌, false, true, length, map, ap, subst}
use Rattle.std.proofs.lemmas.List.FromFn.{length-map-range_with_len}
use Rattle.widening_engine.specs.Flows.{flow_of}
use Rattle.widening_engine.specs.Kept.{no_block}
use Rattle.widening_engine.specs.Rounds.{Flow, places}
use Rattle.widening_engine.specs.Work.{after_ticks}
use Rattle.widening_engine.proofs.EdgeSteps.{keeps}
use Rattle.widening_engine.proofs.KeptStates.{all_count, begun_fit, begun_kept}
use Rattle.widening_engine.proofs.kept.Kept.begin.Goals as goal

pub refresh-requires : goal.refresh-requires
refresh-requires g c =
    let m = g.met.S.FlowState in
    let code = c.args.code.now in
    let flow : Flow _ = flow_of g.S.FlowState g.S.Lattice code in
    let law = keeps g.S.FlowState g.S.Lattice code c.requires.lawful m.source_below m.target_below m.along_fits m.join_fits m.widen_fits m.entry_fits m.nothing_fits m.unknown_fits in
    let blocks = c.in_ok-kept.ensures.blocks ∙ ap (λ n. map (λ block. no_block flow.nothing) (places n)) c.requires.count in
    record {
      lawful = c.requires.lawful;
      edges = c.requires.edges;
      few = c.requires.few;
      fit = begun_fit flow (g.S.FlowState.fits code) law c.in_ok-kept.kept.blocks.items blocks;
      behind = ap length c.in_ok-kept.ensures.behind ∙ length-map-range_with_len _ 0 _ ∙ c.requires.edges.count;
      carried = ap length c.in_ok-kept.ensures.carried ∙ length-map-range_with_len _ 0 _ ∙ c.requires.edges.count;
      stale = ap length c.in_ok-kept.ensures.stale ∙ length-map-range_with_len _ 0 _ ∙ c.requires.count;
      changed = ap length (c.as_slice.ensures.value ∙ c.in_ok-all.ensures) ∙ length-map-range_with_len _ 0 _ ∙ c.requires.count;
    }

pub returns-clause-kept : goal.returns-clause-kept
returns-clause-kept g c =
    let m = g.met.S.FlowState in
    let code = c.args.code.now in
    let flow : Flow _ = flow_of g.S.FlowState g.S.Lattice code in
    let law = keeps g.S.FlowState g.S.Lattice code c.requires.lawful m.source_below m.target_below m.along_fits m.join_fits m.widen_fits m.entry_fits m.nothing_fits m.unknown_fits in
    let blocks = c.in_ok-kept.ensures.blocks ∙ ap (λ n. map (λ block. no_block flow.nothing) (places n)) c.requires.count in
    let carried = c.in_ok-kept.ensures.carried ∙ ap (λ n. map (λ edge. false) (places n)) c.requires.edges.count in
    let stale = c.in_ok-kept.ensures.stale ∙ ap (λ n. map (λ block. true) (places n)) c.requires.count in
    (begun_kept flow (g.S.FlowState.fits code) law _ c.in_ok-kept.kept _ c.in_ok-kept.ensures.entry blocks c.in_ok-kept.ensures.begun carried stale c.in_ok-refresh.ensures.refreshed).0

pub returns-clause-states : goal.returns-clause-states
returns-clause-states g c =
    let m = g.met.S.FlowState in
    let code = c.args.code.now in
    let flow : Flow _ = flow_of g.S.FlowState g.S.Lattice code in
    let law = keeps g.S.FlowState g.S.Lattice code c.requires.lawful m.source_below m.target_below m.along_fits m.join_fits m.widen_fits m.entry_fits m.nothing_fits m.unknown_fits in
    let blocks = c.in_ok-kept.ensures.blocks ∙ ap (λ n. map (λ block. no_block flow.nothing) (places n)) c.requires.count in
    let carried = c.in_ok-kept.ensures.carried ∙ ap (λ n. map (λ edge. false) (places n)) c.requires.edges.count in
    let stale = c.in_ok-kept.ensures.stale ∙ ap (λ n. map (λ block. true) (places n)) c.requires.count in
    (begun_kept flow (g.S.FlowState.fits code) law _ c.in_ok-kept.kept _ c.in_ok-kept.ensures.entry blocks c.in_ok-kept.ensures.begun carried stale c.in_ok-refresh.ensures.refreshed).1

pub returns-clause-ticked : goal.returns-clause-ticked
returns-clause-ticked g c =
    let flow : Flow _ = flow_of g.S.FlowState g.S.Lattice c.args.code.now in
    c.in_ok-refresh.ensures.ticked ∙ ap (λ n. after_ticks n (g.S.Gauge.Meter.count c.args.meter.now)) (all_count flow c.as_slice.result.now)

pub returns-in_err-refresh-clause-most : goal.returns-in_err-refresh-clause-most
returns-in_err-refresh-clause-most g c =
    let flow : Flow _ = flow_of g.S.FlowState g.S.Lattice c.args.code.now in
    subst (λ n. g.S.Gauge.Meter.count c.refresh.new.meter ≤ g.S.Gauge.Meter.count c.args.meter.now + n) (all_count flow c.as_slice.result.now) c.refresh.ensures.most

pub returns-clause-most : goal.returns-clause-most
returns-clause-most g c =
    let flow : Flow _ = flow_of g.S.FlowState g.S.Lattice c.args.code.now in
    subst (λ n. g.S.Gauge.Meter.count c.refresh.new.meter ≤ g.S.Gauge.Meter.count c.args.meter.now + n) (all_count flow c.as_slice.result.now) c.refresh.ensures.most
