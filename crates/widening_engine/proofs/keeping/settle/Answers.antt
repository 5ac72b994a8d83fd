use Rattle.std.proofs.Common.{◌∙◌, ap, subst, sym}
use Rattle.widening_engine.specs.Flows.{FitBlocks, flow_of}
use Rattle.widening_engine.specs.Kept.{states_of}
use Rattle.widening_engine.specs.Rounds.{Flow, next}
use Rattle.widening_engine.proofs.Rounds.{settled_here, settled_later}
use Rattle.widening_engine.proofs.Seeking.{at_most, both, once_most, twice, twice_most}
use Rattle.widening_engine.proofs.keeping.settle.Goals as goal

pub returns-in_err-round-clause-most : goal.returns-in_err-round-clause-most
returns-in_err-round-clause-most g c =
    let flow : Flow _ = flow_of g.S.FlowState g.S.Lattice c.args.code.now in
    let states = states_of c.args.kept.blocks.items in
    let first = g.S.Gauge.Meter.count c.args.meter.now in
    once_most flow c.args.every states first _ c.round.ensures.most

pub returns-in_err-round-2-clause-most : goal.returns-in_err-round-2-clause-most
returns-in_err-round-2-clause-most g c =
    let flow : Flow _ = flow_of g.S.FlowState g.S.Lattice c.args.code.now in
    let states = states_of c.args.kept.blocks.items in
    let first = g.S.Gauge.Meter.count c.args.meter.now in
    twice_most flow c.args.every states first _ _ _ c.in_ok-round.ensures.states c.in_ok-round.ensures.ticked c.round-2.ensures.most

pub returns-in_err-inductive-clause-most : goal.returns-in_err-inductive-clause-most
returns-in_err-inductive-clause-most g c =
    let flow : Flow _ = flow_of g.S.FlowState g.S.Lattice c.args.code.now in
    let states = states_of c.args.kept.blocks.items in
    let first = g.S.Gauge.Meter.count c.args.meter.now in
    at_most c.args.every (both flow c.args.every states first) first _ (twice flow c.args.every states first _ _ _ c.in_ok-round.ensures.states c.in_ok-round.ensures.ticked c.in_ok-round-2.ensures.ticked)

pub returns-in_err-states-clause-most : goal.returns-in_err-states-clause-most
returns-in_err-states-clause-most g c =
    let flow : Flow _ = flow_of g.S.FlowState g.S.Lattice c.args.code.now in
    let states = states_of c.args.kept.blocks.items in
    let first = g.S.Gauge.Meter.count c.args.meter.now in
    at_most c.args.every (both flow c.args.every states first) first _ (twice flow c.args.every states first _ _ _ c.in_ok-round.ensures.states c.in_ok-round.ensures.ticked c.in_ok-round-2.ensures.ticked)

pub returns-then-inductive-clause-value : goal.returns-then-inductive-clause-value
returns-then-inductive-clause-value g c =
    let flow : Flow _ = flow_of g.S.FlowState g.S.Lattice c.args.code.now in
    let states = states_of c.args.kept.blocks.items in
    let first = g.S.Gauge.Meter.count c.args.meter.now in
    c.in_ok-states.ensures ∙ settled_later flow states _ (ap states_of c.in_ok-inductive.ensures.blocks ∙ c.in_ok-round-2.ensures.states ∙ ap (next flow) c.in_ok-round.ensures.states)
    (sym c.in_ok-inductive.ensures.value ∙ c.if-inductive.true)

pub returns-then-inductive-clause-most : goal.returns-then-inductive-clause-most
returns-then-inductive-clause-most g c =
    let flow : Flow _ = flow_of g.S.FlowState g.S.Lattice c.args.code.now in
    let states = states_of c.args.kept.blocks.items in
    let first = g.S.Gauge.Meter.count c.args.meter.now in
    at_most c.args.every (both flow c.args.every states first) first _ (twice flow c.args.every states first _ _ _ c.in_ok-round.ensures.states c.in_ok-round.ensures.ticked c.in_ok-round-2.ensures.ticked)

pub returns-then-inductive-clause-ticked : goal.returns-then-inductive-clause-ticked
returns-then-inductive-clause-ticked g c =
    let flow : Flow _ = flow_of g.S.FlowState g.S.Lattice c.args.code.now in
    let states = states_of c.args.kept.blocks.items in
    let first = g.S.Gauge.Meter.count c.args.meter.now in
    twice flow c.args.every states first _ _ _ c.in_ok-round.ensures.states c.in_ok-round.ensures.ticked c.in_ok-round-2.ensures.ticked

pub returns-clause-value : goal.returns-clause-value
returns-clause-value g c =
    let flow : Flow _ = flow_of g.S.FlowState g.S.Lattice c.args.code.now in
    let states = states_of c.args.kept.blocks.items in
    let first = g.S.Gauge.Meter.count c.args.meter.now in
    c.in_ok-found.ensures ∙ settled_here flow states _ (ap states_of c.in_ok-inductive.ensures.blocks ∙ c.in_ok-round-2.ensures.states ∙ ap (next flow) c.in_ok-round.ensures.states)
    (sym c.in_ok-inductive.ensures.value ∙ c.if-inductive.false)

pub returns-clause-most : goal.returns-clause-most
returns-clause-most g c =
    let flow : Flow _ = flow_of g.S.FlowState g.S.Lattice c.args.code.now in
    let states = states_of c.args.kept.blocks.items in
    let first = g.S.Gauge.Meter.count c.args.meter.now in
    at_most c.args.every (both flow c.args.every states first) first _ (twice flow c.args.every states first _ _ _ c.in_ok-round.ensures.states c.in_ok-round.ensures.ticked c.in_ok-round-2.ensures.ticked)

pub returns-clause-ticked : goal.returns-clause-ticked
returns-clause-ticked g c =
    let flow : Flow _ = flow_of g.S.FlowState g.S.Lattice c.args.code.now in
    let states = states_of c.args.kept.blocks.items in
    let first = g.S.Gauge.Meter.count c.args.meter.now in
    twice flow c.args.every states first _ _ _ c.in_ok-round.ensures.states c.in_ok-round.ensures.ticked c.in_ok-round-2.ensures.ticked

pub returns-then-inductive-clause-fit : goal.returns-then-inductive-clause-fit
returns-then-inductive-clause-fit g c =
    let flow : Flow _ = flow_of g.S.FlowState g.S.Lattice c.args.code.now in
    subst (FitBlocks flow (g.S.FlowState.fits c.args.code.now)) (sym c.in_ok-states.ensures) c.in_ok-inductive.ensures.kept.fit

pub returns-clause-fit : goal.returns-clause-fit
returns-clause-fit g c =
    let flow : Flow _ = flow_of g.S.FlowState g.S.Lattice c.args.code.now in
    subst (FitBlocks flow (g.S.FlowState.fits c.args.code.now)) (sym c.in_ok-found.ensures) c.requires.kept.fit
