use Rattle.std.proofs.Common.{◌∙◌, ap, length}
use Rattle.widening_engine.specs.Flows.{flow_of}
use Rattle.widening_engine.specs.Rounds.{Flow}
use Rattle.widening_engine.proofs.Marks.{heads_in_flow}
use Rattle.widening_engine.proofs.Rounds.{limit_from}
use Rattle.widening_engine.proofs.Seeking.{begun_most, sought_within, whole, whole_most}
use Rattle.widening_engine.proofs.keeping.numbered_limit.Goals as goal

pub returns-in_err-kept-clause-work : goal.returns-in_err-kept-clause-work
returns-in_err-kept-clause-work g c =
    let flow : Flow _ = flow_of g.S.FlowState g.S.Lattice c.args.code.now in
    let first = g.S.Gauge.Meter.count c.args.meter.now in
    begun_most flow c.args.every first _ c.begin.ensures.most

pub returns-in_err-seek_or_forget-clause-work : goal.returns-in_err-seek_or_forget-clause-work
returns-in_err-seek_or_forget-clause-work g c =
    let flow : Flow _ = flow_of g.S.FlowState g.S.Lattice c.args.code.now in
    let first = g.S.Gauge.Meter.count c.args.meter.now in
    sought_within flow c.args.every first _ _ c.in_ok-kept.ensures.ticked c.seek_or_forget.ensures.most

pub returns-in_err-states-clause-work : goal.returns-in_err-states-clause-work
returns-in_err-states-clause-work g c =
    let flow : Flow _ = flow_of g.S.FlowState g.S.Lattice c.args.code.now in
    let first = g.S.Gauge.Meter.count c.args.meter.now in
    whole_most flow c.args.every first _ _ _ _ c.in_ok-kept.ensures.ticked c.in_ok-seek_or_forget.ensures.states c.in_ok-seek_or_forget.ensures.ticked c.settle.ensures.most

pub returns-clause-value : goal.returns-clause-value
returns-clause-value g c =
    let flow : Flow _ = flow_of g.S.FlowState g.S.Lattice c.args.code.now in
    let first = g.S.Gauge.Meter.count c.args.meter.now in
    c.in_ok-states.ensures.value ∙ limit_from flow _ c.in_ok-seek_or_forget.ensures.states

pub returns-clause-work : goal.returns-clause-work
returns-clause-work g c =
    let flow : Flow _ = flow_of g.S.FlowState g.S.Lattice c.args.code.now in
    let first = g.S.Gauge.Meter.count c.args.meter.now in
    whole_most flow c.args.every first _ _ _ _ c.in_ok-kept.ensures.ticked c.in_ok-seek_or_forget.ensures.states c.in_ok-seek_or_forget.ensures.ticked c.settle.ensures.most

pub returns-clause-ticked : goal.returns-clause-ticked
returns-clause-ticked g c =
    let flow : Flow _ = flow_of g.S.FlowState g.S.Lattice c.args.code.now in
    let first = g.S.Gauge.Meter.count c.args.meter.now in
    whole flow c.args.every first _ _ _ _ c.in_ok-kept.ensures.ticked c.in_ok-seek_or_forget.ensures.states c.in_ok-seek_or_forget.ensures.ticked c.in_ok-states.ensures.ticked

pub begin-requires-clause-count : goal.begin-requires-clause-count
begin-requires-clause-count g c =
    let flow : Flow _ = flow_of g.S.FlowState g.S.Lattice c.args.code.now in
    let first = g.S.Gauge.Meter.count c.args.meter.now in
    ap length c.as_slice-count.ensures ∙ c.requires.graph.blocks

pub seek_or_forget-requires-clause-heads : goal.seek_or_forget-requires-clause-heads
seek_or_forget-requires-clause-heads g c =
    let flow : Flow _ = flow_of g.S.FlowState g.S.Lattice c.args.code.now in
    let first = g.S.Gauge.Meter.count c.args.meter.now in
    let marks = c.as_slice-marks.ensures.value ∙ heads_in_flow flow c.args.graph.now.edges _ _ c.in_ok-heads.heads.items c.requires.graph.edges c.as_slice-edges.ensures
    (ap length c.as_slice-count.ensures ∙ c.requires.graph.blocks) c.in_ok-heads.ensures in
    marks

pub settle-requires-clause-heads : goal.settle-requires-clause-heads
settle-requires-clause-heads g c =
    let flow : Flow _ = flow_of g.S.FlowState g.S.Lattice c.args.code.now in
    let first = g.S.Gauge.Meter.count c.args.meter.now in
    let marks = c.as_slice-marks.ensures.value ∙ heads_in_flow flow c.args.graph.now.edges _ _ c.in_ok-heads.heads.items c.requires.graph.edges c.as_slice-edges.ensures
    (ap length c.as_slice-count.ensures ∙ c.requires.graph.blocks) c.in_ok-heads.ensures in
    marks
