use Rattle.std.proofs.Common.{Bool, subst}
use Rattle.std.proofs.lemmas.Result.{on_ok_weaker}
use Rattle.widening_engine.specs.Flows.{flow_of}
use Rattle.widening_engine.specs.Kept.{states_of}
use Rattle.widening_engine.specs.Rounds.{Flow}
use Rattle.widening_engine.specs.Work.{IsTried}
use Rattle.widening_engine.proofs.Seeking.{found_states, found_ticked, tried_most, unknown_first, unknown_most, unknown_ticked}
use Rattle.widening_engine.proofs.keeping.seek_or_forget.Goals as goal

pub returns-in_err-found-clause-most : goal.returns-in_err-found-clause-most
returns-in_err-found-clause-most g c =
    let m = g.met.S.FlowState in
    let code = c.args.code.now in
    let flow : Flow _ = flow_of g.S.FlowState g.S.Lattice code in
    let fits = g.S.FlowState.fits code in
    let first = g.S.Gauge.Meter.count c.args.meter.now in
    tried_most flow c.args.every first _ c.seek.ensures.most

pub returns-then-found-clause-states : goal.returns-then-found-clause-states
returns-then-found-clause-states g c =
    let m = g.met.S.FlowState in
    let code = c.args.code.now in
    let flow : Flow _ = flow_of g.S.FlowState g.S.Lattice code in
    let fits = g.S.FlowState.fits code in
    let first = g.S.Gauge.Meter.count c.args.meter.now in
    let tried = subst (λ (t : Bool). IsTried flow t (states_of c.seek.new.kept.blocks.items)) c.if-found.true c.in_ok-found.ensures.found in
    found_states flow c.args.every first _ tried

pub returns-then-found-clause-ticked : goal.returns-then-found-clause-ticked
returns-then-found-clause-ticked g c =
    let m = g.met.S.FlowState in
    let code = c.args.code.now in
    let flow : Flow _ = flow_of g.S.FlowState g.S.Lattice code in
    let fits = g.S.FlowState.fits code in
    let first = g.S.Gauge.Meter.count c.args.meter.now in
    let tried = subst (λ (t : Bool). IsTried flow t (states_of c.seek.new.kept.blocks.items)) c.if-found.true c.in_ok-found.ensures.found in
    found_ticked flow c.args.every first _ _ tried c.in_ok-found.ensures.ticked

pub returns-then-found-clause-most : goal.returns-then-found-clause-most
returns-then-found-clause-most g c =
    let m = g.met.S.FlowState in
    let code = c.args.code.now in
    let flow : Flow _ = flow_of g.S.FlowState g.S.Lattice code in
    let fits = g.S.FlowState.fits code in
    let first = g.S.Gauge.Meter.count c.args.meter.now in
    tried_most flow c.args.every first _ c.seek.ensures.most

pub returns-clause-states : goal.returns-clause-states
returns-clause-states g c =
    let m = g.met.S.FlowState in
    let code = c.args.code.now in
    let flow : Flow _ = flow_of g.S.FlowState g.S.Lattice code in
    let fits = g.S.FlowState.fits code in
    let first = g.S.Gauge.Meter.count c.args.meter.now in
    let tried = subst (λ (t : Bool). IsTried flow t (states_of c.seek.new.kept.blocks.items)) c.if-found.false c.in_ok-found.ensures.found in
    on_ok_weaker c.forget.result (λ are. unknown_first flow c.args.every first _ _ tried are) c.forget.ensures.states

pub returns-clause-ticked : goal.returns-clause-ticked
returns-clause-ticked g c =
    let m = g.met.S.FlowState in
    let code = c.args.code.now in
    let flow : Flow _ = flow_of g.S.FlowState g.S.Lattice code in
    let fits = g.S.FlowState.fits code in
    let first = g.S.Gauge.Meter.count c.args.meter.now in
    let tried = subst (λ (t : Bool). IsTried flow t (states_of c.seek.new.kept.blocks.items)) c.if-found.false c.in_ok-found.ensures.found in
    on_ok_weaker c.forget.result (λ ticked. unknown_ticked flow c.args.every first _ _ _ tried c.in_ok-found.ensures.ticked ticked) c.forget.ensures.ticked

pub returns-clause-most : goal.returns-clause-most
returns-clause-most g c =
    let m = g.met.S.FlowState in
    let code = c.args.code.now in
    let flow : Flow _ = flow_of g.S.FlowState g.S.Lattice code in
    let fits = g.S.FlowState.fits code in
    let first = g.S.Gauge.Meter.count c.args.meter.now in
    let tried = subst (λ (t : Bool). IsTried flow t (states_of c.seek.new.kept.blocks.items)) c.if-found.false c.in_ok-found.ensures.found in
    unknown_most flow c.args.every first _ _ _ tried c.in_ok-found.ensures.ticked c.forget.ensures.most
