use Rattle.std.proofs.Common.{◌≡◌, ◌∙◌, length, ap, sym, subst, arith}
use Rattle.std.proofs.lemmas.List.FromFn.{length-map-range_with_len}
use Rattle.widening_engine.specs.Flows.{flow_of}
use Rattle.widening_engine.specs.Rounds.{Flow, is_head, last_round}
use Rattle.widening_engine.proofs.Seeking.{AreSought, sought_first, sought_more, sought_same, ticked_found, ticked_last, tried_found, tried_last, within, within_more}
use Rattle.widening_engine.proofs.keeping.seek.Goals as goal

pub loop-number-init : goal.loop-number-init
loop-number-init g c =
    let m = g.met.S.FlowState in
    let code = c.args.code.now in
    let flow : Flow _ = flow_of g.S.FlowState g.S.Lattice code in
    let fits = g.S.FlowState.fits code in
    let first = g.S.Gauge.Meter.count c.args.meter.now in
    sought_first flow fits c.args.every first c.args.kept.now c.requires.kept c.requires.states

pub loop-number-preserved : goal.loop-number-preserved
loop-number-preserved g c =
    let m = g.met.S.FlowState in
    let code = c.args.code.now in
    let flow : Flow _ = flow_of g.S.FlowState g.S.Lattice code in
    let fits = g.S.FlowState.fits code in
    let first = g.S.Gauge.Meter.count c.args.meter.now in
    let l = c.loop-number in
    let sought = sought_same flow fits c.args.every first l.number l.kept (g.S.Gauge.Meter.count l.meter) l.invariant c.is_inductive.new.self c.in_ok-inductive.ensures.kept c.in_ok-inductive.ensures.blocks in
    sought_more flow fits c.args.every first l.number c.is_inductive.new.self (g.S.Gauge.Meter.count l.meter) sought c.round.new.self _ (sym c.in_ok-inductive.ensures.value ∙ c.if-inductive.false)
    c.in_ok-round.ensures.kept c.in_ok-round.ensures.states c.in_ok-round.ensures.ticked

pub returns-in_err-inductive-clause-most : goal.returns-in_err-inductive-clause-most
returns-in_err-inductive-clause-most g c =
    let m = g.met.S.FlowState in
    let code = c.args.code.now in
    let flow : Flow _ = flow_of g.S.FlowState g.S.Lattice code in
    let fits = g.S.FlowState.fits code in
    let first = g.S.Gauge.Meter.count c.args.meter.now in
    let l = c.loop-number in
    let many = ap length c.requires.heads ∙ length-map-range_with_len (is_head flow) 0 flow.blocks in
    within flow fits c.args.every first l.number l.kept (g.S.Gauge.Meter.count l.meter) l.invariant (omega (arith, many))

pub returns-in_err-round-clause-most : goal.returns-in_err-round-clause-most
returns-in_err-round-clause-most g c =
    let m = g.met.S.FlowState in
    let code = c.args.code.now in
    let flow : Flow _ = flow_of g.S.FlowState g.S.Lattice code in
    let fits = g.S.FlowState.fits code in
    let first = g.S.Gauge.Meter.count c.args.meter.now in
    let l = c.loop-number in
    let many = ap length c.requires.heads ∙ length-map-range_with_len (is_head flow) 0 flow.blocks in
    let sought = sought_same flow fits c.args.every first l.number l.kept (g.S.Gauge.Meter.count l.meter) l.invariant c.is_inductive.new.self c.in_ok-inductive.ensures.kept c.in_ok-inductive.ensures.blocks in
    within_more flow fits c.args.every first l.number c.is_inductive.new.self (g.S.Gauge.Meter.count l.meter) sought _ (omega (arith, many)) (sym c.in_ok-inductive.ensures.value ∙ c.if-inductive.false) c.round.ensures.most

pub returns-then-inductive-clause-found : goal.returns-then-inductive-clause-found
returns-then-inductive-clause-found g c =
    let m = g.met.S.FlowState in
    let code = c.args.code.now in
    let flow : Flow _ = flow_of g.S.FlowState g.S.Lattice code in
    let fits = g.S.FlowState.fits code in
    let first = g.S.Gauge.Meter.count c.args.meter.now in
    let l = c.loop-number in
    let many = ap length c.requires.heads ∙ length-map-range_with_len (is_head flow) 0 flow.blocks in
    let sought = sought_same flow fits c.args.every first l.number l.kept (g.S.Gauge.Meter.count l.meter) l.invariant c.is_inductive.new.self c.in_ok-inductive.ensures.kept c.in_ok-inductive.ensures.blocks in
    tried_found flow fits c.args.every first l.number c.is_inductive.new.self (g.S.Gauge.Meter.count l.meter) sought (omega (arith, many)) (sym c.in_ok-inductive.ensures.value ∙ c.if-inductive.true)

pub returns-then-inductive-clause-ticked : goal.returns-then-inductive-clause-ticked
returns-then-inductive-clause-ticked g c =
    let m = g.met.S.FlowState in
    let code = c.args.code.now in
    let flow : Flow _ = flow_of g.S.FlowState g.S.Lattice code in
    let fits = g.S.FlowState.fits code in
    let first = g.S.Gauge.Meter.count c.args.meter.now in
    let l = c.loop-number in
    let many = ap length c.requires.heads ∙ length-map-range_with_len (is_head flow) 0 flow.blocks in
    let sought = sought_same flow fits c.args.every first l.number l.kept (g.S.Gauge.Meter.count l.meter) l.invariant c.is_inductive.new.self c.in_ok-inductive.ensures.kept c.in_ok-inductive.ensures.blocks in
    ticked_found flow fits c.args.every first l.number c.is_inductive.new.self (g.S.Gauge.Meter.count l.meter) sought (omega (arith, many)) (sym c.in_ok-inductive.ensures.value ∙ c.if-inductive.true)

pub returns-then-inductive-clause-most : goal.returns-then-inductive-clause-most
returns-then-inductive-clause-most g c =
    let m = g.met.S.FlowState in
    let code = c.args.code.now in
    let flow : Flow _ = flow_of g.S.FlowState g.S.Lattice code in
    let fits = g.S.FlowState.fits code in
    let first = g.S.Gauge.Meter.count c.args.meter.now in
    let l = c.loop-number in
    let many = ap length c.requires.heads ∙ length-map-range_with_len (is_head flow) 0 flow.blocks in
    let sought = sought_same flow fits c.args.every first l.number l.kept (g.S.Gauge.Meter.count l.meter) l.invariant c.is_inductive.new.self c.in_ok-inductive.ensures.kept c.in_ok-inductive.ensures.blocks in
    within flow fits c.args.every first l.number c.is_inductive.new.self (g.S.Gauge.Meter.count l.meter) sought (omega (arith, many))

pub returns-in_err-last-clause-most : goal.returns-in_err-last-clause-most
returns-in_err-last-clause-most g c =
    let m = g.met.S.FlowState in
    let code = c.args.code.now in
    let flow : Flow _ = flow_of g.S.FlowState g.S.Lattice code in
    let fits = g.S.FlowState.fits code in
    let first = g.S.Gauge.Meter.count c.args.meter.now in
    let l = c.loop-number in
    let many = ap length c.requires.heads ∙ length-map-range_with_len (is_head flow) 0 flow.blocks in
    let all : l.number ≡ last_round flow = omega (arith, many) in
    let sought = subst (λ n. AreSought flow fits c.args.every first n l.kept (g.S.Gauge.Meter.count l.meter)) all l.invariant in
    within flow fits c.args.every first (last_round flow) l.kept (g.S.Gauge.Meter.count l.meter) sought (omega arith)

pub returns-clause-kept : goal.returns-clause-kept
returns-clause-kept g c =
    let m = g.met.S.FlowState in
    let code = c.args.code.now in
    let flow : Flow _ = flow_of g.S.FlowState g.S.Lattice code in
    let fits = g.S.FlowState.fits code in
    let first = g.S.Gauge.Meter.count c.args.meter.now in
    let l = c.loop-number in
    let many = ap length c.requires.heads ∙ length-map-range_with_len (is_head flow) 0 flow.blocks in
    let all : l.number ≡ last_round flow = omega (arith, many) in
    let sought = subst (λ n. AreSought flow fits c.args.every first n l.kept (g.S.Gauge.Meter.count l.meter)) all l.invariant in
    let again = sought_same flow fits c.args.every first (last_round flow) l.kept (g.S.Gauge.Meter.count l.meter) sought c.is_inductive-2.new.self c.in_ok-last.ensures.kept c.in_ok-last.ensures.blocks in
    again.is_kept

pub returns-clause-found : goal.returns-clause-found
returns-clause-found g c =
    let m = g.met.S.FlowState in
    let code = c.args.code.now in
    let flow : Flow _ = flow_of g.S.FlowState g.S.Lattice code in
    let fits = g.S.FlowState.fits code in
    let first = g.S.Gauge.Meter.count c.args.meter.now in
    let l = c.loop-number in
    let many = ap length c.requires.heads ∙ length-map-range_with_len (is_head flow) 0 flow.blocks in
    let all : l.number ≡ last_round flow = omega (arith, many) in
    let sought = subst (λ n. AreSought flow fits c.args.every first n l.kept (g.S.Gauge.Meter.count l.meter)) all l.invariant in
    let again = sought_same flow fits c.args.every first (last_round flow) l.kept (g.S.Gauge.Meter.count l.meter) sought c.is_inductive-2.new.self c.in_ok-last.ensures.kept c.in_ok-last.ensures.blocks in
    tried_last flow fits c.args.every first c.is_inductive-2.new.self (g.S.Gauge.Meter.count l.meter) again c.in_ok-last.last c.in_ok-last.ensures.value

pub returns-clause-ticked : goal.returns-clause-ticked
returns-clause-ticked g c =
    let m = g.met.S.FlowState in
    let code = c.args.code.now in
    let flow : Flow _ = flow_of g.S.FlowState g.S.Lattice code in
    let fits = g.S.FlowState.fits code in
    let first = g.S.Gauge.Meter.count c.args.meter.now in
    let l = c.loop-number in
    let many = ap length c.requires.heads ∙ length-map-range_with_len (is_head flow) 0 flow.blocks in
    let all : l.number ≡ last_round flow = omega (arith, many) in
    let sought = subst (λ n. AreSought flow fits c.args.every first n l.kept (g.S.Gauge.Meter.count l.meter)) all l.invariant in
    let again = sought_same flow fits c.args.every first (last_round flow) l.kept (g.S.Gauge.Meter.count l.meter) sought c.is_inductive-2.new.self c.in_ok-last.ensures.kept c.in_ok-last.ensures.blocks in
    ticked_last flow fits c.args.every first c.is_inductive-2.new.self (g.S.Gauge.Meter.count l.meter) again c.in_ok-last.last c.in_ok-last.ensures.value

pub returns-clause-most : goal.returns-clause-most
returns-clause-most g c =
    let m = g.met.S.FlowState in
    let code = c.args.code.now in
    let flow : Flow _ = flow_of g.S.FlowState g.S.Lattice code in
    let fits = g.S.FlowState.fits code in
    let first = g.S.Gauge.Meter.count c.args.meter.now in
    let l = c.loop-number in
    let many = ap length c.requires.heads ∙ length-map-range_with_len (is_head flow) 0 flow.blocks in
    let all : l.number ≡ last_round flow = omega (arith, many) in
    let sought = subst (λ n. AreSought flow fits c.args.every first n l.kept (g.S.Gauge.Meter.count l.meter)) all l.invariant in
    let again = sought_same flow fits c.args.every first (last_round flow) l.kept (g.S.Gauge.Meter.count l.meter) sought c.is_inductive-2.new.self c.in_ok-last.ensures.kept c.in_ok-last.ensures.blocks in
    within flow fits c.args.every first (last_round flow) c.is_inductive-2.new.self (g.S.Gauge.Meter.count l.meter) again (omega arith)
