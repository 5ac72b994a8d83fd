use Rattle.std.proofs.Common.{◌≡◌, ◌<◌, ◌∙◌, ℕ, Bool, IfSome, ap, arith, cond, get_or, set, sym, subst}
use Rattle.widening_engine.specs.Flows.{flow_of}
use Rattle.widening_engine.specs.Kept.{states_of}
use Rattle.widening_engine.specs.Rounds.{Flow, behind, state_at}
use Rattle.widening_engine.proofs.Refreshing.{walked_next, walked_there}
use Rattle.widening_engine.proofs.kept.Kept.refresh_edge.Goals as goal

pub bounds-edges-place : goal.bounds-edges-place
bounds-edges-place g c =
    let flow : Flow _ = flow_of g.S.FlowState g.S.Lattice c.args.code.now in
    omega (arith, c.requires.edges.count)

pub before_last-requires-clause-block : goal.before_last-requires-clause-block
before_last-requires-clause-block g c =
    let m = g.met.S.FlowState in
    let code = c.args.code.now in
    subst (λ (n : ℕ). n < g.S.FlowState.block_count code) (sym (c.requires.edges.from c.args.place c.requires.place))
    (m.source_below code c.args.place c.requires.lawful c.requires.place)

pub before_last-requires-clause-walked : goal.before_last-requires-clause-walked
before_last-requires-clause-walked g c =
    let code = c.args.code.now in
    let flow : Flow _ = flow_of g.S.FlowState g.S.Lattice code in
    subst (λ (n : ℕ). IfSome c.args.walked (λ before. before ≡ g.S.FlowState.through (state_at flow (states_of c.args.self.now.blocks.items) n) code n))
    (sym (c.requires.edges.from c.args.place c.requires.place)) c.requires.walked

pub leave-requires-clause-came : goal.leave-requires-clause-came
leave-requires-clause-came g c =
    let m = g.met.S.FlowState in
    let code = c.args.code.now in
    let flow : Flow _ = flow_of g.S.FlowState g.S.Lattice code in
    let source = flow.source c.args.place in
    let states = states_of c.args.self.now.blocks.items in (
      state_at flow states source,
      c.requires.fit.fit source (m.source_below code c.args.place c.requires.lawful c.requires.place),
      walked_there flow (λ a block. g.S.FlowState.through a code block) states c.args.edges.now c.requires.edges c.args.place c.requires.place _ c.in_ok-before.ensures,
    )

pub returns-clause-behind : goal.returns-clause-behind
returns-clause-behind g c =
    let m = g.met.S.FlowState in
    let code = c.args.code.now in
    let flow : Flow _ = flow_of g.S.FlowState g.S.Lattice code in
    let states = states_of c.args.self.now.blocks.items in
    let there = walked_there flow (λ a block. g.S.FlowState.through a code block) states c.args.edges.now c.requires.edges c.args.place c.requires.place _ c.in_ok-before.ensures in
    let same = c.in_ok-behind.ensures.value ∙ ap (λ before. g.S.FlowState.leaving before code c.args.place) there
    ∙ sym (m.along_is code c.args.place (state_at flow states (flow.source c.args.place)) c.requires.lawful c.requires.place)
    ∙ ap (λ (t : Bool). cond t (behind flow states c.args.place) (get_or c.args.self.now.behind.items c.args.place flow.nothing)) (sym c.if-not-changed.false) in
    c.take_behind.ensures.behind ∙ ap (λ state. set c.args.self.now.behind.items c.args.place state) same

pub returns-clause-walked : goal.returns-clause-walked
returns-clause-walked g c =
    let code = c.args.code.now in
    let flow : Flow _ = flow_of g.S.FlowState g.S.Lattice code in
    walked_next flow (λ a block. g.S.FlowState.through a code block) (states_of c.args.self.now.blocks.items) c.args.edges.now c.requires.edges c.args.place c.requires.place _
    c.in_ok-before.ensures c.in_ok-next.next c.in_ok-next.ensures
