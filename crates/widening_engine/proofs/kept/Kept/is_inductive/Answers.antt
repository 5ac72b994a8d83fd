use Rattle.std.proofs.Common.{◌≡◌, ◌<◌, ◌∙◌, ap, sym, arith}
use Rattle.widening_engine.specs.Flows.{flow_of}
use Rattle.widening_engine.specs.Kept.{states_of}
use Rattle.widening_engine.specs.Rounds.{Flow, is_inductive}
use Rattle.widening_engine.proofs.KeptStates.{all_carried, not_begun, not_carried}
use Rattle.widening_engine.proofs.kept.Kept.is_inductive.Goals as goal

pub returns-then-not-branch-clause-value : goal.returns-then-not-branch-clause-value
returns-then-not-branch-clause-value g c =
    let flow : Flow _ = flow_of g.S.FlowState g.S.Lattice c.args.code.now in
    not_begun flow (states_of c.args.self.now.blocks.items) (sym c.in_ok-is_begun.ensures.value ∙ c.if-not-branch.true)
    ∙ ap (λ items. is_inductive flow (states_of items)) (sym c.in_ok-is_begun.ensures.blocks)

pub returns-then-not-branch-2-clause-value : goal.returns-then-not-branch-2-clause-value
returns-then-not-branch-2-clause-value g c =
    let flow : Flow _ = flow_of g.S.FlowState g.S.Lattice c.args.code.now in
    let n = c.loop-place.place in
    let inside : n < flow.edges = omega (arith, c.requires.edges.count) in
    not_carried flow (states_of c.loop-place.self.blocks.items) n inside (sym c.in_ok-is_carried.ensures.value ∙ c.if-not-branch-2.true)
    ∙ ap (λ items. is_inductive flow (states_of items)) (sym c.in_ok-is_carried.ensures.blocks)

pub returns-clause-value : goal.returns-clause-value
returns-clause-value g c =
    let flow : Flow _ = flow_of g.S.FlowState g.S.Lattice c.args.code.now in
    let all : c.loop-place.place ≡ flow.edges = omega (arith, c.requires.edges.count) in
    all_carried flow (states_of c.args.self.now.blocks.items) c.loop-place.invariant.begun (λ edge h. c.loop-place.invariant.carried edge (omega (arith, all)))
    ∙ ap (λ items. is_inductive flow (states_of items)) (sym c.loop-place.invariant.blocks)
