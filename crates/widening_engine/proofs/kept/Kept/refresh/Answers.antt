use Rattle.std.proofs.Common.{◌≡◌, ◌<◌, ◌≤◌, ◌+◌, ◌∙◌, ℕ, Bool, ◌||◌, List, ap, sym, subst, arith, cond, get_or, false, count_by}
use Rattle.widening_engine.specs.Flows.{flow_of}
use Rattle.widening_engine.specs.Kept.{IsWalked, is_computed, states_of}
use Rattle.widening_engine.specs.Rounds.{Flow, places}
use Rattle.widening_engine.specs.Work.{after_ticks}
use Rattle.widening_engine.specs.declared.kept_block.KeptBlock.{KeptBlock}
use Rattle.widening_engine.proofs.Counting.{count_more, count_up_to, same_tick, ticks_add, ticks_most}
use Rattle.widening_engine.proofs.Refreshing.{AreRefreshing, refreshing_all, refreshing_more}
use Rattle.widening_engine.proofs.kept.Kept.refresh.Goals as goal

pub returns-in_err-walked-clause-most : goal.returns-in_err-walked-clause-most
returns-in_err-walked-clause-most g c =
    let m = g.met.S.FlowState in
    let code = c.args.code.now in
    let flow : Flow _ = flow_of g.S.FlowState g.S.Lattice code in
    let n = c.loop-place.place in
    let inside : n < flow.edges = omega (arith, c.requires.edges.count) in
    let anew : ℕ → Bool = is_computed flow c.args.every c.args.changed.now in
    let again = c.is_computed-again.ensures ∙ ap (λ b. c.args.every || get_or c.args.changed.now b false) (c.requires.edges.from n inside) in
    let here = same_tick _ (anew n) again in
    let so_far = c.loop-place.invariant.ticked in
    let most = c.refresh_edge.ensures.most in
    omega (arith, here, so_far, most, ticks_most (count_by anew (places n)) (g.S.Gauge.Meter.count c.args.meter.now), count_more anew n, count_up_to anew (n + 1) flow.edges (omega (arith, inside)))

pub loop-place-preserved : goal.loop-place-preserved
loop-place-preserved g c =
    let m = g.met.S.FlowState in
    let code = c.args.code.now in
    let flow : Flow _ = flow_of g.S.FlowState g.S.Lattice code in
    let n = c.loop-place.place in
    let inside : n < flow.edges = omega (arith, c.requires.edges.count) in
    let anew : ℕ → Bool = is_computed flow c.args.every c.args.changed.now in
    let again = c.is_computed-again.ensures ∙ ap (λ b. c.args.every || get_or c.args.changed.now b false) (c.requires.edges.from n inside) in
    let here = same_tick _ (anew n) again in
    let e = c.in_ok-walked.ensures in
    record {
      refreshing = refreshing_more flow c.args.every c.args.changed.now c.args.self.now n _ _ c.loop-place.self _ again
          (ap (λ b. get_or c.args.changed.now b false) (c.requires.edges.to n inside)) (omega (arith, inside, c.requires.behind))
          c.loop-place.invariant.refreshing e.entry e.blocks e.behind e.begun e.carried e.stale;
      walked = subst (λ (blocks : List (KeptBlock _)). IsWalked flow (λ a block. g.S.FlowState.through a code block) (states_of blocks) (n + 1) c.in_ok-walked.walked) (sym e.blocks) e.walked;
      ticked = e.ticked ∙ (λ i. after_ticks (here i) (c.loop-place.invariant.ticked i))
          ∙ sym (ticks_add (count_by anew (places n)) (cond (anew n) 1 0) (g.S.Gauge.Meter.count c.args.meter.now))
          ∙ ap (λ k. after_ticks k (g.S.Gauge.Meter.count c.args.meter.now)) (sym (count_more anew n));
    }

pub returns-clause-refreshed : goal.returns-clause-refreshed
returns-clause-refreshed g c =
    let m = g.met.S.FlowState in
    let code = c.args.code.now in
    let flow : Flow _ = flow_of g.S.FlowState g.S.Lattice code in
    let all : c.loop-place.place ≡ flow.edges = omega (arith, c.requires.edges.count) in
    refreshing_all flow c.args.every c.args.changed.now c.args.self.now c.loop-place.self c.requires.behind
    (subst (λ n. AreRefreshing flow c.args.every c.args.changed.now c.args.self.now n c.loop-place.self) all c.loop-place.invariant.refreshing)

pub returns-clause-ticked : goal.returns-clause-ticked
returns-clause-ticked g c =
    let m = g.met.S.FlowState in
    let code = c.args.code.now in
    let flow : Flow _ = flow_of g.S.FlowState g.S.Lattice code in
    let anew : ℕ → Bool = is_computed flow c.args.every c.args.changed.now in
    let all : c.loop-place.place ≡ flow.edges = omega (arith, c.requires.edges.count) in
    c.loop-place.invariant.ticked ∙ ap (λ n. after_ticks (count_by anew (places n)) (g.S.Gauge.Meter.count c.args.meter.now)) all

pub returns-clause-most : goal.returns-clause-most
returns-clause-most g c =
    let m = g.met.S.FlowState in
    let code = c.args.code.now in
    let flow : Flow _ = flow_of g.S.FlowState g.S.Lattice code in
    let anew : ℕ → Bool = is_computed flow c.args.every c.args.changed.now in
    let all : c.loop-place.place ≡ flow.edges = omega (arith, c.requires.edges.count) in
    let so_far = c.loop-place.invariant.ticked in
    subst (λ n. g.S.Gauge.Meter.count c.loop-place.meter ≤ g.S.Gauge.Meter.count c.args.meter.now + count_by anew (places n)) all
    (omega (arith, so_far, ticks_most (count_by anew (places c.loop-place.place)) (g.S.Gauge.Meter.count c.args.meter.now)))
