use Rattle.std.proofs.Common.{◌≡◌, ◌<◌, ◌∙◌, ◌&&◌, None, false, length, get_or, set, refl, ap, sym, subst, arith}
use Rattle.std.proofs.lemmas.List.{get_or_read}
use Rattle.std.proofs.lemmas.List.FromFn.{length-map-range_with_len}
use Rattle.widening_engine.specs.Flows.{flow_of}
use Rattle.widening_engine.specs.Kept.{fresh_join, no_block}
use Rattle.widening_engine.specs.Rounds.{Flow}
use Rattle.widening_engine.proofs.EdgeSteps.{keeps}
use Rattle.widening_engine.proofs.KeptStates.{mark_read, step_like, step_settled}
use Rattle.widening_engine.proofs.Stepping.{AreStepping, stepped_same, stepping_all, stepping_more}
use Rattle.widening_engine.proofs.kept.Kept.step_all.Goals as goal

pub index_mut-requires : goal.index_mut-requires
index_mut-requires g c =
    let many = ap length c.requires.joins ∙ length-map-range_with_len _ 0 (g.S.FlowState.block_count c.args.code.now) in
    omega (arith, many, c.loop-block.invariant.taken, c.requires.kept.blocks)

pub step-requires-clause-like : goal.step-requires-clause-like
step-requires-clause-like g c =
    let m = g.met.S.FlowState in
    let code = c.args.code.now in
    let flow : Flow _ = flow_of g.S.FlowState g.S.Lattice code in
    let law = keeps g.S.FlowState g.S.Lattice code c.requires.lawful m.source_below m.target_below m.along_fits m.join_fits m.widen_fits m.entry_fits m.nothing_fits m.unknown_fits in
    let kept = c.requires.kept in
    let old = c.args.self.now in
    let so_far = c.loop-block.invariant in
    let mid = c.loop-block.self in
    let n = c.loop-block.block in
    let h : n < flow.blocks = omega (arith, kept.blocks) in
    let many = ap length c.requires.joins ∙ length-map-range_with_len _ 0 flow.blocks in
    let b = get_or_read mid.blocks.items n _ (omega (arith, so_far.blocks, kept.blocks, h)) c.index_mut-in-loop-block-2.ensures.value (no_block flow.nothing) ∙ so_far.rest n (omega arith) in
    let mark = mark_read mid.stale.items n n _ refl (omega (arith, so_far.count, kept.count, h)) c.index-stale.ensures ∙ so_far.rest_stale n (omega arith) in
    let join : c.take-join.result ≡ get_or c.args.joins.items n None =
    get_or_read c.loop-block.joins.items n _ (omega (arith, so_far.taken, many, h)) (c.take-join.ensures.value ∙ c.index_mut.ensures.value ∙ ap (λ o. get_or c.loop-block.joins.items n o) (sym c.take-join.ensures.value)) None ∙ so_far.rest_joins n (omega arith) in
    let fresh = c.fresh_join-fresh.ensures ∙ (λ i. fresh_join flow.nothing (mark i) (join i)) in
    step_like flow (g.S.FlowState.fits code) law old c.args.joins.items kept c.requires.joins n h _ _ b fresh g.S.Lattice.like (λ x y first second. m.fitting_like code n x y c.requires.lawful first second)

pub step-requires-clause-settled : goal.step-requires-clause-settled
step-requires-clause-settled g c =
    let m = g.met.S.FlowState in
    let code = c.args.code.now in
    let flow : Flow _ = flow_of g.S.FlowState g.S.Lattice code in
    let law = keeps g.S.FlowState g.S.Lattice code c.requires.lawful m.source_below m.target_below m.along_fits m.join_fits m.widen_fits m.entry_fits m.nothing_fits m.unknown_fits in
    let kept = c.requires.kept in
    let so_far = c.loop-block.invariant in
    let mid = c.loop-block.self in
    let n = c.loop-block.block in
    let h : n < flow.blocks = omega (arith, kept.blocks) in
    let b = get_or_read mid.blocks.items n _ (omega (arith, so_far.blocks, kept.blocks, h)) c.index_mut-in-loop-block-2.ensures.value (no_block flow.nothing) ∙ so_far.rest n (omega arith) in
    step_settled flow (g.S.FlowState.fits code) law c.args.self.now c.args.joins.items kept c.requires.joins n h _ _ b refl

pub loop-block-preserved : goal.loop-block-preserved
loop-block-preserved g c =
    let m = g.met.S.FlowState in
    let code = c.args.code.now in
    let flow : Flow _ = flow_of g.S.FlowState g.S.Lattice code in
    let kept = c.requires.kept in
    let old = c.args.self.now in
    let so_far = c.loop-block.invariant in
    let mid = c.loop-block.self in
    let n = c.loop-block.block in
    let h : n < flow.blocks = omega (arith, kept.blocks) in
    let many = ap length c.requires.joins ∙ length-map-range_with_len _ 0 flow.blocks in
    let b = get_or_read mid.blocks.items n _ (omega (arith, so_far.blocks, kept.blocks, h)) c.index_mut-in-loop-block-2.ensures.value (no_block flow.nothing) in
    let mark = mark_read mid.stale.items n n _ refl (omega (arith, so_far.count, kept.count, h)) c.index-stale.ensures in
    let join : c.take-join.result ≡ get_or c.loop-block.joins.items n None =
    get_or_read c.loop-block.joins.items n _ (omega (arith, so_far.taken, many, h)) (c.take-join.ensures.value ∙ c.index_mut.ensures.value ∙ ap (λ o. get_or c.loop-block.joins.items n o) (sym c.take-join.ensures.value)) None in
    let fresh = c.fresh_join-fresh.ensures ∙ (λ i. fresh_join flow.nothing (mark i) (join i)) in
    stepping_more flow c.args.late c.args.heads.now c.args.joins.items old n mid _ c.loop-block.joins.items _ c.loop-block.changed.items _ c.step.new.self c.in_ok-other.other so_far (omega (arith, kept.blocks, h))
    (stepped_same flow.widen _ (c.args.late && get_or c.args.heads.now n false) _ _ _ _ c.step.new.self c.in_ok-other.other c.widens_at-widens.ensures fresh b c.in_ok-other.ensures)
    refl refl refl refl refl refl (ap (λ o. set c.loop-block.joins.items n o) c.take-join.ensures.after) c.in_ok-push.ensures.items

pub returns : goal.returns
returns g c =
    let flow : Flow _ = flow_of g.S.FlowState g.S.Lattice c.args.code.now in
    let all : c.loop-block.block ≡ length c.args.self.now.blocks.items = omega arith in
    stepping_all flow c.args.late c.args.heads.now c.args.joins.items c.args.self.now c.loop-block.self c.loop-block.joins.items c.loop-block.changed.items
    (subst (λ n. AreStepping flow c.args.late c.args.heads.now c.args.joins.items c.args.self.now n c.loop-block.self c.loop-block.joins.items c.loop-block.changed.items) all c.loop-block.invariant)
