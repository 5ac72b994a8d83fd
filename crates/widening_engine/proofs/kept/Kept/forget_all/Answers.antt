use Rattle.std.proofs.Common.{◌≡◌, ◌<◌, ◌∙◌, length, refl, subst, arith}
use Rattle.std.proofs.lemmas.List.{get_or_read}
use Rattle.widening_engine.specs.Flows.{flow_of}
use Rattle.widening_engine.specs.Kept.{no_block}
use Rattle.widening_engine.specs.Rounds.{Flow}
use Rattle.widening_engine.proofs.Forgetting.{AreForgetting, forgetting_all, forgetting_more}
use Rattle.widening_engine.proofs.kept.Kept.forget_all.Goals as goal

pub loop-block-preserved : goal.loop-block-preserved
loop-block-preserved g c =
    let m = g.met.S.FlowState in
    let code = c.args.code.now in
    let flow : Flow _ = flow_of g.S.FlowState g.S.Lattice code in
    let kept = c.requires.kept in
    let so_far = c.loop-block.invariant in
    let mid = c.loop-block.self in
    let n = c.loop-block.block in
    let h : n < flow.blocks = omega (arith, kept.blocks) in
    let b = get_or_read mid.blocks.items n _ (omega (arith, so_far.blocks, kept.blocks, h)) c.index_mut.ensures.value (no_block flow.nothing) in
    let taken = c.take_state-other.ensures in
    forgetting_more flow c.args.self.now n mid _ c.loop-block.changed.items _ _ c.take_state-other.new.self c.take_state-other.result so_far (omega (arith, kept.blocks, h)) b
    (record { state = taken.state ∙ c.in_ok-state.ensures; join = taken.join; settled = taken.settled; told = taken.changed }) refl refl refl refl refl refl c.in_ok-push.ensures.items

pub returns : goal.returns
returns g c =
    let flow : Flow _ = flow_of g.S.FlowState g.S.Lattice c.args.code.now in
    let all : c.loop-block.block ≡ length c.args.self.now.blocks.items = omega arith in
    forgetting_all flow c.args.self.now c.loop-block.self c.loop-block.changed.items
    (subst (λ n. AreForgetting flow c.args.self.now n c.loop-block.self c.loop-block.changed.items) all c.loop-block.invariant)
