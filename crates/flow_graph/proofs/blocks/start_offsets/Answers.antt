use Rattle.std.proofs.Common.{◌==◌, [], ◌∷◌, ◌++◌, ap, ◌∙◌}
use Rattle.std.specs.List.{list_any}
use Rattle.flow_graph.proofs.Marks.{starts_first, starts_next}
use Rattle.flow_graph.proofs.blocks.start_offsets.Goals as goal

pub loop-instr-init : goal.loop-instr-init
loop-instr-init c at =
    let start = c.args.body_start in
    ap (list_any (λ n. n == at)) (c.in_ok-push.ensures.items ∙ ap (λ ns. ns ++ start ∷ []) c.new-offsets.ensures.items) ∙ starts_first start at

pub loop-instr-preserved : goal.loop-instr-preserved
loop-instr-preserved c =
    starts_next c.args.body_start c.args.body.now _ c.instr-item.result _ _ c.loop-instr.invariant c.loop-instr-test.true c.instr-item.is c.in_ok-push_starts.ensures
