use Rattle.std.proofs.Common.{◌≡◌, length, ap, ◌∙◌, arith}
use Rattle.std.proofs.lemmas.List.FromFn.{length-map-range_with_len}
use Rattle.widening_engine.specs.Flows.{no_edge}
use Rattle.widening_engine.proofs.Marks.{marks_more}
use Rattle.widening_engine.proofs.heads.heads.Goals as goal

pub mark-requires : goal.mark-requires
mark-requires c =
    let marks : length c.loop-edge.heads.items ≡ c.args.count = ap length c.loop-edge.invariant ∙ length-map-range_with_len _ 0 c.args.count in
    omega (arith, marks, c.requires c.loop-edge.edge-index no_edge c.loop-edge-test.true)

pub loop-edge-preserved : goal.loop-edge-preserved
loop-edge-preserved c =
    let e = marks_more c.args.edges.now c.args.count c.loop-edge.edge-index c.loop-edge-test.true (c.requires c.loop-edge.edge-index no_edge c.loop-edge-test.true) in
    rw c.loop-edge.invariant at c.mark.ensures ∙ e
