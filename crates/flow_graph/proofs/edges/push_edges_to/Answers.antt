use Rattle.std.proofs.Common.{◌++◌, get_or, ap, ◌∙◌}
use Rattle.std.proofs.lemmas.List.{get_or_default}
use Rattle.std.specs.Option.{option_to_list}
use Rattle.flow_graph.specs.EdgesOf.{edge_to}
use Rattle.flow_graph.proofs.Pushes.{edges_more}
use Rattle.flow_graph.proofs.edges.push_edges_to.Goals as goal

pub loop-number-preserved : goal.loop-number-preserved
loop-number-preserved c =
    let offsets = c.args.offsets.now in
    let k = c.loop-number.number in
    let at = get_or offsets k 0 in
    let same = get_or_default offsets k 0 at c.loop-number-test.true in
    c.in_ok-push_edge.ensures ∙ ap (λ es. es ++ option_to_list (edge_to c.args.blocks.now c.args.from k at)) c.loop-number.invariant
    ∙ edges_more c.args.blocks.now c.args.from offsets k at c.args.edges.now.items c.loop-number-test.true same
