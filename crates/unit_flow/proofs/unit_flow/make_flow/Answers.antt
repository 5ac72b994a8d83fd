use Rattle.std.proofs.Common.{ap, ◌∙◌}
use Rattle.flow_graph.specs.GraphOf.{graph_of}
use Rattle.unit_flow.proofs.KindsFound.{found_kinds, made_flow}
use Rattle.unit_flow.proofs.unit_flow.make_flow.Goals as goal

pub returns-clause-value : goal.returns-clause-value
returns-clause-value c =
    let same = c.into_parts-unit.ensures.unit in
    made_flow _ c.args.unit _ _ same (c.in_ok-graph.ensures.exact ∙ ap graph_of same)
    (found_kinds c.args.unit _ c.into_parts-unit.ensures.kinds)
