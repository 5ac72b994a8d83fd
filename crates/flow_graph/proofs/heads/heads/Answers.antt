use Rattle.std.proofs.Common.{◌∙◌}
use Rattle.std.proofs.lemmas.Result.{IfOk-weaker}
use Rattle.flow_graph.proofs.Marks.{heads_by_numbers}
use Rattle.flow_graph.proofs.heads.heads.Goals as goal

pub returns : goal.returns
returns c =
    IfOk-weaker c.places_among.result _ _
    (λ places are. are ∙ heads_by_numbers c.args.count c.args.edges.now _ _ _ c.in_ok-targets_back.ensures c.sorted-targets.ensures.same
    c.as_slice.ensures.value)
    c.places_among.ensures
