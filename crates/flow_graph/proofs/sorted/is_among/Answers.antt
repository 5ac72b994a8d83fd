use Rattle.std.proofs.Common.{◌∙◌}
use Rattle.flow_graph.proofs.Searches.{found_among}
use Rattle.flow_graph.proofs.sorted.is_among.Goals as goal

pub returns : goal.returns
returns c = c.is_ok.ensures.value ∙ found_among c.args.sorted.now c.args.number _ c.binary_search.ensures.position c.requires
