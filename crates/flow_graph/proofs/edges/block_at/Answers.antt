use Rattle.flow_graph.proofs.Searches.{block_place_fits}
use Rattle.flow_graph.proofs.edges.block_at.Goals as goal

pub overflow_cast-result : goal.overflow_cast-result
overflow_cast-result c =
    block_place_fits c.args.blocks.now c.args.at c.starts_up_to-starts.result c.starts_up_to-starts.ensures c.requires c.type_inv.blocks c.if-starts-eq0.false
