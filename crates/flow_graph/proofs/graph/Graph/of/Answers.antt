use Rattle.flow_graph.proofs.AlongEdges.{steps_follow}
use Rattle.flow_graph.proofs.GraphFacts.{blocks_counted, edges_in_order, edges_join, first_block, heads_increase, heads_within, of_answer}
use Rattle.flow_graph.proofs.Lying.{blocks_increase}
use Rattle.cil_model.proofs.ShortCodes.{code_is_short}
use Rattle.flow_graph.proofs.graph.Graph.of.Goals as goal

pub make_graph-requires : goal.make_graph-requires
make_graph-requires c = code_is_short _ c.args.unit.now.code c.requires.code c.requires.is_short

pub returns-clause-count : goal.returns-clause-count
returns-clause-count c = of_answer _ c.args.unit.now _ c.make_graph.ensures (blocks_counted c.args.unit.now)

pub returns-clause-blocks_rise : goal.returns-clause-blocks_rise
returns-clause-blocks_rise c =
    of_answer _ c.args.unit.now _ c.make_graph.ensures (blocks_increase c.args.unit.now (code_is_short _ c.args.unit.now.code c.requires.code c.requires.is_short))

pub returns-clause-first : goal.returns-clause-first
returns-clause-first c =
    of_answer _ c.args.unit.now _ c.make_graph.ensures (first_block c.args.unit.now (code_is_short _ c.args.unit.now.code c.requires.code c.requires.is_short))

pub returns-clause-edges_join_blocks : goal.returns-clause-edges_join_blocks
returns-clause-edges_join_blocks c = of_answer _ c.args.unit.now _ c.make_graph.ensures (edges_join c.args.unit.now)

pub returns-clause-edges_in_order : goal.returns-clause-edges_in_order
returns-clause-edges_in_order c =
    of_answer _ c.args.unit.now _ c.make_graph.ensures (edges_in_order c.args.unit.now (code_is_short _ c.args.unit.now.code c.requires.code c.requires.is_short))

pub returns-clause-heads_are_blocks : goal.returns-clause-heads_are_blocks
returns-clause-heads_are_blocks c = of_answer _ c.args.unit.now _ c.make_graph.ensures (heads_within c.args.unit.now)

pub returns-clause-heads_rise : goal.returns-clause-heads_rise
returns-clause-heads_rise c = of_answer _ c.args.unit.now _ c.make_graph.ensures (heads_increase c.args.unit.now)

pub returns-clause-steps : goal.returns-clause-steps
returns-clause-steps c =
    of_answer _ c.args.unit.now _ c.make_graph.ensures (steps_follow c.args.unit.now (code_is_short _ c.args.unit.now.code c.requires.code c.requires.is_short))
