use Rattle.state_obligations.specs.Conditions.{conditions_of}
use Rattle.state_obligations.specs.declared.condition.Operation.TheVariants as operations
use Rattle.clause_trees.proofs.Operands.{element_there, judged_reference}
use Rattle.clause_trees.proofs.nodes.element_of.Goals as goal

pub push_item-requires : goal.push_item-requires
push_item-requires c = record {
  there = judged_reference (conditions_of (operations.Element c.args.r c.args.i)) c.args.state.now c.judge.new.state
      c.args.r c.reached.ensures.form
      (element_there c.args.state.now c.args.r c.args.i c.requires.reference c.requires.index)
      c.requires.reference c.in_ok-entailed.ensures.state;
}

pub judge-requires : goal.judge-requires
judge-requires c = record {
  there = element_there c.args.state.now c.args.r c.args.i c.requires.reference c.requires.index;
}
