use Rattle.state_obligations.specs.Conditions.{conditions_of}
use Rattle.state_obligations.specs.declared.condition.Operation.TheVariants as operations
use Rattle.clause_trees.proofs.Operands.{judged_reference, length_there}
use Rattle.clause_trees.proofs.nodes.length_of.Goals as goal

pub push_length-requires : goal.push_length-requires
push_length-requires c = record {
  there = judged_reference (conditions_of (operations.Length c.args.r)) c.args.state.now c.judge.new.state
      c.args.r c.reached.ensures.form
      (length_there c.args.state.now c.args.r c.requires.there) c.requires.there c.in_ok-entailed.ensures.state;
}
