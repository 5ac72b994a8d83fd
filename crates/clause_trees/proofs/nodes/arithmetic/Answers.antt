use Rattle.state_obligations.specs.Conditions.{conditions_of}
use Rattle.state_obligations.specs.declared.condition.Operation.TheVariants as operations
use Rattle.clause_trees.proofs.Operands.{amount_left, divisor_left, judged_number, operator_there}
use Rattle.clause_trees.proofs.nodes.arithmetic.Goals as goal

pub push_result-requires-clause-first : goal.push_result-requires-clause-first
push_result-requires-clause-first c =
    judged_number (conditions_of (operations.Binary c.args.op c.args.a c.args.b)) c.args.state.now c.judge.new.state
    c.args.a c.reached.ensures.form
    (operator_there c.args.op c.args.state.now c.args.a c.args.b c.requires.first c.requires.second)
    c.requires.first c.in_ok-entailed.ensures.state

pub push_result-requires-clause-second : goal.push_result-requires-clause-second
push_result-requires-clause-second c =
    judged_number (conditions_of (operations.Binary c.args.op c.args.a c.args.b)) c.args.state.now c.judge.new.state
    c.args.b c.reached.ensures.form
    (operator_there c.args.op c.args.state.now c.args.a c.args.b c.requires.first c.requires.second)
    c.requires.second c.in_ok-entailed.ensures.state

pub push_result-requires-clause-divisor : goal.push_result-requires-clause-divisor
push_result-requires-clause-divisor c =
    divisor_left c.args.op c.args.a c.args.b c.args.state.now c.judge.new.state c.in_ok-entailed.ensures.state

pub push_result-requires-clause-amount : goal.push_result-requires-clause-amount
push_result-requires-clause-amount c =
    amount_left c.args.op c.args.a c.args.b c.args.state.now c.judge.new.state c.in_ok-entailed.ensures.state
