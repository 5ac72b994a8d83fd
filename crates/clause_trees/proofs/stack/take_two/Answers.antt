use Rattle.std.proofs.Common.{rules}
use Rattle.state_facts.specs.States.{pop}
use Rattle.std.proofs.Common.{◌≡◌}
use Rattle.clause_trees.proofs.StackLemmas.{both_still_there}
use Rattle.clause_trees.proofs.stack.take_two.Goals as goal

pub returns-clause-lower_there : goal.returns-clause-lower_there
returns-clause-lower_there c =
    let is : c.pop-2.new.self ≡ pop (pop c.args.state.now) = search rules in
    both_still_there c.args.state.now c.pop-2.new.self c.from_top-lower.result is c.from_top-lower.ensures.form

pub returns-clause-upper_there : goal.returns-clause-upper_there
returns-clause-upper_there c =
    let is : c.pop-2.new.self ≡ pop (pop c.args.state.now) = search rules in
    both_still_there c.args.state.now c.pop-2.new.self c.from_top-upper.result is c.from_top-upper.ensures.form
