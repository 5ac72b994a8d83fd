use Rattle.std.proofs.Common.{rules, ◌≡◌, Some}
use Rattle.std.specs.Option.{ForSome}
use Rattle.state_obligations.specs.Conditions.{AreThere, conditions_of, with_fault}
use Rattle.tree_cases.proofs.Conditions.{found_there}
use Rattle.tree_cases.proofs.condition_rules.condition_of.Goals as goal

pub returns-in-Some : goal.returns-in-Some
returns-in-Some c =
    let all : ForSome c.args.state.now (λ known. AreThere known (conditions_of c.args.operation)) = search rules in
    let is : with_fault c.args.kind (conditions_of c.args.operation) ≡ Some c.in-Some.condition = search rules in
    found_there c.args.state.now c.args.kind c.args.operation c.in-Some.condition all is
