use Rattle.std.proofs.Common.{rules, ◌≡◌, true}
use Rattle.std.specs.Prelude.{IfOk}
use Rattle.clause_trees.specs.ClauseStates.{assumed}
use Rattle.clause_trees.proofs.PublicCalls.{kept_where_assumed}
use Rattle.clause_trees.proofs.clauses.assume_tree.Goals as goal

pub returns-clause-keeps : goal.returns-clause-keeps
returns-clause-keeps c =
    let value : IfOk c.assumed.result (λ is. is ≡ assumed c.args.env.now true c.args.tree.now c.args.state.now) = search rules in
    kept_where_assumed c.assumed.result c.args.env.now true c.args.tree.now c.args.state.now value
