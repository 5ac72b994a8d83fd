use Rattle.std.proofs.Common.{rules, ◌≡◌, true}
use Rattle.std.specs.Prelude.{IfOk}
use Rattle.clause_trees.specs.ClauseStates.{shown}
use Rattle.clause_trees.proofs.PublicCalls.{so_where_shown}
use Rattle.clause_trees.proofs.clauses.tree_shown.Goals as goal

pub returns-clause-sound : goal.returns-clause-sound
returns-clause-sound c =
    let value : IfOk c.is_shown.result (λ is. is ≡ shown c.args.env.now true c.args.tree.now c.args.state.now) = search rules in
    so_where_shown c.is_shown.result c.args.env.now true c.args.tree.now c.args.state.now value
