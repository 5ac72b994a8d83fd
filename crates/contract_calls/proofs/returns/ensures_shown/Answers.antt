use Rattle.std.proofs.Common.{rules, ◌≡◌}
use Rattle.std.specs.Prelude.{IfOk}
use Rattle.contract_calls.specs.CallStates as rule
use Rattle.contract_calls.specs.Meaning.{IsEnsuredAt}
use Rattle.contract_calls.proofs.AtReturns.{shown_at_return}
use Rattle.contract_calls.proofs.Public.{so_where_shown}
use Rattle.contract_calls.proofs.returns.ensures_shown.Goals as goal

pub returns-clause-sound : goal.returns-clause-sound
returns-clause-sound c =
    let value : IfOk c.tree_shown.result (λ shown. shown ≡ rule.ensures_shown c.args.unit.now c.args.clause.now
    c.args.state.now) = search rules in
    so_where_shown c.tree_shown.result (rule.ensures_shown c.args.unit.now c.args.clause.now c.args.state.now)
    (IsEnsuredAt c.args.unit.now c.args.clause.now c.args.state.now)
    (shown_at_return c.args.unit.now c.args.clause.now c.args.state.now c.requires.ready c.requires.test) value
