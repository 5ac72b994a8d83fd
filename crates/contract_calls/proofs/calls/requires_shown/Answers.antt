use Rattle.std.proofs.Common.{rules, ◌≡◌}
use Rattle.std.specs.Prelude.{IfOk}
use Rattle.contract_calls.specs.CallStates as rule
use Rattle.contract_calls.specs.Meaning.{IsRequiredAt}
use Rattle.contract_calls.proofs.AtCalls.{shown_at_call}
use Rattle.contract_calls.proofs.Public.{so_where_shown}
use Rattle.contract_calls.proofs.calls.requires_shown.Goals as goal

pub returns-clause-sound : goal.returns-clause-sound
returns-clause-sound c =
    let value : IfOk c.tree_shown.result (λ shown. shown ≡ rule.requires_shown c.args.callee.now c.args.clause.now
    c.args.state.now) = search rules in
    so_where_shown c.tree_shown.result (rule.requires_shown c.args.callee.now c.args.clause.now c.args.state.now)
    (IsRequiredAt c.args.callee.now c.args.clause.now c.args.state.now)
    (shown_at_call c.args.callee.now c.args.clause.now c.args.state.now c.requires.ready c.requires.test) value
