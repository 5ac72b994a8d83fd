use Rattle.std.proofs.Common.{rules, ◌≡◌}
use Rattle.std.specs.Prelude.{IfOk}
use Rattle.contract_calls.specs.CallForms.{CanCall}
use Rattle.contract_calls.specs.CallStates as rule
use Rattle.contract_calls.specs.Meaning.{KeepsRequired}
use Rattle.contract_calls.proofs.AtCalls.{assumed_at_call, assumed_ready}
use Rattle.contract_calls.proofs.Public.{so_of_made}
use Rattle.contract_calls.proofs.calls.assume_requires.Goals as goal

pub returns-clause-keeps : goal.returns-clause-keeps
returns-clause-keeps c =
    let value : IfOk c.assume_tree.result (λ new. new ≡ rule.requires_assumed c.args.callee.now c.args.clause.now
    c.args.state.now) = search rules in
    so_of_made c.assume_tree.result (rule.requires_assumed c.args.callee.now c.args.clause.now c.args.state.now)
    (KeepsRequired c.args.callee.now c.args.clause.now c.args.state.now)
    (assumed_at_call c.args.callee.now c.args.clause.now c.args.state.now c.requires.ready c.requires.test) value

pub returns-clause-ready : goal.returns-clause-ready
returns-clause-ready c =
    let value : IfOk c.assume_tree.result (λ new. new ≡ rule.requires_assumed c.args.callee.now c.args.clause.now
    c.args.state.now) = search rules in
    so_of_made c.assume_tree.result (rule.requires_assumed c.args.callee.now c.args.clause.now c.args.state.now)
    (CanCall c.args.callee.now)
    (assumed_ready c.args.callee.now c.args.clause.now c.args.state.now c.requires.ready c.requires.test) value
