use Rattle.std.proofs.Common.{rules, ◌≡◌}
use Rattle.std.specs.Prelude.{IfOk}
use Rattle.contract_calls.specs.CallForms.{CanReturn}
use Rattle.contract_calls.specs.CallStates as rule
use Rattle.contract_calls.specs.Meaning.{KeepsEnsured}
use Rattle.contract_calls.proofs.AtReturns.{assumed_at_return, ensured_ready}
use Rattle.contract_calls.proofs.Public.{so_of_made}
use Rattle.contract_calls.proofs.returns.assume_ensures.Goals as goal

pub returns-clause-keeps : goal.returns-clause-keeps
returns-clause-keeps c =
    let value : IfOk c.assume_tree.result (λ new. new ≡ rule.ensures_assumed c.args.unit.now c.args.clause.now
    c.args.state.now) = search rules in
    so_of_made c.assume_tree.result (rule.ensures_assumed c.args.unit.now c.args.clause.now c.args.state.now)
    (KeepsEnsured c.args.unit.now c.args.clause.now c.args.state.now)
    (assumed_at_return c.args.unit.now c.args.clause.now c.args.state.now c.requires.ready c.requires.test) value

pub returns-clause-ready : goal.returns-clause-ready
returns-clause-ready c =
    let value : IfOk c.assume_tree.result (λ new. new ≡ rule.ensures_assumed c.args.unit.now c.args.clause.now
    c.args.state.now) = search rules in
    so_of_made c.assume_tree.result (rule.ensures_assumed c.args.unit.now c.args.clause.now c.args.state.now)
    (CanReturn c.args.unit.now)
    (ensured_ready c.args.unit.now c.args.clause.now c.args.state.now c.requires.ready c.requires.test) value
