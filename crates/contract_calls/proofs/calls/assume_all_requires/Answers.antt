use Rattle.contract_calls.specs.CallForms.{CanCall}
use Rattle.contract_calls.specs.CallStates as rule
use Rattle.contract_calls.specs.Meaning.{KeepsAllRequired}
use Rattle.contract_calls.proofs.AtCalls.{required_at_call, required_ready}
use Rattle.contract_calls.proofs.Public.{so_of_made}
use Rattle.contract_calls.proofs.calls.assume_all_requires.Goals as goal

pub returns-clause-keeps : goal.returns-clause-keeps
returns-clause-keeps c =
    so_of_made c.required.result (rule.required c.args.callee.now c.args.state)
    (KeepsAllRequired c.args.callee.now c.args.state)
    (required_at_call c.args.callee.now c.args.state c.requires.formed c.requires.ready) c.required.ensures

pub returns-clause-ready : goal.returns-clause-ready
returns-clause-ready c =
    so_of_made c.required.result (rule.required c.args.callee.now c.args.state) (CanCall c.args.callee.now)
    (required_ready c.args.callee.now c.args.state c.requires.formed c.requires.ready) c.required.ensures
