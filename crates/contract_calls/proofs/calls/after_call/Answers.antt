use Rattle.contract_calls.specs.CallStates as rule
use Rattle.contract_calls.specs.Meaning.{KeepsReturned}
use Rattle.contract_calls.proofs.Behind.{call_kept}
use Rattle.contract_calls.proofs.Public.{so_of_made}
use Rattle.contract_calls.proofs.calls.after_call.Goals as goal

pub returns-clause-keeps : goal.returns-clause-keeps
returns-clause-keeps c =
    so_of_made c.behind.result (rule.after_call c.args.callee.now c.args.state)
    (KeepsReturned c.args.callee.now c.args.state)
    (call_kept c.args.callee.now c.args.state c.requires.formed c.requires.ready) c.behind.ensures
