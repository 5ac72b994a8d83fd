use Rattle.contract_calls.specs.CallStates as rule
use Rattle.contract_calls.specs.Meaning.{KeepsCall}
use Rattle.contract_calls.proofs.Public.{so_of_made}
use Rattle.contract_calls.proofs.WholeCalls.{whole_kept}
use Rattle.contract_calls.proofs.calls.call.Goals as goal

pub returns-clause-keeps : goal.returns-clause-keeps
returns-clause-keeps c =
    so_of_made c.whole.result (rule.called c.args.callee.now c.args.state) (KeepsCall c.args.callee.now c.args.state)
    (whole_kept c.args.callee.now c.args.state c.requires.formed c.requires.ready) c.whole.ensures
