use Rattle.contract_calls.specs.CallStates as rule
use Rattle.contract_calls.specs.Meaning.{KeepsReturn}
use Rattle.contract_calls.proofs.Public.{so_of_made}
use Rattle.contract_calls.proofs.WholeReturns.{return_kept}
use Rattle.contract_calls.proofs.returns.give_back.Goals as goal

pub returns-clause-keeps : goal.returns-clause-keeps
returns-clause-keeps c =
    so_of_made c.whole_return.result (rule.given_back c.args.unit.now c.args.state)
    (KeepsReturn c.args.unit.now c.args.state)
    (return_kept c.args.unit.now c.args.state c.requires.formed c.requires.ready) c.whole_return.ensures
