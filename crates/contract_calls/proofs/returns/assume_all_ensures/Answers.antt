use Rattle.contract_calls.specs.CallStates as rule
use Rattle.contract_calls.specs.Meaning.{KeepsAllEnsured}
use Rattle.contract_calls.proofs.Public.{so_of_made}
use Rattle.contract_calls.proofs.WholeReturns.{ensured_at_return}
use Rattle.contract_calls.proofs.returns.assume_all_ensures.Goals as goal

pub returns-clause-keeps : goal.returns-clause-keeps
returns-clause-keeps c =
    so_of_made c.ensured.result (rule.ensured c.args.unit.now c.args.state) (KeepsAllEnsured c.args.unit.now c.args.state)
    (ensured_at_return c.args.unit.now c.args.state c.requires.formed c.requires.ready) c.ensured.ensures
