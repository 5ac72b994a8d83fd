use Rattle.obligation_prover.proofs.Contracts.{contract_formed}
use Rattle.obligation_prover.proofs.NoneFalse.{finds_none}
use Rattle.obligation_prover.proofs.clauses.clauses_shown.Goals as goal

pub judge_clauses-requires-clause-contract : goal.judge_clauses-requires-clause-contract
judge_clauses-requires-clause-contract c =
    rw c.tested_by.ensures.value (contract_formed c.args.unit.now c.args.op.now c.requires.formed)

pub returns-clause-sound : goal.returns-clause-sound
returns-clause-sound c =
    rw (c.in_ok-found.ensures, c.tested_by.ensures.value)
    (finds_none c.args.unit.now c.args.op.now c.args.state c.requires.formed c.requires.ready)
