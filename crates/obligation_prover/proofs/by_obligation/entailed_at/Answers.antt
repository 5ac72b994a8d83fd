use Rattle.contract_calls.proofs.Public.{so_where_shown}
use Rattle.obligation_prover.specs.ByObligation.{EndsNotIn, clause_entailed}
use Rattle.obligation_prover.proofs.ByClause.{clause_sound}
use Rattle.obligation_prover.proofs.Contracts.{contract_formed}
use Rattle.obligation_prover.proofs.by_obligation.entailed_at.Goals as goal

pub clause_entailed-requires-clause-contract : goal.clause_entailed-requires-clause-contract
clause_entailed-requires-clause-contract c =
    rw c.tested_by.ensures.value (contract_formed c.args.unit.now c.args.op.now c.requires.formed)

pub returns-then-is_of_clause-clause-sound : goal.returns-then-is_of_clause-clause-sound
returns-then-is_of_clause-clause-sound c =
    let unit = c.args.unit.now in
    let op = c.args.op.now in
    so_where_shown c.clause_entailed.result (clause_entailed unit c.tested_by.result c.args.kind c.args.state.now)
    (EndsNotIn unit op c.args.kind c.args.state.now)
    (rw c.tested_by.ensures.value
    (clause_sound unit op c.args.kind c.args.state.now c.requires.formed c.requires.ready)) c.clause_entailed.ensures
