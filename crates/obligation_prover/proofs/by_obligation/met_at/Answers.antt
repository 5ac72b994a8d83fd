use Rattle.std.proofs.Common.{sym, ◌∙◌}
use Rattle.contract_calls.proofs.Public.{so_of_made}
use Rattle.obligation_prover.specs.ByObligation.{AssumesAt, clause_met}
use Rattle.obligation_prover.proofs.ByClause.{clause_assumes}
use Rattle.obligation_prover.proofs.Contracts.{contract_formed}
use Rattle.obligation_prover.proofs.by_obligation.met_at.Goals as goal

pub clause_met-requires-clause-contract : goal.clause_met-requires-clause-contract
clause_met-requires-clause-contract c =
    rw c.tested_by.ensures.value (contract_formed c.args.unit.now c.args.op.now c.requires.formed)

pub returns-then-is_of_clause-clause-sound : goal.returns-then-is_of_clause-clause-sound
returns-then-is_of_clause-clause-sound c =
    let unit = c.args.unit.now in
    let op = c.args.op.now in
    so_of_made c.clause_met.result (clause_met unit c.tested_by.result c.args.kind c.args.state.now)
    (AssumesAt unit op c.args.kind c.args.state.now)
    (rw c.tested_by.ensures.value
    (clause_assumes unit op c.args.kind c.args.state.now (sym c.is_of_clause.ensures ∙ c.if-is_of_clause.true)
    c.requires.formed c.requires.ready)) c.clause_met.ensures
