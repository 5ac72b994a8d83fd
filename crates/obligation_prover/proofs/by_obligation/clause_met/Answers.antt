use Rattle.std.proofs.Common.{sym}
use Rattle.obligation_prover.proofs.ByClause.{clause_is_tested}
use Rattle.obligation_prover.proofs.by_obligation.clause_met.Goals as goal

pub clause_assumed-requires-clause-test : goal.clause_assumed-requires-clause-test
clause_assumed-requires-clause-test c =
    clause_is_tested c.args.unit.now c.args.test c.args.kind c.in-Some.clause.now c.requires.contract
    (sym c.in-Some.ensures)
