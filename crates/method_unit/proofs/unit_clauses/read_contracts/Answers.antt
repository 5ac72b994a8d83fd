use Rattle.std.proofs.Common.{ℕ, ◌≤◌, subst, sym}
use Rattle.clause_faults.proofs.FaultLemmas.FaultPlaces.{clause_fault_place}
use Rattle.method_unit.proofs.Places.{place_fits}
use Rattle.method_unit.proofs.ToldClauses.{contracts_told}
use Rattle.method_unit.proofs.unit_clauses.read_contracts.Goals as goal

pub overflow_add-result : goal.overflow_add-result
overflow_add-result c =
    let place = clause_fault_place 65536 c.args.instrs.now c.args.shape.now c.in-Err-Bad.fault c.requires.inside (rw c.in-Err-Bad.field-0-is at c.in-Err-Bad.ensures.judged) in
    place_fits c.args.base 65536 c.at.result (subst (λ (n : ℕ). n ≤ 65536) (sym c.at.ensures) place) c.requires.small

pub returns-in-Ok-clause-told : goal.returns-in-Ok-clause-told
returns-in-Ok-clause-told c =
    contracts_told c.args.instrs.now c.in-Ok.contracts.clauses c.in-Ok.contracts.body_start c.in-Ok.ensures.judged.1
