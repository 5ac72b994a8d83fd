use Rattle.std.proofs.Common.{◌∙◌, subst}
use Rattle.cc_base.specs.Tests.{Judges}
use Rattle.clause_faults.specs.Faults.{first_clause_fault}
use Rattle.contract_extract.specs.Extracting.{AreContracts}
use Rattle.method_code.proofs.ReadCodes.{code_read}
use Rattle.method_code.proofs.code_reader.read_code.Goals as goal

pub returns : goal.returns
returns g c =
    let is = c.in_ok-numbered.numbered.instrs.items in
    let found = c.in_ok-contracts.contracts in
    let shape = c.in_ok-shape.shape in
    let judged : Judges found (first_clause_fault is shape) (λ contracts. AreContracts is contracts.clauses contracts.body_start) =
    subst (λ js. Judges found (first_clause_fault js shape) (λ contracts. AreContracts js contracts.clauses contracts.body_start)) c.deref.ensures.value c.in_ok-contracts.ensures.judged in
    record {
      judged = (
        c.in_ok-numbered.ensures.judged.0,
        code_read (g.T.Tokens.meaning c.args.tokens.now) c.args.method.now c.args.code.now is shape _ c.in_ok-numbered.ensures.decoded c.in_ok-numbered.ensures.judged.1 c.from_vec-2.ensures c.in_ok-shape.ensures
            (c.from_vec.ensures ∙ c.in_ok-from_slice.ensures.items ∙ c.keys.ensures ∙ c.in_ok-numbered.ensures.callees) judged c.in_ok-contracts.ensures.limits c.are_numbers-are_numbers.ensures,
      );
    }
