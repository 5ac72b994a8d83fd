use Rattle.obligation_prover.proofs.Contracts.{few_tested}
use Rattle.obligation_prover.proofs.listing.push_clause_obligations.Goals as goal

pub push_each-requires : goal.push_each-requires
push_each-requires c = record {
  few = rw (c.count_tested.ensures, c.contract_of.ensures, c.tested_by-test.ensures.value)
      (few_tested c.args.unit.now c.args.instr.now.op c.requires.formed);
}
