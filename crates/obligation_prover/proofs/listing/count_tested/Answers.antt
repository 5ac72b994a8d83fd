use Rattle.std.proofs.Common.{arith}
use Rattle.obligation_prover.specs.ClausesTested.{kind_tested}
use Rattle.obligation_prover.proofs.JudgingClauses.{few_counted}
use Rattle.obligation_prover.proofs.listing.count_tested.Goals as goal

pub overflow_add-count : goal.overflow_add-count
overflow_add-count c =
    omega (
      arith,
      few_counted (kind_tested c.args.test) c.args.clauses.now c.loop-clause.clause-index
          (omega (arith, c.loop-clause-test.true)),
      c.loop-clause.invariant,
      c.loop-clause-test.true,
      c.requires.few,
    )
