use Rattle.std.proofs.Common.{◌≡◌, length, take}
use Rattle.cil_model.specs.Clauses.{clauses_of}
use Rattle.obligation_prover.specs.ClausesTested.{kind_tested}
use Rattle.obligation_prover.proofs.listing.count_tested.Given as goal

abbrev pub invariant-loop-clause : goal.invariant-loop-clause
invariant-loop-clause l = l.count ≡ length (clauses_of (kind_tested l.test) (take l.clause-index l.clauses))
