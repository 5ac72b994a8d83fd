use Rattle.std.proofs.Common.{◌≡◌, ◌++◌, map}
use Rattle.std.specs.List.{range_with_len}
use Rattle.obligation_prover.specs.ClausesTested.{clause_obligation}
use Rattle.obligation_prover.proofs.listing.push_each.Given as goal

abbrev pub invariant-loop-before : goal.invariant-loop-before
invariant-loop-before l =
    l.found.items ≡ l.initial.found.items ++ map (clause_obligation l.instr l.test) (range_with_len 1 l.before)
