use Rattle.std.proofs.Common.{◌≡◌, map, take}
use Rattle.ensures_infer.specs.Inferred.{clause_of}
use Rattle.ensures_infer.proofs.inference.clauses_of.Given as goal

abbrev pub invariant-loop-fact : goal.invariant-loop-fact
invariant-loop-fact l = l.clauses.items ≡ map clause_of (take l.fact-index l.facts)
