use Rattle.std.proofs.Common.{◌≡◌, take}
use Rattle.std.specs.List.{AllByRecursion}
use Rattle.cil_model.specs.WellFormed.{HasInts}
use Rattle.cil_model.proofs.copies.copy_clauses.Given as goal

abbrev pub invariant-loop-clause : goal.invariant-loop-clause
invariant-loop-clause l = record {
  same : l.copies.items ≡ take l.clause-index l.clauses;
  ints : AllByRecursion HasInts l.copies.items;
}
