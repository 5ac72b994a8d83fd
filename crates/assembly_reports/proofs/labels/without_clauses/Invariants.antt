use Rattle.std.proofs.Common.{◌≡◌, ◌++◌, length, map}
use Rattle.std.specs.Vec.Iter.{into_iter_items, into_iter_len}
use Rattle.assembly_reports.specs.Labels.{without_clauses}
use Rattle.assembly_reports.proofs.labels.without_clauses.Given as goal

abbrev pub invariant-loop-callee : goal.invariant-loop-callee
invariant-loop-callee l = record {
  bare : l.bare.items ++ map without_clauses (into_iter_items l.callee-iterator) ≡ map without_clauses l.fn.callees;
  left : into_iter_len l.callee-iterator ≡ length (into_iter_items l.callee-iterator);
}
